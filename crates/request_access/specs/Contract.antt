-- What the functions of an access are held to, in the terms of crate memory's definitions (§6.5 to §6.8).
use Rattle.std.specs.Prelude.{ℕ, ◌<◌, ◌≡◌, true, Result, Ok, Err}
use Rattle.memory.specs.declared.Sizes.{Sizes}
use Rattle.memory.specs.declared.Place.{Place}
use Rattle.memory.specs.declared.Entry.{Entry}
use Rattle.memory.specs.declared.refusal.Refusal.{Refusal}
use Rattle.memory.specs.declared.refusal.Refusal.TheVariants.{Overtaken}
use Rattle.memory.specs.Pieces.{Memory, is_open, place, limit, ended, set_place}
use Rattle.memory.specs.Sound.{sound}
use Rattle.memory.specs.Numbers.{Reply, refused, refusal_number}
use Rattle.memory.specs.Requests.{addressed, known, fresh, added}
use Rattle.request_access.specs.declared.Access.{Access}
use Rattle.request_access.specs.declared.Access.TheVariants.{Known, New}

-- the memory that a Read or Write leaves which goes on so: a refusal leaves all as it was (§9.4), and 9 ends the transaction (§6.7)
abbrev pub left : Memory → ℕ → Result Access Refusal → Memory
left m t (Err Overtaken) = set_place m t ended
left m t w = m

-- what it answers, and what is shown
abbrev pub accessed : Memory → ℕ → Result Access Refusal → Reply → Reply → Reply
accessed m t (Err r) old new = refused (refusal_number r) (left m t (Err r))
accessed m t (Ok (Known q e)) old new = old
accessed m t (Ok (New q e)) old new = new

pub record KnownAt (z : Sizes) (m : Memory) (t a : ℕ) (q : Place) (e : Entry) : Type 0 where
  pub task : t < z.tasks
  pub inside : a < z.words
  pub here : place m t ≡ q
  pub is_open : is_open q.phase ≡ true
  pub found : e ≡ known z m t a

pub record NewAt (z : Sizes) (m : Memory) (t a : ℕ) (q : Place) (e : Entry) : Type 0 where
  pub task : t < z.tasks
  pub inside : a < z.words
  pub here : place m t ≡ q
  pub is_open : is_open q.phase ≡ true
  pub room : q.count < limit z
  pub made : e ≡ fresh z m t a
  pub lasts : sound z (added z m t a) ≡ true

abbrev pub Reached : Sizes → Memory → ℕ → ℕ → Result Access Refusal → Type 0
Reached z m t a (Err r) = r ≡ Overtaken → t < z.tasks
Reached z m t a (Ok (Known q e)) = KnownAt z m t a q e
Reached z m t a (Ok (New q e)) = NewAt z m t a q e

pub record Accesses (z : Sizes) (m : Memory) (t a : ℕ) (w : Result Access Refusal) : Type 0 where
  pub says : (old new : Reply) → addressed z m t a old new ≡ accessed m t w old new
  pub shows : Reached z m t a w
