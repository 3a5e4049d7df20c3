-- What Read and Write know of an entry that is added.
use Rattle.std.specs.Prelude.{Result, Ok, Err, IsErrAnd}
use Prim.Native.Nat.{ℕ, suc, ◌≤◌}
use mathlib.Core.Path.{◌≡◌, sym, ap, ◌∙◌, subst, subst⁻¹}
use mathlib.Core.Bool.{true}
use native.Mathlib.Omega.{arith}
use Rattle.memory.specs.declared.Sizes.{Sizes}
use Rattle.memory.specs.declared.Place.{Place}
use Rattle.memory.specs.declared.Entry.{Entry}
use Rattle.memory.specs.declared.refusal.Refusal.{Refusal}
use Rattle.memory.specs.declared.Answer.{Answer}
use Rattle.memory.specs.Pieces.{Memory, position_of, set_place, set_entry}
use Rattle.memory.specs.Sound.{sound}
use Rattle.memory.specs.Numbers.{Reply, reply, replied, refusal_number}
use Rattle.memory.specs.Requests.{addressed, added}
use Rattle.memory.proofs.Facts.{in_places, entries-length, position_n}
use Rattle.memory.proofs.Limits.{run_inside}
use Rattle.memory.proofs.Fresh.{added-place}
use Rattle.task_permit.specs.Contract.{answered}
use Rattle.task_descriptor.specs.Contract.{Within, Addable, grown}
use Rattle.task_descriptor.proofs.Entries.{within}
use Rattle.request_access.specs.declared.Access.{Access}
use Rattle.request_access.specs.declared.Access.TheVariants.{New}
use Rattle.request_access.specs.Contract.{Accesses, left}

-- how a request goes on, told by an equation
pub access : {z : Sizes} {m : Memory} {t a : ℕ} {got w : Result Access Refusal} → Accesses z m t a got → got ≡ w → Accesses z m t a w
access {z} {m} {t} {a} goes told = subst (Accesses z m t a) told goes

-- what is left where it is not refused
pub kept : {m m' : Memory} (t : ℕ) {got : Result Access Refusal} (x : Access) → m' ≡ left m t got → got ≡ Ok x → m' ≡ m
kept {m} t x leaves told = leaves ∙ ap (left m t) told

-- what `?` hands on where it is refused
pub refuses : {z : Sizes} {m m' : Memory} {t a : ℕ} {got : Result Access Refusal} {r : Refusal} (done : Result Answer Refusal) → Accesses z m t a got → m' ≡ left m t got
    → got ≡ Err r → IsErrAnd done (λ e. e ≡ r) → (old new : Reply) → replied (answered done) m' ≡ addressed z m t a old new
refuses (Ok x) goes leaves told says old new = absurd says
refuses {z} {m} {m'} {t} {a} {got} {r} (Err e) goes leaves told says old new =
    ap (λ (x : Refusal). reply (refusal_number x) 0 m') says
    ∙ ap (reply (refusal_number r) 0) (leaves ∙ ap (left m t) told)
    ∙ sym ((access goes told).says old new)

module _ (z : Sizes) (m m' : Memory) (t a : ℕ) (q : Place) (e : Entry) (w : Accesses z m t a (Ok (New q e))) (same : m' ≡ m) where
  -- the entry that is added
  pub adds : grown z m' t q e ≡ added z m t a
  unfolding added
  adds = rw (same, w.shows.here, w.shows.made)

  pub addable : sound z m ≡ true → Addable z m'.places m'.entries t q e
  unfolding set_place set_entry
  addable ok =
      let s = w.shows in
      let more = ap (λ (x : Place). x.count) (added-place z m ok t s.task a) ∙ ap (λ (x : Place). suc x.count) s.here in
      rw same
      record {
        task = in_places z m ok t s.task;
        room = s.room;
        near = subst (λ (x : Place). position_of x.phase ≤ x.count) s.here (position_n z m ok t s.task);
        fits = omega (arith, run_inside z t s.task m (entries-length z m ok), s.room);
        within = subst⁻¹ (λ (x : Memory). Within z x.entries t (suc q.count)) (rw same at adds) (within z (added z m t a) s.lasts t s.task (suc q.count) more);
      }
