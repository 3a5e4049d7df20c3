-- What a request answers by the permit that it got, on a sound table, and what a permit shows of the task that asks.
use Prim.Native.Nat.{ℕ, ◌<◌}
use mathlib.Core.Path.{◌≡◌, sym, ap, ◌∙◌}
use mathlib.Core.Bool.{Bool, true}
use mathlib.Core.List.{List}
use lib.ListN.{length}
use native.Mathlib.Omega.{arith}
use Rattle.std.specs.Prelude.{Result, Ok, Err, IsErrAnd}
use borrow.Author.Tests.{eq-eqb, ne_eqb}
use Rattle.memory.specs.declared.Sizes.{Sizes}
use Rattle.memory.specs.declared.Phase.{Phase}
use Rattle.memory.specs.declared.Place.{Place}
use Rattle.memory.specs.declared.Answer.{Answer}
use Rattle.memory.specs.declared.Goal.TheVariants.{Sleep}
use Rattle.memory.specs.declared.Phase.TheVariants.{Taking}
use Rattle.memory.specs.declared.refusal.Refusal.{Refusal}
use Rattle.memory.specs.Pieces.{Memory, memory, is_open, position_of, place, ended, moved, set_place, move}
use Rattle.memory.specs.Sound.{sound}
use Rattle.memory.specs.Numbers.{Reply, reply, replied, refused, refusal_number, asked}
use Rattle.memory.specs.Requests.{wait}
use Rattle.memory.proofs.Facts.{counts, in_places}
use Rattle.memory.proofs.Limits.{limit_most}
use Rattle.task_permit.specs.Contract.{Permits, answered}
use Rattle.task_permit.proofs.Cases.{permit}

-- a place without a transaction fits a row
pub no_transaction_fits : {t n : ℕ} {x : Place} → t < n → x ≡ ended → (t < n) × (x.count < 4294967296) × (position_of x.phase < 4294967296)
no_transaction_fits h made = (h, rw made (omega arith), rw made (omega arith))

-- Of a sound table, and the permit that a request got there: it is the same whatever the other tables hold.
module _ (z : Sizes) (m : Memory) (ok : sound z m ≡ true) (t : ℕ) (allows : Phase → Bool) (got : Result Place Refusal)
    (asks : (ws rs : List ℕ) (es : List (List ℕ)) → sound z (memory ws rs m.places es) ≡ true → Permits z (memory ws rs m.places es) t allows got) where
  -- refused: what `?` hands on
  pub refuses : (r : Refusal) → got ≡ Err r → (done : Result Answer Refusal) → IsErrAnd done (λ e. e ≡ r) → (body : Reply)
      → replied (answered done) m ≡ asked z m t allows body
  refuses r told (Ok a) says body = absurd says
  refuses r told (Err e) says body = ap (λ (x : Refusal). refused (refusal_number x) m) says ∙ sym ((permit z m ok t allows got asks (Err r) told).says body)

  module _ (q : Place) (told : got ≡ Ok q) where
    pub granted : Permits z m t allows (Ok q)
    granted = permit z m ok t allows got asks (Ok q) told

    pub inside : t < length m.places
    inside = in_places z m ok t granted.shows.0

    -- its number of entries fits a row
    pub few : q.count < 4294967296
    few = omega (arith, counts z m ok t, limit_most z, ap (λ (x : Place). x.count) granted.shows.1)

    -- its place in another phase
    pub elsewhere : (phase : Phase) (x : Place) → x ≡ moved q phase → x ≡ moved (place m t) phase
    elsewhere phase x made = made ∙ ap (λ (y : Place). moved y phase) (sym granted.shows.1)

    -- a place that is stored, told by an equation
    module _ (x y : Place) (made : x ≡ y) where
      pub fits : y.count < 4294967296 → position_of y.phase < 4294967296
          → (t < length m.places) × (x.count < 4294967296) × (position_of x.phase < 4294967296)
      fits c i = (inside, rw made c, rw made i)

      pub stores : (r : Answer) (after : Memory) → replied r after ≡ reply 0 0 (set_place m t x) → replied r after ≡ asked z m t allows (reply 0 0 (set_place m t y))
      stores r after says = says ∙ ap (λ (w : Place). reply 0 0 (set_place m t w)) made ∙ sym (granted.says _)

module _ (z : Sizes) (m : Memory) (t : ℕ) (q : Place) (p : Permits z m t is_open (Ok q)) where
  -- Wait by its number of entries
  pub wait_7 : q.count ≡ 0 → refused 7 m ≡ wait z m t
  unfolding wait
  wait_7 e = sym (p.says _ ∙ rw (eq-eqb (place m t).count 0 (ap (λ (x : Place). x.count) p.shows.1 ∙ e)))

  pub wait_0 : (q.count ≡ 0 → ⊥) → wait z m t ≡ asked z m t is_open (reply 0 0 (set_place m t (moved (place m t) (Taking Sleep 0))))
  unfolding wait move
  wait_0 e = rw (ne_eqb (place m t).count 0 (λ k. e (sym (ap (λ (x : Place). x.count) p.shows.1) ∙ k)))
