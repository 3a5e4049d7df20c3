-- The laws of the whole step: what a task's place is moved to, once it is stored back, is what the definition says of the request.
use Prim.Native.Nat.{ℕ, ◌≤◌}
use mathlib.Core.Path.{◌≡◌, refl, sym, ap, ◌∙◌}
use mathlib.Core.Bool.{true, false}
use mathlib.Core.List.{List}
use lib.ListN.{set}
use Rattle.memory.specs.declared.Sizes.{Sizes}
use Rattle.memory.specs.declared.Phase.{Phase}
use Rattle.memory.specs.declared.Phase.TheVariants.{Idle, Open, Taking, Asleep, Writing, Releasing}
use Rattle.memory.specs.declared.Place.{Place}
use Rattle.memory.specs.declared.Answer.{Answer}
use Rattle.memory.specs.Pieces.{Memory, memory, steps, place, row_of, set_place}
use Rattle.memory.specs.Numbers.{Reply, replied, refused, too_early}
use Rattle.memory.specs.Step.{step_in, step}
use Rattle.memory.specs.Sound.{sound}
use Rattle.memory.proofs.Cases.{asked_0, asked_3, asked_4}
use Rattle.step_entry.specs.Contract.{Among}
use Rattle.step_phase.specs.Contract.{Ready, Stepped}

-- The request -------------------------------------------------------------------------------------------------------------------

-- the phases that a step refuses are refused by the definition of the step in them too
step_in_lem : {z : Sizes} {m : Memory} {t : ℕ} → Among z m t → step_in z m t (place m t).count (place m t).phase ≡ step z m t
unfolding step step_in
step_in_lem {z} {m} {t} h = go (place m t).phase refl
  where
    body : Reply
    body = step_in z m t (place m t).count (place m t).phase

    allowed : steps (place m t).phase ≡ true → body ≡ step z m t
    allowed k = sym (asked_0 z m t steps body h.ok h.task_in k)

    early : (p : Phase) → (place m t).phase ≡ p → steps p ≡ false → step_in z m t (place m t).count p ≡ refused (too_early p) m → body ≡ step z m t
    early p e k r = ap (step_in z m t (place m t).count) e ∙ r ∙ sym (asked_4 z m t steps body h.ok h.task_in (ap steps e ∙ k))

    go : (p : Phase) → (place m t).phase ≡ p → body ≡ step z m t
    go Idle e = early Idle e refl refl
    go Open e = early Open e refl refl
    go (Taking g i) e = allowed (ap steps e)
    go Asleep e = allowed (ap steps e)
    go (Writing i) e = allowed (ap steps e)
    go (Releasing o i) e = allowed (ap steps e)

pub no_task : (z : Sizes) (m : Memory) (t : ℕ) → sound z m ≡ true → z.tasks ≤ t → refused 3 m ≡ step z m t
unfolding step
no_task z m t ok h = sym (asked_3 z m t steps _ ok h)

-- The place is stored back ---------------------------------------------------------------------------------------------------

module _ {q : Place} {z : Sizes} {words records : List ℕ} {places entries : List (List ℕ)} {t : ℕ} (y : Ready q z words records places entries t) where
  abbrev m : Memory
  m = memory words records places entries

  pub stored : {q' : Place} {words' records' : List ℕ} {places' : List (List ℕ)} {a : Answer} {row : List ℕ}
      → Stepped q z words records places entries t q' words' records' places' a → row ≡ row_of q'
      → replied a (memory words' records' (set places' t row) entries) ≡ step z m t
  unfolding set_place
  stored {words' = words'} {records'} {places'} {a} s e =
      ap (λ (r : List ℕ). replied a (memory words' records' (set places' t r) entries)) e
      ∙ s.leaves ∙ ap (λ (x : Place). step_in z m t x.count x.phase) y.own ∙ step_in_lem y.among
