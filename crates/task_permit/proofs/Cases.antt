-- The permits that the cases of a request give, on a sound table.
use Prim.Native.Nat.{ℕ, ◌<◌, ◌≤◌}
use mathlib.Core.Path.{◌≡◌, refl, sym, ap, ◌∙◌, subst}
use mathlib.Core.Logic.{inl, inr}
use mathlib.Core.Bool.{Bool, true, false}
use mathlib.Core.List.{List}
use Rattle.std.specs.Prelude.{Result, Ok, Err}
use Rattle.memory.specs.declared.Sizes.{Sizes}
use Rattle.memory.specs.declared.Phase.{Phase}
use Rattle.memory.specs.declared.Place.{Place}
use Rattle.memory.specs.declared.refusal.Refusal.{Refusal}
use Rattle.memory.specs.declared.refusal.Refusal.TheVariants.{NoTask, TooEarly}
use Rattle.memory.specs.Pieces.{Memory, memory, place}
use Rattle.memory.specs.Sound.{sound}
use Rattle.memory.specs.Numbers.{refused, too_early}
use Rattle.memory.proofs.Cases.{asked_0, asked_3, asked_4}
use Rattle.task_permit.specs.Contract.{Permits}

module _ (z : Sizes) (m : Memory) (t : ℕ) (allows : Phase → Bool) (ok : sound z m ≡ true) where
  pub permit_3 : z.tasks ≤ t → Permits z m t allows (Err NoTask)
  permit_3 h = record { says = λ body. asked_3 z m t allows body ok h; shows = inl refl }

  module _ (h : t < z.tasks) (q : Place) (e : q ≡ place m t) where
    abbrev at_place : (b : Bool) → allows q.phase ≡ b → allows (place m t).phase ≡ b
    at_place b k = sym (ap (λ (p : Place). allows p.phase) e) ∙ k

    -- the number is that of the phase in which the task came too early
    pub permit_4 : allows q.phase ≡ false → Permits z m t allows (Err (TooEarly q.phase))
    permit_4 k =
        record {
          says = λ body. asked_4 z m t allows body ok h (at_place false k) ∙ ap (λ (p : Place). refused (too_early p.phase) m) (sym e);
          shows = inr (ap (λ (p : Place). TooEarly p.phase) e);
        }

    pub permit_0 : allows q.phase ≡ true → Permits z m t allows (Ok q)
    permit_0 k = record { says = λ body. asked_0 z m t allows body ok h (at_place true k); shows = (h, sym e, k) }

-- the permit that a request got, whatever the other tables hold, told by an equation
pub permit : (z : Sizes) (m : Memory) → sound z m ≡ true → (t : ℕ) (allows : Phase → Bool) (got : Result Place Refusal)
    → ((ws rs : List ℕ) (es : List (List ℕ)) → sound z (memory ws rs m.places es) ≡ true → Permits z (memory ws rs m.places es) t allows got)
    → (p : Result Place Refusal) → got ≡ p → Permits z m t allows p
permit z m ok t allows got asks p told = subst (Permits z m t allows) told (asks m.words m.records m.entries ok)
