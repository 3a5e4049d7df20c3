-- The laws of a step that takes a record: what the code does is what the definition says.
use Prim.Native.Nat.{ℕ, ◌+◌, ◌<◌}
use mathlib.Core.Path.{◌≡◌, refl, sym, ap, ◌∙◌}
use mathlib.Core.Logic.{◌≢◌}
use mathlib.Core.Bool.{true}
use mathlib.Core.List.{List}
use lib.ListN.{set}
use native.Mathlib.Numerals.{add-one}
use native.Mathlib.Omega.{arith}
use borrow.Author.Tests.{eq-eqb, ne_eqb}
use Rattle.memory.specs.declared.Sizes.{Sizes}
use Rattle.memory.specs.declared.Goal.{Goal}
use Rattle.memory.specs.declared.Outcome.TheVariants.{Failed}
use Rattle.memory.specs.declared.Phase.TheVariants.{Taking, Releasing}
use Rattle.memory.specs.declared.Place.{Place}
use Rattle.memory.specs.declared.Held.TheVariants.{Version, Owner}
use Rattle.memory.specs.declared.Entry.{Entry}
use Rattle.memory.specs.Pieces.{Memory, memory, number_of, place, moved, set_held, move}
use Rattle.memory.specs.Sound.{sound}
use Rattle.memory.specs.Step.{take_step}
use Rattle.step_entry.proofs.Parts.{Found, at_record, holds}
use Rattle.step_meet.specs.Contract.{Came}
use Rattle.step_take.specs.Contract.{Leaves, takes}

module _ {z : Sizes} {m : Memory} {t i : ℕ} (x : Found z m t i) {q : Place} (own : q ≡ place m t) (g : Goal) where
  abbrev e : Entry
  e = x.the_entry

  pub take_free : (v n : ℕ) → x.the_held ≡ Version v → v ≡ e.old.version → n ≡ number_of (Owner t)
      → Leaves m (memory m.words (set m.records x.the_record n) m.places m.entries) t i (moved q (Taking g (i + 1))) (takes z m t g i)
  unfolding take_step move set_held place
  take_free v n h k d =
      rw own
      record {
        leaves = rw (holds x (Version v) h, eq-eqb v _ (k ∙ ap (λ (y : Entry). y.old.version) x.is-entry), d, at_record x, add-one);
        same_count = refl;
        near = omega arith;
      }

  pub take-late : (v : ℕ) → x.the_held ≡ Version v → v ≢ e.old.version → Leaves m m t i (moved q (Releasing Failed 0)) (takes z m t g i)
  unfolding take_step move
  take-late v h k =
      rw own
      record {
        leaves = rw (holds x (Version v) h, ne_eqb v _ (λ y. k (y ∙ ap (λ (y : Entry). y.old.version) (sym x.is-entry))));
        same_count = refl;
        near = omega arith;
      }

  pub take_own : (u : ℕ) → x.the_held ≡ Owner u → u ≡ t → Leaves m m t i (moved q (Taking g (i + 1))) (takes z m t g i)
  unfolding take_step move
  take_own u h k = rw own record { leaves = rw (holds x (Owner u) h, eq-eqb u t k, add-one); same_count = refl; near = omega arith }

  pub take_met : {places' : List (List ℕ)} {q' : Place} (u : ℕ) → sound z m ≡ true → t < z.tasks → q.phase ≡ Taking g i → x.the_held ≡ Owner u → u ≢ t
      → Came (record { place = q; goal = g; i = i; entry = e }) z m.places m.entries u q' places'
      → Leaves m (memory m.words m.records places' m.entries) t i q' (takes z m t g i)
  unfolding take_step
  take_met u ok lt taking h k c =
      record {
        leaves = rw (holds x (Owner u) h, ne_eqb u t k, ← x.is-entry) (c.leaves m.words m.records t ok lt (λ y. k (sym y)) own taking);
        same_count = rw (← own) c.same_count;
        near = c.near;
      }
