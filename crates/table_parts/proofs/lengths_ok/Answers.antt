-- The four lengths, each as the sizes ask.
use mathlib.Core.Bool.{and-false}
use Rattle.std.proofs.Common.{◌≡◌, ◌≤◌, true, eqb, length, sym, ap, ◌∙◌, eq-eqb, ne_eqb, inl, inr}
use Rattle.memory.specs.declared.Sizes.{Sizes}
use Rattle.memory.specs.Pieces.{most_tasks}
use Rattle.memory.specs.Sound.{sizes_ok, lengths_ok}
use Rattle.memory.proofs.Tools.{and_1, within_of}
use Rattle.memory.proofs.Limits.{run_last}
use Rattle.table_parts.proofs.lengths_ok.Goals as goal

tasks_most : (z : Sizes) → sizes_ok z ≡ true → z.tasks ≤ most_tasks
unfolding sizes_ok
tasks_most z h = (within_of {low = 1} {high = most_tasks} {n = z.tasks} (search and_1)).1

pub run_start-requires : goal.run_start-requires
run_start-requires c = tasks_most _ c.requires

pub returns-then-places-sizes : goal.returns-then-places-sizes
unfolding lengths_ok
returns-then-places-sizes c =
    let w = c.if-places-sizes.true in
    simp (eq-eqb _ _ w.0, eq-eqb _ _ w.1, eq-eqb _ _ w.2) (ap (eqb _) (c.run_start.ensures ∙ sym (run_last _)))

pub returns-else-places-sizes : goal.returns-else-places-sizes
unfolding lengths_ok
returns-else-places-sizes c =
    let a = c.args.board in
    elim c.if-places-sizes.either [
      | inl w ↦ simp (ne_eqb (length a.places.now) a.sizes.tasks w.2, and-false) (cc)
      | inr (inl w) ↦ simp (ne_eqb (length a.records.now) a.sizes.records w.1, and-false) (cc)
      | inr (inr w) ↦ simp (ne_eqb (length a.words.now) a.sizes.words w) (cc)
    ]
