-- The three sizes, each in its range.
use Rattle.std.proofs.Common.{◌≡◌, ◌&&◌, sym, ◌∙◌}
use Rattle.memory.specs.Pieces.{most_words, most_records}
use Rattle.memory.specs.Sound.{within, sizes_ok}
use Rattle.table_parts.proofs.Tests.{and_then, and-stop}
use Rattle.table_parts.proofs.sizes_ok.Goals.{Joined-in_range, then-in_range, else-in_range}
use Rattle.table_parts.proofs.sizes_ok.Goals as goal

two : (c : Joined-in_range) → let z = c.args.sizes in c.if-in_range.value ≡ (within 1 most_words z.words && within 1 most_records z.records)
two c =
    let e = c.in_range.ensures in
    elim c.if-in_range.branch [
      | then-in_range w ↦ and_then (sym e ∙ w.if-in_range.true) (w.value-is ∙ w.in_range-then-in_range.ensures)
      | else-in_range w ↦ and-stop _ (sym e ∙ w.if-in_range.false) (w.value-is ∙ e)
    ]

pub returns-then-in_range-2 : goal.returns-then-in_range-2
unfolding sizes_ok
returns-then-in_range-2 c = and_then (sym (two (goal.at.returns-then-in_range-2 c).Joined-in_range) ∙ c.if-in_range-2.true) c.in_range-then-in_range-2.ensures

pub returns-else-in_range-2 : goal.returns-else-in_range-2
unfolding sizes_ok
returns-else-in_range-2 c = and-stop _ (sym (two (goal.at.returns-else-in_range-2 c).Joined-in_range) ∙ c.if-in_range-2.false) (two (goal.at.returns-else-in_range-2 c).Joined-in_range)
