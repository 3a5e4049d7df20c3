-- The set has the sleepers among the tasks so far.
use Rattle.std.proofs.Common.{sym, ◌∙◌, arith}
use borrow.Author.Tests.{le-ltb}
use Rattle.memory.proofs.Sets.{has_none}
use Rattle.table_lists.proofs.sleepers.Goals as goal

pub loop-t-init : goal.loop-t-init
loop-t-init c = λ w. rw c.none-set.ensures (has_none w ∙ sym (rw (le-ltb w 0 (omega arith))))
