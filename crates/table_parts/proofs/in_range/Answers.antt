-- `in_range` is `within`.
use Rattle.std.proofs.Common.{le-leb}
use borrow.Author.Tests.{lt-leb}
use Rattle.memory.specs.Sound.{within}
use Rattle.table_parts.proofs.in_range.Goals as goal

pub returns-then-low-n : goal.returns-then-low-n
unfolding within
returns-then-low-n c = simp (le-leb _ _ c.if-low-n.true)

pub returns-else-low-n : goal.returns-else-low-n
unfolding within
returns-else-low-n c = simp (lt-leb _ _ c.if-low-n.false)
