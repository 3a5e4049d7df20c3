-- A number below the first owner's is a version, any other an owner.
use mathlib.Core.Bool.{and-true}
use Rattle.std.proofs.Common.{arith, le-ltb, lt-ltb, le-leb}
use Rattle.memory.specs.Pieces.{held_of, top_version}
use Rattle.memory.specs.Sound.{within}
use Rattle.table_parts.specs.Parts.{record_ok}
use Rattle.table_parts.proofs.record_ok.Goals as goal

pub returns-then-number-lt-FIRST_OWNER : goal.returns-then-number-lt-FIRST_OWNER
unfolding record_ok held_of within
returns-then-number-lt-FIRST_OWNER c = simp (lt-ltb _ _ c.if-number-lt-FIRST_OWNER.true, le-leb c.args.number top_version (omega arith), and-true)

pub returns-else-number-lt-FIRST_OWNER : goal.returns-else-number-lt-FIRST_OWNER
unfolding record_ok held_of
returns-else-number-lt-FIRST_OWNER c = simp (le-ltb _ _ c.if-number-lt-FIRST_OWNER.false)
