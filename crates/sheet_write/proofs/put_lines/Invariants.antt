-- `sheet_write::put_lines` meets its contract: at each turn the records put and those of what is left are the whole session.
use Prim.Native.Nat.{◌-◌}
use lib.ListN as lists
use lib.ListN.{take, drop}
use Rattle.sheet_write.proofs.Under.{Under}
use Rattle.sheet_write.proofs.put_lines.Given as goal

abbrev pub invariant-loop-kind : goal.invariant-loop-kind
invariant-loop-kind l = Under l.session l.initial.out l.out l.from l.lines

abbrev pub decreases-loop-kind : goal.decreases-loop-kind
decreases-loop-kind l = lists.length l.session - l.from
