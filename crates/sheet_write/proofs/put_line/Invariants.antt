-- `sheet_write::put_line` meets its contract: the mark, a field for each number of the kind, and CR LF.
use Prim.Native.Nat.{◌-◌}
use Rattle.sheet_write.proofs.Fields.{Fields}
use Rattle.sheet_write.proofs.put_line.Given as goal

abbrev pub invariant-loop-field : goal.invariant-loop-field
invariant-loop-field l = Fields l.kind l.body l.initial.out l.field-end l.out l.field

abbrev pub decreases-loop-field : goal.decreases-loop-field
decreases-loop-field l = l.field-end - l.field
