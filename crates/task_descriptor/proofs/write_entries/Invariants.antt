-- `task_descriptor::write_entries` meets its contract. The loop's invariant: the entries so far are written, the rest as they were.
use mathlib.Core.Path.{◌≡◌}
use mathlib.Core.List.{◌++◌}
use lib.ListN.{drop}
use Rattle.memory.specs.Requests.{written}
use Rattle.task_descriptor.specs.Contract.{rewritten}
use Rattle.task_descriptor.proofs.write_entries.Given as goal

abbrev pub invariant-loop-row : goal.invariant-loop-row
invariant-loop-row l = l.row-items ++ drop l.n l.fn.run ≡ rewritten (written l.records l.address l.value) l.fn.run l.row-index
