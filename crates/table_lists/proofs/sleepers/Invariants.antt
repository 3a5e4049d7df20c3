-- The set has the sleepers among the tasks so far.
use Rattle.table_lists.specs.Contract.{Sleepers}
use Rattle.table_lists.proofs.sleepers.Given as goal

abbrev pub invariant-loop-t : goal.invariant-loop-t
invariant-loop-t l = Sleepers l.places l.t l.set
