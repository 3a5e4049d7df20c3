-- `step_wake::end_all` meets its contract: those of the set that were passed have ended.
use Rattle.step_wake.proofs.Ends.{Ends}
use Rattle.step_wake.proofs.end_all.Given as goal

abbrev pub invariant-loop-t : goal.invariant-loop-t
invariant-loop-t l = Ends l.ends l.initial.places l.places l.t
