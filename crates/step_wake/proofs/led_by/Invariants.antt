-- `step_wake::led_by` meets its contract: the set has the task and those passed to whom a way leads.
use Rattle.step_wake.specs.Contract.{LedBy}
use Rattle.step_wake.proofs.led_by.Given as goal

abbrev pub invariant-loop-t : goal.invariant-loop-t
invariant-loop-t l = LedBy l.ways l.t l.task l.set
