-- `session_run::run_records` meets its contract: at each turn the text printed and the run of what is left are the whole run.
use Prim.Native.Nat.{◌-◌}
use lib.ListN.{length}
use Rattle.memory.specs.Pieces.{memory}
use Rattle.session_run.proofs.Under.{Under}
use Rattle.session_run.proofs.run_records.Given as goal

abbrev pub invariant-loop-kind : goal.invariant-loop-kind
invariant-loop-kind l =
    Under l.session l.sizes l.first (memory l.initial.words l.initial.records l.initial.places l.initial.entries) l.initial.out (memory l.words l.records l.places l.entries) l.out l.from l.index

abbrev pub decreases-loop-kind : goal.decreases-loop-kind
decreases-loop-kind l =
    length l.session - l.from
