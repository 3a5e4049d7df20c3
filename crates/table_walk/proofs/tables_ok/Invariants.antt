-- The three loops: what each has found, and what is left of it. The walk reads three tables, of which the words are no part.
use Prim.Native.Nat.{◌-◌}
use mathlib.Core.List.{[]}
use Rattle.memory.specs.Pieces.{memory}
use Rattle.table_walk.proofs.Found.{TasksFound, EntriesFound, PairsFound}
use Rattle.table_walk.proofs.tables_ok.Given as goal

abbrev pub invariant-pairs : goal.invariant-pairs
invariant-pairs l = PairsFound l.told l.address l.until l.j

abbrev pub invariant-entries : goal.invariant-entries
invariant-entries l =
    EntriesFound l.sizes (memory [] l.records l.places l.entries) l.t l.n l.base record { met = l.initial.met; owned = l.initial.owned } l.told
    record { met = l.met; owned = l.owned } l.top l.i

abbrev pub invariant-tasks : goal.invariant-tasks
invariant-tasks l =
    TasksFound l.sizes (memory [] l.records l.places l.entries) record { met = l.initial.met; owned = l.initial.owned } l.told
    record { met = l.met; owned = l.owned } l.t

abbrev pub decreases-tasks : goal.decreases-tasks
decreases-tasks l = l.sizes.tasks - l.t
