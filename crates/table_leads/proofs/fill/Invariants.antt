-- The sets are stored one after the other.
use Prim.Native.Nat.{ℕ}
use mathlib.Core.List.{List, []}
use lib.ListN.{get_or}
use Rattle.memory.specs.declared.set.TaskSet.{TaskSet}
use Rattle.memory.specs.Pieces.{task_set}
use Rattle.table_leads.proofs.Parts.{Part}
use Rattle.table_leads.proofs.fill.Given as goal

-- the set that the place of task t has
abbrev pub own : List (List ℕ) → ℕ → TaskSet
own places t = task_set (get_or (get_or places t []) 3 0)

abbrev pub invariant-loop-t : goal.invariant-loop-t
invariant-loop-t l = Part (own l.places) l.initial.ways l.ways l.t
