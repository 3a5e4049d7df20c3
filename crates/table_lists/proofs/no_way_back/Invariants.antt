-- No way leads back to one of the tasks so far.
use Prim.Native.Nat.{ℕ}
use mathlib.Core.Path.{◌≡◌}
use mathlib.Core.List.{List}
use mathlib.Core.Bool.{Bool, true, not}
use lib.ListN.{length}
use Rattle.memory.specs.Lists.{leads}
use Rattle.memory.specs.Sound.{all_below}
use Rattle.table_leads.specs.Contract.{joined_in}
use Rattle.table_lists.proofs.no_way_back.Given as goal

abbrev pub back : List (List ℕ) → ℕ → Bool
back places t = not (leads (joined_in places) (length places) t t)

abbrev pub invariant-loop-t : goal.invariant-loop-t
invariant-loop-t l = all_below l.t (back l.places) ≡ true
