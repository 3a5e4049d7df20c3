-- Those to whom a way leads from a task, one task after the other.
use Prim.Native.Nat.{ℕ}
use mathlib.Core.Path.{◌≡◌, refl, sym, ap, ◌∙◌}
use mathlib.Core.List.{List}
use mathlib.Core.Bool.{Bool, true, false, ◌&&◌, ◌||◌}
use lib.Dec.{eqb, ltb}
use lib.ListN.{length, get_or}
use native.Mathlib.Omega.{arith}
use borrow.Author.Tests.{le-ltb, ltb-true}
use Rattle.memory.specs.declared.set.TaskSet.{TaskSet}
use Rattle.memory.specs.Pieces.{no_tasks}
use Rattle.memory.specs.Lists.{has, leads}
use Rattle.memory.proofs.Sets.{has_none}
use Rattle.step_wake.specs.Contract.{LedBy, EndWith}
use Rattle.table_leads.specs.Contract.{joined_in, Ways}

pub led_none : (ways : List TaskSet) (task : ℕ) (set : TaskSet) → ((t : ℕ) → has set.bits t ≡ (eqb t task || has 0 t)) → LedBy ways 0 task set
led_none ways task set f t = f t ∙ ap (λ (b : Bool). eqb t task || b) (has_none t) ∙ ap (λ (b : Bool). eqb t task || (b && has (get_or ways t no_tasks).bits task)) (sym (le-ltb t 0 (omega arith)))

-- by the ways between all tasks
pub ends_by : (places : List (List ℕ)) (ways ways' : List TaskSet) (task : ℕ) (set : TaskSet) → Ways places ways ways' → LedBy ways' (length places) task set → EndWith places task set
ends_by places ways ways' task set w led t = led t ∙ go (ltb t (length places)) refl
  where
    go : (b : Bool) → ltb t (length places) ≡ b
        → (eqb t task || (b && has (get_or ways' t no_tasks).bits task)) ≡ (eqb t task || (b && leads (joined_in places) (length places) task t))
    go true c = ap (λ (x : Bool). eqb t task || x) (w.each task t (ltb-true _ _ c))
    go false c = refl
