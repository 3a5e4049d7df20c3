-- Sets that are stored one after the other: those before a place are new, and the others as they were.
use Prim.Native.Nat.{ℕ, ◌+◌, ◌<◌, ◌≤◌}
use mathlib.Core.Path.{◌≡◌, refl, ◌∙◌, subst⁻¹}
use mathlib.Core.Logic.{⊎_elim}
use mathlib.Core.List.{List}
use lib.ListN.{length, get_or, set, length-set}
use lib.Seq.{get_or-set_same, get_or-set_other}
use native.Mathlib.Omega.{arith}
use Rattle.memory.specs.declared.set.TaskSet.{TaskSet}
use Rattle.memory.specs.Pieces.{no_tasks}
use Rattle.memory.proofs.Tools.{same?}

pub record Part (new : ℕ → TaskSet) (sets₀ sets : List TaskSet) (t : ℕ) : Type 0 where
  pub long : length sets ≡ length sets₀
  pub done : (x : ℕ) → x < t → get_or sets x no_tasks ≡ new x
  pub rest : (x : ℕ) → t ≤ x → get_or sets x no_tasks ≡ get_or sets₀ x no_tasks

pub part_none : (new : ℕ → TaskSet) (sets : List TaskSet) → Part new sets sets 0
part_none new sets = record { long = refl; done = λ x h. absurd (omega arith); rest = λ x h. refl }

pub part_next : (new : ℕ → TaskSet) (sets₀ sets : List TaskSet) (t : ℕ) (v : TaskSet) → t < length sets₀ → Part new sets₀ sets t → v ≡ new t → Part new sets₀ (set sets t v) (t + 1)
part_next new sets₀ sets t v h P q = record {
  long = length-set sets t v ∙ P.long;
  done = λ x i. ⊎_elim
      (λ e. subst⁻¹ (λ (y : ℕ). get_or (set sets t v) y no_tasks ≡ new y) e (get_or-set_same sets t v no_tasks (omega (arith, P.long)) ∙ q))
      (λ e. get_or-set_other sets t x v no_tasks e ∙ P.done x (omega arith)) (same? x t);
  rest = λ x i. get_or-set_other sets t x v no_tasks (omega arith) ∙ P.rest x (omega arith);
}
