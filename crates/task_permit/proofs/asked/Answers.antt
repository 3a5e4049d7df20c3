-- `task_permit::asked` meets its contract: each way out is one of the cases of a request.
use mathlib.Core.Path.{sym, ◌∙◌}
use native.Mathlib.Omega.{arith}
use Rattle.memory.specs.Pieces.{place}
use Rattle.task_permit.proofs.Cases.{permit_0, permit_3, permit_4}
use Rattle.task_permit.proofs.asked.Goals as goal

pub returns-then-sizes-task : goal.returns-then-sizes-task
returns-then-sizes-task c = λ ws rs es ok. permit_3 _ _ _ _ ok c.if-sizes-task.true

pub returns-then-allows : goal.returns-then-allows
unfolding place
returns-then-allows c = λ ws rs es ok. permit_0 _ _ _ _ ok (omega arith) _ c.from-place.ensures (sym c.allows.ensures ∙ c.if-allows.true)

pub returns-else-allows : goal.returns-else-allows
unfolding place
returns-else-allows c = λ ws rs es ok. permit_4 _ _ _ _ ok (omega arith) _ c.from-place.ensures (sym c.allows.ensures ∙ c.if-allows.false)
