-- `step_phase::decide` meets its contract: each goal has its own phase and number.
use mathlib.Core.Path.{refl}
use Rattle.memory.specs.Pieces.{move}
use Rattle.memory.specs.Step.{decide}
use Rattle.step_phase.proofs.decide.Goals as goal

pub returns-in-Commit : goal.returns-in-Commit
unfolding decide move
returns-in-Commit c = rw (c.plain.ensures, c.moved.ensures, c.in-Commit.is) (record { leaves = λ m t own. rw own; same_count = refl; at_start = refl })

pub returns-in-Sleep : goal.returns-in-Sleep
unfolding decide move
returns-in-Sleep c = rw (c.plain-in-Sleep.ensures, c.moved-in-Sleep.ensures, c.in-Sleep.is) (record { leaves = λ m t own. rw own; same_count = refl; at_start = refl })
