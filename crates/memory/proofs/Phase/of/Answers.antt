-- `Phase::of` meets its contract: every number that is in no arm is past the end of the list of phases, or Idle's.
use mathlib.Core.Path.{sym}
use mathlib.Core.Logic.{⊎_elim}
use native.Mathlib.Nat.{eq-zero-or-pos}
use native.Mathlib.Omega.{arith}
use lib.ListN.{get_or-eq_default}
use Rattle.memory.specs.declared.Phase.TheVariants.{Idle}
use Rattle.memory.specs.Pieces.{phase_of, phases_at}
use Rattle.memory.proofs.Phase.of.Goals as goal

pub returns-in_default : goal.returns-in_default
unfolding phase_of
returns-in_default c =
    ⊎_elim
    (λ none. rw none)
    (λ some. sym (get_or-eq_default (phases_at c.args.position) Idle (omega arith)))
    (eq-zero-or-pos c.args.code)
