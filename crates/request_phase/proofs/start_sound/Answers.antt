-- `request_phase::start_sound` meets its contract: refused by number, or the place of a task that is Idle, stored anew.
use native.Mathlib.Omega.{arith}
use Rattle.memory.specs.Pieces.{is_idle}
use Rattle.memory.specs.Requests.{start}
use Rattle.request_phase.proofs.Granted.{refuses, inside, stores}
use Rattle.request_phase.proofs.start_sound.Goals as goal

pub returns-in_err-asked : goal.returns-in_err-asked
unfolding start
returns-in_err-asked c = refuses _ _ c.requires _ is_idle _ c.asked.ensures _ c.in_err-asked.was _ c.from_residual.ensures.1 _

pub placed-requires : goal.placed-requires
placed-requires c = (inside _ _ c.requires _ is_idle _ c.asked.ensures _ c.in_ok-asked.was, grind arith, grind arith)

pub returns : goal.returns
unfolding start
returns c = stores _ _ c.requires _ is_idle _ c.asked.ensures _ c.in_ok-asked.was _ _ c.bare.ensures _ _ (c.placed.ensures _ _ _)
