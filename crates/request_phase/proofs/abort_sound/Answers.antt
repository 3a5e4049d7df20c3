-- `request_phase::abort_sound` meets its contract: refused by number, or the transaction ends.
use native.Mathlib.Omega.{arith}
use Rattle.memory.specs.Pieces.{is_open}
use Rattle.memory.specs.Requests.{abort}
use Rattle.request_phase.proofs.Granted.{refuses, inside, stores}
use Rattle.request_phase.proofs.abort_sound.Goals as goal

pub returns-in_err-asked : goal.returns-in_err-asked
unfolding abort
returns-in_err-asked c = refuses _ _ c.requires _ is_open _ c.asked.ensures _ c.in_err-asked.was _ c.from_residual.ensures.1 _

pub placed-requires : goal.placed-requires
placed-requires c = (inside _ _ c.requires _ is_open _ c.asked.ensures _ c.in_ok-asked.was, grind arith, grind arith)

pub returns : goal.returns
unfolding abort
returns c = stores _ _ c.requires _ is_open _ c.asked.ensures _ c.in_ok-asked.was _ _ c.ended.ensures _ _ (c.placed.ensures _ _ _)
