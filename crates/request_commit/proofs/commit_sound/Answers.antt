-- `request_commit::commit_sound` meets its contract: refused by number, or the place of a task that is Open, stored anew.
use native.Mathlib.Omega.{arith}
use Rattle.memory.specs.Pieces.{is_open, move}
use Rattle.memory.specs.Requests.{commit}
use Rattle.request_phase.proofs.Granted.{refuses, few, elsewhere, fits, stores}
use Rattle.request_commit.proofs.commit_sound.Goals as goal

pub returns-in_err-place : goal.returns-in_err-place
unfolding commit
returns-in_err-place c = refuses _ _ c.requires _ is_open _ c.asked.ensures _ c.in_err-place.was _ c.from_residual.ensures.1 _

pub placed-requires : goal.placed-requires
placed-requires c =
    let told = c.in_ok-place.was in
    fits _ _ c.requires _ is_open _ c.asked.ensures _ told _ _ c.moved-taking.ensures
    (few _ _ c.requires _ is_open _ c.asked.ensures _ told) (omega arith)

pub returns : goal.returns
unfolding commit move
returns c =
    let told = c.in_ok-place.was in
    stores _ _ c.requires _ is_open _ c.asked.ensures _ told _ _
    (elsewhere _ _ c.requires _ is_open _ c.asked.ensures _ told _ _ c.moved-taking.ensures) _ _ (c.placed.ensures _ _ _)
