-- `request_commit::wait_sound` meets its contract: refused by number, or the place of a task that is Open, with entries, stored anew.
use mathlib.Core.Path.{sym, ◌∙◌}
use native.Mathlib.Omega.{arith}
use Rattle.memory.specs.Pieces.{is_open}
use Rattle.memory.specs.Requests.{wait}
use Rattle.request_phase.proofs.Granted.{refuses, granted, few, elsewhere, fits, stores, wait_7, wait_0}
use Rattle.request_commit.proofs.wait_sound.Goals as goal

pub returns-in_err-place : goal.returns-in_err-place
unfolding wait
returns-in_err-place c = refuses _ _ c.requires _ is_open _ c.asked.ensures _ c.in_err-place.was _ c.from_residual.ensures.1 _

pub returns-then-place-eq0 : goal.returns-then-place-eq0
returns-then-place-eq0 c =
    wait_7 _ _ _ _ (granted _ _ c.requires _ is_open _ c.asked.ensures _ c.in_ok-place.was) c.if-place-eq0.true

pub placed-requires : goal.placed-requires
placed-requires c =
    let told = c.in_ok-place.was in
    fits _ _ c.requires _ is_open _ c.asked.ensures _ told _ _ c.moved-taking.ensures
    (few _ _ c.requires _ is_open _ c.asked.ensures _ told) (omega arith)

pub returns : goal.returns
returns c =
    let told = c.in_ok-place.was in
    let p = granted _ _ c.requires _ is_open _ c.asked.ensures _ told in
    stores _ _ c.requires _ is_open _ c.asked.ensures _ told _ _
    (elsewhere _ _ c.requires _ is_open _ c.asked.ensures _ told _ _ c.moved-taking.ensures) _ _ (c.placed.ensures _ _ _)
    ∙ sym (wait_0 _ _ _ _ p c.if-place-eq0.false)
