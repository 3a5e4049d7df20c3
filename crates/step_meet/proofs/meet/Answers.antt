-- `step_meet::meet` meets its contract: a law for each way through it.
use mathlib.Core.Path.{sym, ◌∙◌}
use native.Mathlib.Omega.{arith}
use Rattle.step_wake.proofs.Ends.{few, task_there}
use Rattle.step_meet.proofs.Meets.{records_there, may_wake, may_look, came_clash, came_differs, came_joins}
use Rattle.step_meet.proofs.meet.Goals as goal

pub offset_bounds-places-owner : goal.offset_bounds-places-owner
offset_bounds-places-owner c = omega (arith, few (may_wake c.requires))

pub slice_copy_out-from : goal.slice_copy_out-from
slice_copy_out-from c = task_there (may_wake c.requires)

pub clash-requires : goal.clash-requires
clash-requires c = may_wake c.requires

pub returns-then-not-joining : goal.returns-then-not-joining
returns-then-not-joining c =
    rw c.moved.ensures (came_clash c.requires _ c.from-met.ensures c.clash.ensures (sym c.joining.ensures ∙ c.if-not-joining.true))

pub record_of-record-requires : goal.record_of-record-requires
record_of-record-requires c = records_there c.requires

pub version_on-seen-requires : goal.version_on-seen-requires
version_on-seen-requires c = may_look c.requires _ c.from-met.ensures _ c.record_of-record.ensures

pub returns-then-seen-entry : goal.returns-then-seen-entry
returns-then-seen-entry c =
    rw c.moved-then-seen-entry.ensures
    (came_differs c.requires _ c.from-met.ensures (sym c.joining.ensures ∙ c.if-not-joining.false) (rw c.record_of-record.ensures at c.version_on-seen.ensures) c.if-seen-entry.true)

pub with-joins-requires : goal.with-joins-requires
with-joins-requires c = (few (may_wake c.requires)).0

pub returns : goal.returns
returns c =
    rw c.placed.ensures
    (came_joins c.requires _ c.from-met.ensures (sym c.joining.ensures ∙ c.if-not-joining.false) (rw c.record_of-record.ensures at c.version_on-seen.ensures) c.if-seen-entry.false _ c.with-joins.ensures)
