-- `step_meet::clash` meets its contract: the owner takes, sleeps, or does neither.
use mathlib.Core.Path.{◌∙◌}
use native.Mathlib.Omega.{arith}
use Rattle.memory.specs.Pieces.{memory, place, set_place}
use Rattle.step_wake.proofs.Ends.{few, task_there, may_end}
use Rattle.step_meet.proofs.Meets.{clash_taker, clash_sleeper, clash_none}
use Rattle.step_meet.proofs.clash.Goals as goal

pub offset_bounds-places-owner : goal.offset_bounds-places-owner
offset_bounds-places-owner c = omega (arith, few c.requires)

pub slice_copy_out-from : goal.slice_copy_out-from
slice_copy_out-from c = task_there c.requires

pub row-requires : goal.row-requires
row-requires c =
    rw (c.moved.ensures, c.from-place.ensures) (((may_end c.requires).rows _ (task_there c.requires)).count, omega arith)

pub offset_bounds-places-owner-in-Taking : goal.offset_bounds-places-owner-in-Taking
offset_bounds-places-owner-in-Taking c = omega (arith, few c.requires)

pub bounds-places-owner : goal.bounds-places-owner
bounds-places-owner c = task_there c.requires

pub returns-in-Taking : goal.returns-in-Taking
unfolding place set_place
returns-in-Taking c z words records entries long =
    rw (c.row.ensures, c.moved.ensures)
    (clash_taker z (memory words records c.args.places.now entries) c.args.owner _ c.from-place.ensures _ _ c.in-Taking.is)

pub returns-in-Asleep : goal.returns-in-Asleep
unfolding place
returns-in-Asleep c z words records entries long =
    c.wake.ensures z words records entries long
    ∙ clash_sleeper z (memory words records c.args.places.now entries) c.args.owner _ c.from-place.ensures c.in-Asleep.is

pub returns-in_default : goal.returns-in_default
unfolding place
returns-in_default c z words records entries long =
    clash_none z (memory words records c.args.places.now entries) c.args.owner _ c.from-place.ensures c.in_default.not-Taking c.in_default.not-Asleep
