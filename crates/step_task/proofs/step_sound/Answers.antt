-- `step_task::step_sound` meets its contract: a task that is not there is refused, and otherwise the task's row is stepped and stored back.
use native.Mathlib.Omega.{arith}
use Rattle.memory.specs.Pieces.{memory, place}
use Rattle.memory.proofs.Limits.{limit_most}
use Rattle.step_entry.specs.Contract.{Among}
use Rattle.step_entry.proofs.Parts.{few_tasks, place_in}
use Rattle.step_phase.specs.Contract.{Ready}
use Rattle.step_task.proofs.Whole.{no_task, stored}
use Rattle.step_task.proofs.step_sound.Goals.{After-from-place, Else-task-sizes}
use Rattle.step_task.proofs.step_sound.Goals as goal

pub returns-then-task-sizes : goal.returns-then-task-sizes
returns-then-task-sizes c = rw c.into.ensures (no_task _ _ _ c.requires c.if-task-sizes.true)

-- the task is one of a sound table
among : (c : Else-task-sizes) → let a = c.args in Among a.sizes (memory a.words.now a.records.now a.places.now a.entries.now) a.task
among c = record { ok = c.requires; task_in = c.if-task-sizes.false }

pub offset_bounds-places-task : goal.offset_bounds-places-task
offset_bounds-places-task c = omega (arith, few_tasks (among c))

pub slice_copy_out-from : goal.slice_copy_out-from
slice_copy_out-from c = place_in (among c)

-- its row is made its place
ready : (c : After-from-place) → let a = c.args in Ready c.from-place.result a.sizes a.words.now a.records.now a.places.now a.entries.now a.task
unfolding place
ready c = record { among = among (goal.at.After-from-place c).Else-task-sizes; own = c.from-place.ensures }

pub step_value-stepped-requires : goal.step_value-stepped-requires
step_value-stepped-requires c = ready (goal.at.step_value-stepped-requires c).After-from-place

pub row-requires : goal.row-requires
row-requires c =
    let s = c.step_value-stepped.ensures in
    let most = limit_most c.args.sizes in
    (omega (arith, s.count_fits, most), omega (arith, s.count_fits, s.position_fits, most))

pub offset_bounds-places-task-2 : goal.offset_bounds-places-task-2
offset_bounds-places-task-2 c = omega (arith, few_tasks (among (goal.at.offset_bounds-places-task-2 c).Else-task-sizes))

pub bounds-places-task : goal.bounds-places-task
bounds-places-task c = omega (arith, place_in (among (goal.at.bounds-places-task c).Else-task-sizes), c.step_value-stepped.auto.places)

pub returns : goal.returns
returns c =
    stored (ready (goal.at.returns c).After-from-place) c.step_value-stepped.ensures c.row.ensures
