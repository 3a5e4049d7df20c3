-- `table_look::logical` meets its contract: by what the record holds. Soundness says that every read is inside its table, and that an
-- owner has an entry on the record.
use Prim.Native.Nat.{ℕ, ◌%◌, ◌<◌}
use mathlib.Core.Path.{◌≡◌, sym, ap, ◌∙◌}
use native.Mathlib.Omega.{arith}
use Rattle.memory.specs.declared.Held.TheVariants.{Owner}
use Rattle.memory.specs.Lent.{lent}
use Rattle.memory.specs.Pieces.{held, most_tasks, place}
use Rattle.memory.specs.Logical.{logical, logical_at}
use Rattle.memory.proofs.Facts.{words_most, words-length, some_record, in_records, records-length, records_most, in_places, tasks_most}
use Rattle.table_look.proofs.Owner.{task_below, run_inside, beside, owner_shows}
use Rattle.table_look.proofs.logical.Goals.{In-Owner}
use Rattle.table_look.proofs.logical.Goals as goal

-- what that arm knows: the task owns the record, is one of the few tasks, and its run is in the table
owner : (c : In-Owner) → held (lent c.args.sound.board) (c.args.address % c.args.sound.board.sizes.records) ≡ Owner c.in-Owner.task
unfolding held
owner c =
    ap (λ (r : ℕ). held (lent c.args.sound.board) r) (sym c.record_of-record.ensures) ∙ sym c.from.ensures ∙ c.in-Owner.is

below : (c : In-Owner) → c.in-Owner.task < c.args.sound.board.sizes.tasks
below c = task_below _ _ c.args.sound.sound _ _ (owner c)

few : (c : In-Owner) → c.in-Owner.task < most_tasks
few c = omega (arith, below c, tasks_most _ _ c.args.sound.sound)

pub offset_bounds-words-address : goal.offset_bounds-words-address
offset_bounds-words-address c = omega (arith, words_most _ _ c.args.sound.sound)

pub bounds-words-address : goal.bounds-words-address
bounds-words-address c = omega (arith, words-length _ _ c.args.sound.sound)

pub overflow_cast-address : goal.overflow_cast-address
overflow_cast-address c = omega (arith, c.requires, words_most _ _ c.args.sound.sound)

pub record_of-record-requires : goal.record_of-record-requires
record_of-record-requires c = let ok = c.args.sound.sound in (some_record _ _ ok, records_most _ _ ok)

pub offset_bounds-records-record : goal.offset_bounds-records-record
offset_bounds-records-record c =
    let ok = c.args.sound.sound in
    omega (arith, c.record_of-record.ensures, in_records _ _ ok c.args.address, records-length _ _ ok, records_most _ _ ok)

pub bounds-records-record : goal.bounds-records-record
bounds-records-record c =
    omega (arith, c.record_of-record.ensures, in_records _ _ c.args.sound.sound c.args.address)

pub offset_bounds-places-task : goal.offset_bounds-places-task
offset_bounds-places-task c = omega (arith, few (goal.at.offset_bounds-places-task c).In-Owner)

pub bounds-places-task : goal.bounds-places-task
bounds-places-task c = in_places _ _ c.args.sound.sound _ (below (goal.at.bounds-places-task c).In-Owner)

-- the task's run is in the table
pub run_of-run-requires : goal.run_of-run-requires
unfolding place
run_of-run-requires c =
    let i = (goal.at.run_of-run-requires c).In-Owner in
    rw c.from-place.ensures (omega (arith, few i), run_inside _ _ c.args.sound.sound _ _ (owner i))

pub overflow_cast-sizes : goal.overflow_cast-sizes
overflow_cast-sizes c = omega (arith, records_most _ _ c.args.sound.sound)

pub overflow_cast-address-in-Owner : goal.overflow_cast-address-in-Owner
overflow_cast-address-in-Owner c = omega (arith, words_most _ _ c.args.sound.sound)

pub owned_at-requires : goal.owned_at-requires
unfolding place
owned_at-requires c =
    let ok = c.args.sound.sound in
    let i = owner (goal.at.owned_at-requires c).In-Owner in
    rw (c.run_of-run.ensures, c.from-place.ensures) (some_record _ _ ok, beside _ _ ok _ _ i)

pub returns-in-Version : goal.returns-in-Version
unfolding logical logical_at held
returns-in-Version c = rw (← c.record_of-record.ensures, ← c.from.ensures, c.in-Version.is)

pub returns-in-Owner : goal.returns-in-Owner
unfolding place
returns-in-Owner c =
    rw (c.owned_at.ensures, c.run_of-run.ensures)
    (owner_shows _ _ c.args.sound.sound _ _ (owner (goal.at.returns-in-Owner c).In-Owner) _ _ c.from-place.ensures c.is_committed-done.ensures)
