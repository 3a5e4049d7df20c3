-- The walk over tasks, entries and pairs: each loop's beginning and its next turn, and what every way out of the walk answers.
use Prim.Native.Nat.{ℕ, ◌+◌, ◌≤◌, ◌<◌}
use native.Mathlib.Omega.{arith}
use mathlib.Core.Path.{◌≡◌, refl, sym, ap, ◌∙◌}
use mathlib.Core.Logic.{inl, inr}
use mathlib.Core.List.{List, []}
use mathlib.Core.Bool.{Bool, true, false≢true}
use lib.ListN.{length, get_or, length-set}
use borrow.Author.Tests.{ne_eqb, not-true, not-false}
use Rattle.memory.specs.Pieces.{memory, most_words, most_entries, place, place_of, entry_of}
use Rattle.memory.specs.Sound.{place_ok}
use Rattle.memory.proofs.Tools.{same?}
use Rattle.memory.proofs.Limits.{limit_most}
use Rattle.table_parts.proofs.Tests.{refused, passed, and_then, and-stop}
use Rattle.table_pairs.specs.Pairs.{Marked}
use Rattle.table_walk.specs.Walk.{tables_ok}
use Rattle.table_walk.proofs.Pairs.{address_below}
use Rattle.table_walk.proofs.Owners.{Vouched, count_most, vouched_early, vouched_other, vouched_more, records-same}
use Rattle.table_walk.proofs.Found.{Marks, Task, AtEntry, Ended, Passed, Apart, Covered, kept_as, kept_then, run, inside, run_length, task_of, at_entry, tasks_none, entries_none, tasks_more, entries_more, place_fault, entry_fault, versions_fault, address_fault, all_passed, in_run, latest_at, apart-fresh, apart_met, covers_fresh, covers_met, above_all, cell_below}
use Rattle.table_walk.proofs.tables_ok.Goals.{Else-not-place_ok, After-run_start-start, Else-not-entry_ok, After-record_of-record, After-pairs, Left-tasks, Then-t-sizes, else-tasks-test, then-tasks-test+then-not-place_ok, then-tasks-test+else-not-place_ok+then-entries-test+then-not-entry_ok, then-tasks-test+else-not-place_ok+then-entries-test+else-not-entry_ok+then-found, then-tasks-test+else-not-place_ok+then-entries-test+else-not-entry_ok+else-found+then-pairs-test+then-told-j}
use Rattle.table_walk.proofs.tables_ok.Goals as goal

-- the tables that the walk writes
abbrev marks : List ℕ → List Bool → Marks
marks met owned = record { met = met; owned = owned }

-- the row of the task at hand is right
row_right : (c : Else-not-place_ok) → let row = get_or c.args.places.now c.tasks.t [] in place_ok c.args.sizes row (place_of row) ≡ true
row_right c = passed c.place_ok.ensures c.if-not-place_ok.false

-- the task at hand
task : (c : After-run_start-start) → let a = c.args in
    Task a.sizes (memory [] a.records.now a.places.now a.entries.now) c.tasks.t (get_or (get_or a.places.now c.tasks.t []) 0 0) c.owns_from-from.result
    c.run_start-base.result c.run_start-start.result
task c =
    let s = goal.at.After-run_start-start c in
    task_of c.requires.0 c.tasks-test.true (row_right s.Else-not-place_ok) c.owns_from-from.ensures c.run_start-base.ensures c.run_start-start.ensures

pub tasks-init : goal.tasks-init
tasks-init c = tasks_none c.requires.1 refl

pub overflow_cast-n : goal.overflow_cast-n
overflow_cast-n c = omega (arith, count_most _ _ (row_right (goal.at.overflow_cast-n c).Else-not-place_ok), limit_most c.args.sizes)

pub owns_from-from-requires : goal.owns_from-from-requires
owns_from-from-requires c = row_right (goal.at.owns_from-from-requires c).Else-not-place_ok

-- its base and its run are in the table
pub run_start-base-requires : goal.run_start-base-requires
run_start-base-requires c = omega (arith, c.requires.0.tasks)

pub run_start-start-requires : goal.run_start-start-requires
run_start-start-requires c = omega (arith, c.requires.0.tasks)

pub offset_bounds-entries-start : goal.offset_bounds-entries-start
offset_bounds-entries-start c = let t = task (goal.at.offset_bounds-entries-start c).After-run_start-start in omega (arith, inside t, t.fit.tasks)

pub slice_bounds-run-count : goal.slice_bounds-run-count
slice_bounds-run-count c = omega (arith, inside (task (goal.at.slice_bounds-run-count c).After-run_start-start))

pub slice_bounds-run-start : goal.slice_bounds-run-start
slice_bounds-run-start c = omega (arith, inside (task (goal.at.slice_bounds-run-start c).After-run_start-start))

pub entries-init : goal.entries-init
entries-init c = entries_none (task (goal.at.entries-init c).After-run_start-start) c.tasks.invariant

pub tasks-preserved : goal.tasks-preserved
tasks-preserved c = tasks_more (task (goal.at.tasks-preserved c).After-run_start-start) c.tasks.invariant c.entries.invariant c.entries-test.false

-- an entry's address is below the number of words
address_few : (c : Else-not-entry_ok) → (entry_of (get_or (run (memory [] c.args.records.now c.args.places.now c.args.entries.now) c.run_start-start.result) c.entries.i [])).address < most_words
address_few c = omega (arith, address_below _ _ (passed c.entry_ok.ensures c.if-not-entry_ok.false), c.requires.0.words)

pub bounds-run-i : goal.bounds-run-i
bounds-run-i c = let t = task (goal.at.bounds-run-i c).After-run_start-start in run_length t _ (omega (arith, t.most))

pub record_of-record-requires : goal.record_of-record-requires
record_of-record-requires c =
    let f = c.requires.0 in (f.some, f.most, address_few (goal.at.record_of-record-requires c).Else-not-entry_ok, c.inverse_of-by.ensures)

pub overflow_cast-address : goal.overflow_cast-address
unfolding entry_of
overflow_cast-address c = omega (arith, address_few (goal.at.overflow_cast-address c).Else-not-entry_ok)

-- the entry at hand, right by itself, on its record
entry : (c : After-record_of-record) → let a = c.args in
    AtEntry a.sizes (memory [] a.records.now a.places.now a.entries.now) c.tasks.t (get_or (get_or a.places.now c.tasks.t []) 0 0) c.owns_from-from.result
    c.run_start-base.result c.run_start-start.result (marks c.tasks.met c.tasks.owned) c.entries.told (marks c.entries.met c.entries.owned) c.entries.top c.entries.i
    c.record_of-record.result
entry c =
    at_entry (task (goal.at.After-record_of-record c).After-run_start-start) c.entries.invariant c.entries-test.true
    (passed c.entry_ok.ensures c.if-not-entry_ok.false) c.record_of-record.ensures.0 c.record_of-record.ensures.1

-- each table has a cell for the entry's record
pub bounds-met-record : goal.bounds-met-record
bounds-met-record c = let e = entry (goal.at.bounds-met-record c).After-record_of-record in omega (arith, e.known, e.found.wide.met)

pub overflow_cast-seen : goal.overflow_cast-seen
overflow_cast-seen c = omega (arith, cell_below (entry (goal.at.overflow_cast-seen c).After-record_of-record), limit_most c.args.sizes)

-- The entry is held against those before it: the last one on its record, and the loop over the addresses told.
pub hold_against-found-requires : goal.hold_against-found-requires
hold_against-found-requires c =
    let p = goal.at.hold_against-found-requires c in
    let e = entry p.After-record_of-record in
    (omega (arith, in_run e, limit_most c.args.sizes), run_length (task p.After-run_start-start) _ (in_run e), λ q. (latest_at e q).0)

pub pairs-init : goal.pairs-init
pairs-init c = record { within = omega arith; others = λ k h e. absurd (omega arith) }

-- no more pairs are tried than a task may have entries
pub offset_bounds-told-j : goal.offset_bounds-told-j
offset_bounds-told-j c =
    let e = entry (goal.at.offset_bounds-told-j c).After-record_of-record in omega (arith, c.pairs-test.true, c.hold_against-found.ensures.0, e.more, e.found.most)

pub bounds-told-j : goal.bounds-told-j
bounds-told-j c =
    let e = entry (goal.at.bounds-told-j c).After-record_of-record in omega (arith, c.pairs-test.true, c.hold_against-found.ensures.0, e.more, e.found.most)

pub pairs-preserved : goal.pairs-preserved
pairs-preserved c = record {
  within = omega arith;
  others = λ k h e.
      elim (same? k c.pairs.j) [
        | inl q ↦ c.if-told-j.false (ap (λ (x : ℕ). get_or c.entries.told x 0) (sym q) ∙ e)
        | inr q ↦ c.pairs.invariant.others k (omega arith) e
      ];
}

-- the entry is one of those that a task may have
few : (c : After-pairs) → c.entries.i < most_entries
few c = let e = entry (goal.at.After-pairs c).After-record_of-record in omega (arith, e.more, e.found.most)

pub offset_bounds-told-i : goal.offset_bounds-told-i
offset_bounds-told-i c = omega (arith, few (goal.at.offset_bounds-told-i c).After-pairs)

pub bounds-told-i : goal.bounds-told-i
bounds-told-i c = omega (arith, few (goal.at.bounds-told-i c).After-pairs)

pub offset_bounds-met-record-in-entries : goal.offset_bounds-met-record-in-entries
offset_bounds-met-record-in-entries c = omega (arith, (entry (goal.at.offset_bounds-met-record-in-entries c).After-record_of-record).known, c.requires.0.most)

pub bounds-met-record-in-entries : goal.bounds-met-record-in-entries
bounds-met-record-in-entries c = let e = entry (goal.at.bounds-met-record-in-entries c).After-record_of-record in omega (arith, e.known, e.found.wide.met)

pub mark_owned-requires : goal.mark_owned-requires
mark_owned-requires c =
    let e = entry (goal.at.mark_owned-requires c).After-record_of-record in
    let g = c.requires.0 in
    (omega (arith, e.known, g.held), omega (arith, e.known, e.found.owned.size), omega (arith, e.task.known, g.tasks))

-- the entry is apart from all before it, and no address on its record before it is above `top`
apart : (c : After-pairs) → let a = c.args in let m = memory [] a.records.now a.places.now a.entries.now in
    Apart a.sizes m c.tasks.t c.entries.i × (c.entries.top ≤ c.hold_against-found.result.top)
    × Covered a.sizes m c.tasks.t c.entries.i c.record_of-record.result c.hold_against-found.result.top
unfolding entry_of
apart c =
    let e = entry (goal.at.After-pairs c).After-record_of-record in
    elim c.hold_against-found.ensures.1 [
      | inl new ↦ (apart-fresh e new.none, omega (arith, new.same), covers_fresh e new.none)
      | inr met ↦
          let good = not-false _ (sym met.versions ∙ c.if-found.false) in
          let covered = covers_met e met.some met.raised met.covers in
          elim met.pairs [
            | inl all ↦ (apart_met e met.some good (λ x l. c.pairs.invariant.others x (omega (arith, l, c.pairs-test.false, all))), met.raised, covered)
            | inr high ↦ (apart_met e met.some good (above_all e covered high), met.raised, covered)
          ]
    ]

-- what is owned, with the entry
vouched : (c : After-record_of-record) {left : List Bool} → let a = c.args in let m = memory [] a.records.now a.places.now a.entries.now in
    Marked m.records c.entries.owned c.record_of-record.result c.tasks.t c.owns_from-from.result c.entries.i left
    → Vouched a.sizes m c.tasks.t (c.entries.i + 1) left × (length left ≡ length c.entries.owned)
unfolding place
vouched c h =
    let e = entry c in
    let v = e.found.owned in
    let f = e.task.owns in
    elim h [
      | inl (late, own, owned) ↦ rw owned (vouched_more _ _ v e.on e.known (omega (arith, late, f)) own, simp length-set)
      | inr (inl (other, owned)) ↦ rw owned (vouched_other _ _ v e.on other, refl)
      | inr (inr (early, owned)) ↦ rw owned (vouched_early _ _ v e.on (omega (arith, early, f)), refl)
    ]

pub entries-preserved : goal.entries-preserved
unfolding entry_of
entries-preserved c =
    let p = goal.at.entries-preserved c in
    let v = vouched p.After-record_of-record c.mark_owned.ensures in
    let a = apart p.After-pairs in
    entries_more (entry p.After-record_of-record) a.0 a.1 a.2 v.0 v.1

-- The walk is over, at its end or at the first fault.
ended : (c : Left-tasks) → let a = c.args in
    Ended a.sizes (memory [] a.records.now a.places.now a.entries.now) (marks a.met.now a.owned.now) (marks c.tasks-test.met c.tasks-test.owned) c.tasks.t
unfolding entry_of
ended c =
    let f = c.tasks.invariant in
    elim c.tasks-test.branch [
      | else-tasks-test w ↦ record { kept = kept_as w.met-is w.owned-is f.kept; how = inl (all_passed f w.tasks-test.false w.owned-is) }
      | then-tasks-test+then-not-place_ok w ↦
          record { kept = kept_as w.met-is w.owned-is f.kept; how = inr (place_fault w.tasks-test.true (refused w.place_ok.ensures w.if-not-place_ok.true)) }
      | then-tasks-test+else-not-place_ok+then-entries-test+then-not-entry_ok w ↦
          let t = task_of c.requires.0 w.tasks-test.true (passed w.place_ok.ensures w.if-not-place_ok.false) w.owns_from-from.ensures w.run_start-base.ensures w.run_start-start.ensures in
          record {
            kept = kept_as w.met-is w.owned-is (kept_then f.kept w.entries.invariant.kept);
            how = inr (entry_fault t w.entries-test.true (refused w.entry_ok.ensures w.if-not-entry_ok.true));
          }
      | then-tasks-test+else-not-place_ok+then-entries-test+else-not-entry_ok+then-found w ↦
          let t = task_of c.requires.0 w.tasks-test.true (passed w.place_ok.ensures w.if-not-place_ok.false) w.owns_from-from.ensures w.run_start-base.ensures w.run_start-start.ensures in
          let e = at_entry t w.entries.invariant w.entries-test.true (passed w.entry_ok.ensures w.if-not-entry_ok.false) w.record_of-record.ensures.0 w.record_of-record.ensures.1 in
          record {
            kept = kept_as w.met-is w.owned-is (kept_then f.kept w.entries.invariant.kept);
            how = inr (elim w.hold_against-found.ensures.1 [
              | inl new ↦ absurd (false≢true (sym new.good ∙ w.if-found.true))
              | inr found ↦ versions_fault e found.some (not-true _ (sym found.versions ∙ w.if-found.true))
            ]);
          }
      | then-tasks-test+else-not-place_ok+then-entries-test+else-not-entry_ok+else-found+then-pairs-test+then-told-j w ↦
          let t = task_of c.requires.0 w.tasks-test.true (passed w.place_ok.ensures w.if-not-place_ok.false) w.owns_from-from.ensures w.run_start-base.ensures w.run_start-start.ensures in
          let e = at_entry t w.entries.invariant w.entries-test.true (passed w.entry_ok.ensures w.if-not-entry_ok.false) w.record_of-record.ensures.0 w.record_of-record.ensures.1 in
          record {
            kept = kept_as w.met-is w.owned-is (kept_then f.kept w.entries.invariant.kept);
            how = inr (address_fault e w.pairs.j (omega (arith, w.pairs-test.true, w.hold_against-found.ensures.0)) w.if-told-j.true);
          }
    ]

-- past the test that the walk went to its end
all_good : (c : Then-t-sizes) → let a = c.args in
    Passed a.sizes (memory [] a.records.now a.places.now a.entries.now) c.tasks.t c.tasks-test.owned
all_good c = elim (ended (goal.at.Then-t-sizes c).Left-tasks).how [ inl w ↦ w | inr w ↦ absurd (omega (arith, w.known, c.if-t-sizes.true)) ]

pub records_ok-requires : goal.records_ok-requires
records_ok-requires c =
    omega (arith, (all_good (goal.at.records_ok-requires c).Then-t-sizes).marked.size, c.requires.0.held)

pub returns-then-t-sizes : goal.returns-then-t-sizes
unfolding tables_ok
returns-then-t-sizes c =
    let w = all_good (goal.at.returns-then-t-sizes c).Then-t-sizes in
    and_then w.right (c.records_ok.ensures ∙ rw c.requires.0.held (records-same _ _ w.right w.marked))

pub returns-else-t-sizes : goal.returns-else-t-sizes
unfolding tables_ok
returns-else-t-sizes c =
    elim (ended (goal.at.returns-else-t-sizes c).Left-tasks).how [
      | inl w ↦ absurd (c.if-t-sizes.false w.over)
      | inr w ↦ and-stop _ w.wrong (ne_eqb _ _ c.if-t-sizes.false ∙ sym w.wrong)
    ]
