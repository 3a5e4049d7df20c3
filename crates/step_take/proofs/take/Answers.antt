-- `step_take::take` meets its contract: a law for each arm.
use Prim.Native.Nat.{ℕ, ◌<◌}
use mathlib.Core.Path.{◌≡◌, sym, ◌∙◌}
use mathlib.Core.List.{List}
use lib.ListN.{length}
use native.Mathlib.Omega.{arith}
use Rattle.memory.specs.Pieces.{Memory, memory, number_of, held, place}
use Rattle.step_entry.proofs.Parts.{few_tasks, records_there, record_in, entry_in, Found, found}
use Rattle.step_take.proofs.Taken.{take_free, take-late, take_own, take_met}
use Rattle.step_take.proofs.take.Goals.{After-from, After-record_of-at, Start}
use Rattle.step_take.proofs.take.Goals as goal

pub entry_at-entry-requires : goal.entry_at-entry-requires
entry_at-entry-requires c = entry_in c.requires.entered

pub record_of-at-requires : goal.record_of-at-requires
record_of-at-requires c = records_there c.requires.entered.among

-- the record is in the table
at_in : (c : After-record_of-at) → c.record_of-at.result < length c.args.records.now
at_in c = record_in c.requires.entered.among _ _ c.record_of-at.ensures

pub bounds-records-at : goal.bounds-records-at
bounds-records-at c = at_in (goal.at.bounds-records-at c).After-record_of-at

pub number-requires : goal.number-requires
unfolding number_of
number-requires c = omega (arith, few_tasks c.requires.entered.among)

pub bounds-records-at-in-Version : goal.bounds-records-at-in-Version
bounds-records-at-in-Version c = at_in (goal.at.bounds-records-at-in-Version c).After-record_of-at

-- the tables with any words, and what is found in them
abbrev table : Start → List ℕ → Memory
table s words = memory words s.args.records.now s.args.places.now s.args.entries.now

here : (c : After-from) (words : List ℕ) → let s = (goal.at.After-from c).Start in Found s.args.sizes (table s words) s.args.task s.args.i
here c words = found _ _ _ _ _ _ _ c.entry_at-entry.ensures c.record_of-at.ensures c.from.ensures

own : (s : Start) (words : List ℕ) → s.args.place ≡ place (table s words) s.args.task
unfolding place
own s words = s.requires.own

pub meet-requires : goal.meet-requires
unfolding held place
meet-requires c =
    record {
      words = c.requires.words;
      records = c.args.records.now;
      ok = c.requires.entered.among.ok;
      owned = rw (← c.record_of-at.ensures) (sym c.from.ensures ∙ c.in-Owner.is);
      below = rw c.requires.own c.requires.entered.entry_in;
    }

pub returns-in-Version : goal.returns-in-Version
unfolding here found
returns-in-Version c words ok =
    let f = (goal.at.returns-in-Version c).After-from in
    rw c.moved.ensures (take_free (here f words) (own (goal.at.After-from f).Start words) _ _ _ c.in-Version.is c.if-version-entry.true c.number.ensures)

pub returns-in-Version-2 : goal.returns-in-Version-2
unfolding here found
returns-in-Version-2 c words ok =
    let f = (goal.at.returns-in-Version-2 c).After-from in
    rw c.moved-in-Version-2.ensures (take-late (here f words) (own (goal.at.After-from f).Start words) _ _ c.in-Version.is c.if-version-entry.false)

pub returns-in-Owner : goal.returns-in-Owner
unfolding here found
returns-in-Owner c words ok =
    let f = (goal.at.returns-in-Owner c).After-from in
    rw c.moved-in-Owner.ensures (take_own (here f words) (own (goal.at.After-from f).Start words) _ _ c.in-Owner.is c.if-owner-task.true)

pub returns-in-Owner-2 : goal.returns-in-Owner-2
unfolding here found
returns-in-Owner-2 c words ok =
    let f = (goal.at.returns-in-Owner-2 c).After-from in
    take_met (here f words) (own (goal.at.After-from f).Start words) _ _ ok c.requires.entered.among.task_in c.requires.taking c.in-Owner.is c.if-owner-task.false c.meet.ensures
