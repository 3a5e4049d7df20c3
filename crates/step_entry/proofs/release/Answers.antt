-- `step_entry::release` meets its contract: a law for each arm.
use Prim.Native.Nat.{ℕ, ◌<◌}
use mathlib.Core.Path.{ap, ◌∙◌}
use mathlib.Core.List.{List}
use lib.ListN.{length}
use native.Mathlib.Omega.{arith}
use Rattle.memory.specs.declared.Held.TheVariants.{Version}
use Rattle.memory.specs.Pieces.{memory, number_of}
use Rattle.step_entry.proofs.Parts.{records_there, record_in, entry_in, few_entries, Found, found, release_free, release_own, release_other}
use Rattle.step_entry.proofs.release.Goals.{After-from, After-record_of-at, in-Owner, in-Owner+else-owner-task, in-Version}
use Rattle.step_entry.proofs.release.Goals as goal

pub entry_at-entry-requires : goal.entry_at-entry-requires
entry_at-entry-requires c = entry_in c.requires.entered

pub record_of-at-requires : goal.record_of-at-requires
record_of-at-requires c = records_there c.requires.entered.among

-- the record is in the table
at_in : (c : After-record_of-at) → c.record_of-at.result < length c.args.records.now
at_in c = record_in c.requires.entered.among _ _ c.record_of-at.ensures

pub bounds-records-at : goal.bounds-records-at
bounds-records-at c = at_in (goal.at.bounds-records-at c).After-record_of-at

pub number-requires : goal.number-requires
unfolding number_of
number-requires c = c.released.type_inv

pub bounds-records-at-in-Owner : goal.bounds-records-at-in-Owner
bounds-records-at-in-Owner c = at_in (goal.at.bounds-records-at-in-Owner c).After-record_of-at

pub overflow_add-result : goal.overflow_add-result
overflow_add-result c = omega (arith, few_entries c.requires.entered)

-- what is found in the tables, with any words and places
here : (c : After-from) (words : List ℕ) (places : List (List ℕ))
    → let a = c.args in Found a.sizes (memory words a.records.now places a.entries.now) a.task a.i
here c words places = found _ _ _ _ _ _ _ c.entry_at-entry.ensures c.record_of-at.ensures c.from.ensures

pub returns : goal.returns
unfolding here found
returns c words places =
    let x = here (goal.at.returns c).After-from words places in
    elim c.match-from.branch [
      | in-Owner w ↦ rw w.records-is (release_own x _ _ _ w.in-Owner.is w.if-owner-task.true (w.number.ensures ∙ ap (λ (v : ℕ). number_of (Version v)) w.released.ensures))
      | in-Owner+else-owner-task w ↦ rw w.records-is (release_other x _ _ w.in-Owner.is w.if-owner-task.false)
      | in-Version w ↦ rw w.records-is (release_free x _ _ w.in-Version.is)
    ]
