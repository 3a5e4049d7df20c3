-- What a sound table gives the step, and the laws of its parts: what the code does over an entry is what the definition says.
use Prim.Native.Nat.{ℕ, ◌+◌, ◌%◌, ◌<◌, ◌≤◌}
use mathlib.Core.Path.{◌≡◌, sym, ap, ◌∙◌}
use mathlib.Core.Logic.{◌≢◌}
use mathlib.Core.List.{[]}
use lib.ListN.{length, get_or, set}
use native.Mathlib.Numerals.{add-one}
use native.Mathlib.Omega.{arith}
use borrow.Author.Tests.{eq-eqb, ne_eqb}
use Rattle.memory.specs.declared.Sizes.{Sizes}
use Rattle.memory.specs.declared.Outcome.{Outcome}
use Rattle.memory.specs.declared.Phase.TheVariants.{Writing, Releasing}
use Rattle.memory.specs.declared.Held.{Held}
use Rattle.memory.specs.declared.Held.TheVariants.{Version, Owner}
use Rattle.memory.specs.declared.Entry.{Entry}
use Rattle.memory.specs.Pieces.{Memory, memory, held_of, number_of, held, place, entry, entry_of, position_of, row_of, most_entries, most_records, most_tasks, run_start, set_word, set_held, move}
use Rattle.memory.specs.Step.{release_step, released}
use Rattle.memory.proofs.Limits.{limit_most}
use Rattle.memory.proofs.Facts.{tasks_most, some_record, records_most, in_places, in_records, row-held, count_most, position_n, run_fits, entry-fits, words-length}
use Rattle.step_entry.specs.Contract.{Among, Entered, Leaves, record_at, writes, releases}

-- What a sound table gives ---------------------------------------------------------------------------------------------------

module _ {z : Sizes} {m : Memory} {t : ℕ} (h : Among z m t) where
  pub few_tasks : t < most_tasks
  few_tasks = omega (arith, h.task_in, tasks_most z m h.ok)

  pub place_in : t < length m.places
  place_in = in_places z m h.ok t h.task_in

  pub row_is : get_or m.places t [] ≡ row_of (place m t)
  row_is = row-held z m h.ok t h.task_in

  pub count_fits : (place m t).count ≤ most_entries
  count_fits = omega (arith, count_most z m h.ok t h.task_in, limit_most z)

  pub position_fits : position_of (place m t).phase ≤ most_entries
  position_fits = omega (arith, count_fits, position_n z m h.ok t h.task_in)

  pub records_there : (0 < z.records) × (z.records ≤ most_records)
  records_there = (some_record z m h.ok, records_most z m h.ok)

  -- the record of an address, as the code has it, is in the table
  pub record_in : (a r : ℕ) → r ≡ a % z.records → r < length m.records
  record_in a r e = rw e (in_records z m h.ok a)

module _ {z : Sizes} {m : Memory} {t i : ℕ} (h : Entered z m t i) where
  pub entry_in : (t < most_tasks) × (run_start z t + i < length m.entries)
  entry_in = (few_tasks h.among, omega (arith, h.entry_in, run_fits z m h.among.ok t h.among.task_in))

  pub few_entries : i < most_entries
  few_entries = omega (arith, h.entry_in, count_fits h.among)

  pub address_in : (entry z m t i).address < length m.words
  address_in = omega (arith, words-length z m h.among.ok, (entry-fits z m h.among.ok t h.among.task_in i h.entry_in).0)

-- A step over entry i --------------------------------------------------------------------------------------------------------

-- entry i's word
pub write_word : (z : Sizes) (m : Memory) (t i : ℕ) (e : Entry) → e ≡ entry z m t i
    → Leaves m (memory (set m.words e.address e.new.value) m.records m.places m.entries) t i (Writing (i + 1)) (writes z m t i)
unfolding move set_word place
write_word z m t i e is-entry = record { leaves = rw (is-entry, add-one); near = omega arith }

-- entry i, its record, and what the record holds, as the code has them
pub record Found (z : Sizes) (m : Memory) (t i : ℕ) : Type 0 where
  pub the_entry : Entry
  pub the_record : ℕ
  pub the_held : Held
  pub is-entry : the_entry ≡ entry z m t i
  pub is_record : the_record ≡ the_entry.address % z.records
  pub is_held : the_held ≡ held_of (get_or m.records the_record 0)

unfoldable pub found : (z : Sizes) (m : Memory) (t i : ℕ) (e : Entry) (r : ℕ) (k : Held) → e ≡ entry_of (get_or m.entries (run_start z t + i) [])
    → r ≡ e.address % z.records → k ≡ held_of (get_or m.records r 0) → Found z m t i
unfolding entry
found z m t i e r k is-entry is_record is_held =
    record { the_entry = e; the_record = r; the_held = k; is-entry = is-entry; is_record = is_record; is_held = is_held }

module _ {z : Sizes} {m : Memory} {t i : ℕ} (x : Found z m t i) where
  abbrev e : Entry
  e = x.the_entry

  pub at_record : x.the_record ≡ record_at z m t i
  at_record = x.is_record ∙ ap (λ (y : Entry). y.address % z.records) x.is-entry

  pub holds : (k : Held) → x.the_held ≡ k → held m (record_at z m t i) ≡ k
  unfolding held
  holds k h = ap (λ (n : ℕ). held_of (get_or m.records n 0)) (sym at_record) ∙ sym x.is_held ∙ h

  module _ (o : Outcome) where
    pub release_free : (v : ℕ) → x.the_held ≡ Version v → Leaves m m t i (Releasing o (i + 1)) (releases z m t o i)
    unfolding release_step move
    release_free v h = record { leaves = rw (holds (Version v) h, add-one); near = omega arith }

    pub release_other : (u : ℕ) → x.the_held ≡ Owner u → u ≢ t → Leaves m m t i (Releasing o (i + 1)) (releases z m t o i)
    unfolding release_step move
    release_other u h q = record { leaves = rw (holds (Owner u) h, ne_eqb u t q, add-one); near = omega arith }

    pub release_own : (u n : ℕ) → x.the_held ≡ Owner u → u ≡ t → n ≡ number_of (Version (released o e))
        → Leaves m (memory m.words (set m.records x.the_record n) m.places m.entries) t i (Releasing o (i + 1)) (releases z m t o i)
    unfolding release_step move set_held place
    release_own u n h q k = record { leaves = rw (holds (Owner u) h, eq-eqb u t q, k ∙ ap (λ (v : ℕ). number_of (Version v)) (ap (released o) x.is-entry), at_record, add-one); near = omega arith }
