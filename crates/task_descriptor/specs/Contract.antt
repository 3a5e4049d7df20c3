-- What the functions over a descriptor are held to, in the terms of crate memory's definitions.
use Rattle.std.specs.Prelude.{ℕ, zero, suc, ◌+◌, ◌<◌, ◌≤◌, List, [], length, get_or, set}
use Rattle.memory.specs.declared.Sizes.{Sizes}
use Rattle.memory.specs.declared.Place.{Place}
use Rattle.memory.specs.declared.Entry.{Entry}
use Rattle.memory.specs.Pieces.{Memory, most_tasks, most_records, top_version, position_of, entry_of, row_of_entry, limit, run_start, counted, set_place, set_entry}

-- the rows of the first entries of a run, each changed by a function
unfoldable pub rewritten : (Entry → Entry) → List (List ℕ) → ℕ → List (List ℕ)
rewritten f l zero = l
rewritten f l (suc k) = set (rewritten f l k) k (row_of_entry (f (entry_of (get_or l k []))))

-- what the code needs of the first n entries of a task: they are in the table, and their old versions are in range
pub record Within (z : Sizes) (table : List (List ℕ)) (t n : ℕ) : Type 0 where
  pub task : t < most_tasks
  pub some : 0 < z.records
  pub few : z.records ≤ most_records
  pub fits : run_start z t + n ≤ length table
  pub low : (i : ℕ) → i < n → (entry_of (get_or table (run_start z t + i) [])).old.version ≤ top_version

-- one more entry of a task, and what the code needs for it
abbrev pub grown : Sizes → Memory → ℕ → Place → Entry → Memory
grown z m t q e = set_place (set_entry z m t q.count e) t (counted q (suc q.count))

pub record Addable (z : Sizes) (places table : List (List ℕ)) (t : ℕ) (q : Place) (e : Entry) : Type 0 where
  pub task : t < length places
  pub room : q.count < limit z
  pub near : position_of q.phase ≤ q.count
  pub fits : run_start z t + q.count < length table
  pub within : Within z (set table (run_start z t + q.count) (row_of_entry e)) t (suc q.count)
