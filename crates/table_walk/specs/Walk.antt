-- What the contracts of the walk over the tables cite beside crate memory's definitions.
use Rattle.std.specs.Prelude.{ℕ, ◌≤◌, ◌<◌, ◌≡◌, List, Bool, false, ◌&&◌, length, get_or}
use Rattle.memory.specs.declared.Sizes.{Sizes}
use Rattle.memory.specs.Pieces.{Memory, held_of, held, run_start, most_words, most_records, most_tasks}
use Rattle.memory.specs.Sound.{all_below, task_ok, held_ok}
use Rattle.table_parts.specs.Parts.{record_ok}

-- What the walk asks of the sizes and the lengths.
pub record Fit (z : Sizes) (m : Memory) : Type 0 where
  pub words : z.words ≤ most_words
  pub some : 0 < z.records
  pub most : z.records ≤ most_records
  pub tasks : z.tasks ≤ most_tasks
  pub held : length m.records ≡ z.records
  pub places : length m.places ≡ z.tasks
  pub entries : length m.entries ≡ run_start z z.tasks

-- What the walk asks of its room: a cell of each table for every record, none marked and none owned.
pub record Room (z : Sizes) (met : List ℕ) (owned : List Bool) : Type 0 where
  pub met_size : z.records ≤ length met
  pub owned_size : z.records ≤ length owned
  pub unmarked : (r : ℕ) → r < z.records → get_or met r 0 ≡ 0
  pub unowned : (r : ℕ) → r < z.records → get_or owned r false ≡ false

-- every task, and what every record holds
unfoldable pub tables_ok : Sizes → Memory → Bool
tables_ok z m = all_below z.tasks (λ t. task_ok z m t) && all_below z.records (λ r. held_ok z m r (held m r))

-- what every record holds, where it is known which are owned
unfoldable pub records_ok : List ℕ → List Bool → ℕ → Bool
records_ok rs owned n = all_below n (λ r. record_ok (held_of (get_or rs r 0)) (get_or owned r false))
