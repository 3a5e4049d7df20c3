-- What waking a sleeper asks of the lent places and how it leaves them, as the contracts cite it.
use Rattle.std.specs.Prelude.{ℕ, ◌<◌, ◌≤◌, ◌≡◌, List, [], true, false, not, ◌&&◌, ◌||◌, eqb, ltb, length, get_or}
use Rattle.memory.specs.declared.Sizes.{Sizes}
use Rattle.memory.specs.declared.set.TaskSet.{TaskSet}
use Rattle.memory.specs.Pieces.{memory, most_tasks, no_tasks, position_of, place_of, row_of, placed}
use Rattle.memory.specs.Lists.{has, leads}
use Rattle.memory.specs.Sound.{sound}
use Rattle.memory.specs.Step.{ending, ends_with, end_all}
use Rattle.table_leads.specs.Contract.{joined_in}

-- a row that can be stored again: every row of a sound table
pub record RowFits (row : List ℕ) : Type 0 where
  pub count : (place_of row).count < 4294967296
  pub position : position_of (place_of row).phase < 4294967296

-- a row of one that ends: its set without those who end
pub record Ended (row : List ℕ) (ends : TaskSet) (row' : List ℕ) : Type 0 where
  pub joins : TaskSet
  pub is : row' ≡ row_of (placed (place_of row) (ending (place_of row).phase) joins)
  pub left : (w : ℕ) → has joins.bits w ≡ (has (place_of row).joins.bits w && not (has ends.bits w))

-- a row for each of the tasks, all of which can be stored again; and all rows, where those of a set end
pub record MayEnd (places : List (List ℕ)) : Type 0 where
  pub few : length places ≤ most_tasks
  pub rows : (t : ℕ) → t < length places → RowFits (get_or places t [])

pub record AllEnd (ends : TaskSet) (places places' : List (List ℕ)) : Type 0 where
  pub long : length places' ≡ length places
  pub stays : (t : ℕ) → has ends.bits t ≡ false → get_or places' t [] ≡ get_or places t []
  pub ended : (t : ℕ) → t < length places → has ends.bits t ≡ true → Ended (get_or places t []) ends (get_or places' t [])

-- a task, and those of the first n whose set has it
abbrev pub LedBy : List TaskSet → ℕ → ℕ → TaskSet → Type 0
LedBy ways n task set = (t : ℕ) → has set.bits t ≡ (eqb t task || (ltb t n && has (get_or ways t no_tasks).bits task))

-- a task, and those to whom its list leads
abbrev pub EndWith : List (List ℕ) → ℕ → TaskSet → Type 0
EndWith places task set = (t : ℕ) → has set.bits t ≡ (eqb t task || (ltb t (length places) && leads (joined_in places) (length places) task t))

-- the places are those of a sound table, and afterwards those of the definition
pub record MayWake (places : List (List ℕ)) (sleeper : ℕ) : Type 0 where
  pub sizes : Sizes
  pub words : List ℕ
  pub records : List ℕ
  pub entries : List (List ℕ)
  pub ok : sound sizes (memory words records places entries) ≡ true
  pub task_in : sleeper < sizes.tasks

abbrev pub Woke : ℕ → (places places' : List (List ℕ)) → Type 0
Woke u places places' =
    (z : Sizes) (words records : List ℕ) (entries : List (List ℕ)) → z.tasks ≡ length places
    → memory words records places' entries ≡ end_all z (memory words records places entries) (ends_with z (memory words records places entries) u) z.tasks
