-- The ways between tasks as the contracts cite them: the sets of the tasks from which a way leads, one for each task.
use Rattle.std.specs.Prelude.{ℕ, ◌<◌, ◌≤◌, ◌≡◌, List, [], Bool, length, get_or, if◌then◌else◌}
use Rattle.std.specs.Int.Bits.{bit_or}
use Rattle.memory.specs.declared.set.TaskSet.{TaskSet}
use Rattle.memory.specs.Pieces.{task_set, no_tasks}
use Rattle.memory.specs.Lists.{has, leads}

-- task b is on the list of task a, by the fourth number of its row
abbrev pub joined_in : List (List ℕ) → ℕ → ℕ → Bool
joined_in places a b = has (get_or (get_or places b []) 3 0) a

-- a set, where a way through task k may be gone
unfoldable pub through : TaskSet → ℕ → TaskSet → TaskSet
through leading k set = if has set.bits k then task_set (bit_or set.bits leading.bits) else set

-- the first n sets, where it may
pub record Through (n k : ℕ) (sets sets' : List TaskSet) : Type 0 where
  pub long : length sets' ≡ length sets
  pub each : (t : ℕ) → t < n → get_or sets' t no_tasks ≡ through (get_or sets k no_tasks) k (get_or sets t no_tasks)

-- each task's own set, and behind them what was there
pub record Filled (places : List (List ℕ)) (sets sets' : List TaskSet) : Type 0 where
  pub long : length sets' ≡ length sets
  pub each : (t : ℕ) → t < length places → get_or sets' t no_tasks ≡ task_set (get_or (get_or places t []) 3 0)
  pub rest : (t : ℕ) → length places ≤ t → get_or sets' t no_tasks ≡ get_or sets t no_tasks

-- the ways between all tasks
pub record Ways (places : List (List ℕ)) (sets sets' : List TaskSet) : Type 0 where
  pub long : length sets' ≡ length sets
  pub each : (a b : ℕ) → b < length places → has (get_or sets' b no_tasks).bits a ≡ leads (joined_in places) (length places) a b
