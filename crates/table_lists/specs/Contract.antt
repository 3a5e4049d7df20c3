-- What the check of the lists goes by, as the contracts cite it: the set of the sleepers, and a task's set beside it.
use Rattle.std.specs.Prelude.{ℕ, ◌^◌, ◌≡◌, List, [], Bool, not, ◌&&◌, ◌||◌, ltb, eqb, get_or}
use Rattle.memory.specs.declared.set.TaskSet.{TaskSet}
use Rattle.memory.specs.declared.Place.{Place}
use Rattle.memory.specs.Pieces.{place_of, most_tasks}
use Rattle.memory.specs.Lists.{has}
use Rattle.memory.specs.Sound.{all_below, may_join}
use Rattle.memory.specs.Step.{wakes}

-- a task is on no list, by the fourth number of its row
abbrev pub alone : List (List ℕ) → ℕ → Bool
alone places t = eqb (get_or (get_or places t []) 3 0) 0

-- the set of the sleepers among the first n tasks
abbrev pub Sleepers : List (List ℕ) → ℕ → TaskSet → Type 0
Sleepers places n set = (w : ℕ) → has set.bits w ≡ (ltb w n && wakes (place_of (get_or places w [])).phase)

-- one set of tasks within another
unfoldable pub inside : TaskSet → TaskSet → Bool
inside s others = ltb s.bits (2 ^ most_tasks) && all_below most_tasks (λ w. not (has s.bits w) || has others.bits w)

-- nobody was joined; or those who were sleep, and the task may join
unfoldable pub set_fits : TaskSet → Place → Bool
set_fits asleep q = eqb q.joins.bits 0 || (inside q.joins asleep && may_join q.phase)
