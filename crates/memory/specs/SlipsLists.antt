-- §14: slips of the lists of those who sleep with another (§2.14, §7.8, §7.17), each ours but for what its line says.
use Rattle.std.specs.Prelude.{ℕ, zero, suc, ◌-◌, Bool, not, ◌&&◌, eqb, ltb, leb, if◌then◌else◌}
use Rattle.memory.specs.Pieces.{Sizes, Sleep, Failed, Woken, Phase, Taking, Releasing, Place, Memory, is, held, place, ended, task_set, set_place, move}
use Rattle.memory.specs.Sound.{all_below, held_ok, joins_ok}
use Rattle.memory.specs.Step.{fails, wakes, clash, joined}
use Rattle.memory.specs.Machines.{Machine}
use Rattle.memory.specs.Answers.{phase}
use Rattle.memory.specs.Wrong.{over, stepping}
use Rattle.memory.specs.Slips.{at, changing, clashing, passes_any_owner}

-- the places of the tasks below k, each turned into another
abbrev pub replaced : ℕ → (ℕ → Place → Place) → Memory → Memory
replaced zero f x = x
replaced (suc k) f x = let y = replaced k f x in set_place y k (f k (place y k))

-- a place on other lists
abbrev pub listed_on : ℕ → Place → Place
listed_on s q = record { count = q.count; phase = q.phase; joins = task_set s }

-- a twist of the clash that wakes the sleeper u; of the step that would sleep and fails at another's record
abbrev pub rousing : (Sizes → Memory → ℕ → ℕ → Memory → Memory) → Machine
rousing f = clashing (λ z m t u x. if wakes (phase m u) && not (wakes (phase x u)) then f z m t u x else x)

abbrev pub failing_to_sleep : (Phase → Bool) → (Sizes → Memory → ℕ → ℕ → Memory) → Machine
failing_to_sleep p f = clashing (λ z m t u x. if is (Taking Sleep 0) (phase m t) && p (phase m u) then f z m t u else x)

-- as one joins a sleeper
abbrev pub joins_it : Sizes → Memory → ℕ → ℕ → Memory
joins_it z m t u = set_place m t (joined z u (place m t) (Taking Sleep (suc (at m t))))

-- Only the sleeper is woken, and nobody on its list.
abbrev pub wakes_one : Machine
wakes_one = rousing (λ z m t u x. move (move m u (Releasing Woken 0)) t (Releasing Failed 0))

-- Those on its list end too, but one that still takes is left in its place.
abbrev pub takers_left : Machine
takers_left = rousing (λ z m t u x. replaced z.tasks (λ v q. if fails (phase m v) && not (eqb v t) then place m v else q) x)

-- They all end, and stay on the lists on which they were.
abbrev pub lists_kept : Machine
lists_kept = rousing (λ z m t u x. replaced z.tasks (λ v q. listed_on (place m v).joins.bits q) x)

-- A sleeper is joined whatever version it has seen.
abbrev pub joins_any_version : Machine
joins_any_version = failing_to_sleep wakes joins_it

-- One that has seen another version wakes the sleeper.
abbrev pub differing_wakes : Machine
differing_wakes = failing_to_sleep wakes (λ z m t u. move (clash z m u) t (Releasing Failed 0))

-- An owner that takes is joined too.
abbrev pub joins_taker : Machine
joins_taker = failing_to_sleep fails joins_it

-- Who joins a second sleeper is off the list of the first.
abbrev pub joins_last : Machine
joins_last =
    stepping (changing (λ z m t x.
    let before = (place m t).joins.bits in
    let after = (place x t).joins.bits in
    if ltb before after then set_place x t (listed_on (after - before) (place x t)) else x))

-- A task that goes Idle stays on its lists.
abbrev pub idle_stays_listed : Machine
idle_stays_listed = stepping (λ z m t r. if leb 21 r.number then over (set_place r.after t (listed_on (place m t).joins.bits ended)) r else r)

-- A test of soundness that looks at who is on which list, and not where the lists lead: a way back passes.
abbrev pub passes_way_back : Sizes → Memory → Bool
passes_way_back z m = passes_any_owner z m && all_below z.records (λ r. held_ok z m r (held m r)) && all_below z.tasks (λ t. joins_ok z m t)
