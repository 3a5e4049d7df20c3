-- Further positions beside K1 to K11, as two lists: a sleeper's steps, clashes, refusals, and each limit at its number and one past
-- it; and several asleep on one record.
use Rattle.std.specs.Prelude.{ℕ, zero, suc, ◌*◌, List, [], ◌∷◌, ◌++◌, Bool, true, false, ◌&&◌, drop, replicate, if◌then◌else◌}
use Rattle.memory.specs.Pieces.{Sizes, Memory, memory, Failed, Woken, Phase, Idle, Open, Asleep, Writing, Releasing, place, bare, task_set, row_of}
use Rattle.memory.specs.Sound.{row_eqb}
use Rattle.memory.specs.Requests.{open_board}
use Rattle.memory.specs.Calls.{Call, ST, CM, AB, WT, SP, RD, WR}
use Rattle.memory.specs.Machines.{ours, leaves, numbers}
use Rattle.memory.specs.Answers.{Fits}
use Rattle.memory.specs.Positions.{Position, ◌gives◌, Hold, small, board_after, one_more, then_numbers, looks, place_row, writes7, commits, late, sleeping, ends}

-- What is got --------------------------------------------------------------------------------------------------------------------

-- 1 where two boards hold the same in every place
unfoldable pub same : Memory → Memory → ℕ
same m n =
    if row_eqb m.words n.words && row_eqb m.records n.records && rows m.places n.places && rows m.entries n.entries then 1 else 0
  where
    rows : List (List ℕ) → List (List ℕ) → Bool
    rows [] [] = true
    rows [] (s ∷ ss) = false
    rows (r ∷ rs) [] = false
    rows (r ∷ rs) (s ∷ ss) = row_eqb r s && rows rs ss

-- the small board opened over what was lent: the number, the value, and whether all that was lent stays
unfoldable pub opens : ℕ → Memory → List ℕ
opens v m = let r = open_board small v m in r.number ∷ r.value ∷ same r.after m ∷ []

-- the number of an opening with so many words, records and tasks, where tables of just those lengths were lent
unfoldable pub opens_with : ℕ → ℕ → ℕ → ℕ → List ℕ
opens_with w r t v =
    (open_board (record { words = w; records = r; tasks = t }) v
    (memory (replicate w 9) (replicate r 9) (replicate t []) (replicate (64 * t) []))).number ∷ []

-- one word is lacking
unfoldable pub lacking : Memory → Memory
lacking m = memory (drop 1 m.words) m.records m.places m.entries

-- The calls ----------------------------------------------------------------------------------------------------------------------

-- task 0 uses 1 and makes some calls; then task 1 comes to the same record by 3
unfoldable pub clashing : List Call → List Call
clashing cs = ST 0 ∷ RD 0 1 ∷ cs ++ ST 1 ∷ WR 1 3 7 ∷ CM 1 ∷ SP 1 ∷ []

-- 1 holds 7; task 0 writes 8 there, thinks better of it and starts again
unfoldable pub starts_again : List Call
starts_again = writes7 ++ commits 6 ++ ST 0 ∷ WR 0 1 8 ∷ AB 0 ∷ ST 0 ∷ []

-- 65 words and as many records; what opening with first version 1, Start and a Read of each address below 63 leave there
unfoldable pub broad : Sizes
broad = record { words = 65; records = 65; tasks = 1 }

unfoldable pub crowded : Memory
crowded = memory (replicate 65 0) (replicate 65 1) (row_of (bare 63 Open) ∷ []) (up_to 63 0 ++ replicate 5 0 ∷ [])
  where
    up_to : ℕ → ℕ → List (List ℕ)
    up_to zero a = []
    up_to (suc k) a = (a ∷ 0 ∷ 0 ∷ 1 ∷ 1 ∷ []) ∷ up_to k (suc a)

-- The list -----------------------------------------------------------------------------------------------------------------------

-- of a board opened with first version 1
unfoldable pub further_positions : Memory → List Position
further_positions new =
    -- each step of a sleeper says that it sleeps, and the second one changes nothing
    (then_numbers new sleeping (SP 1 ∷ SP 1 ∷ []) gives 20 ∷ 20 ∷ [])
    ∷ (same (board_after new (sleeping ++ SP 1 ∷ [])) (board_after new sleeping) ∷ [] gives 1 ∷ [])
    -- a clash with an owner that takes for commit: both fail
    ∷ (place_row new (clashing (commits 1)) 0 gives row_of (bare 1 (Releasing Failed 0)))
    ∷ (place_row new (clashing (commits 1)) 1 gives row_of (bare 1 (Releasing Failed 0)))
    ∷ (then_numbers new (clashing (commits 1)) ends gives 0 ∷ 22 ∷ 0 ∷ 22 ∷ [])
    -- with one that takes for sleep: both fail too
    ∷ (place_row new (clashing (WT 0 ∷ SP 0 ∷ [])) 0 gives row_of (bare 1 (Releasing Failed 0)))
    ∷ (place_row new (clashing (WT 0 ∷ SP 0 ∷ [])) 1 gives row_of (bare 1 (Releasing Failed 0)))
    ∷ (then_numbers new (clashing (WT 0 ∷ SP 0 ∷ [])) ends gives 0 ∷ 22 ∷ 0 ∷ 22 ∷ [])
    -- with one that is committed: only the comer fails
    ∷ (place_row new (clashing (commits 2)) 0 gives row_of (bare 1 (Writing 0)))
    ∷ (place_row new (clashing (commits 2)) 1 gives row_of (bare 1 (Releasing Failed 0)))
    ∷ (then_numbers new (clashing (commits 2)) (ends ++ SP 0 ∷ SP 0 ∷ []) gives 0 ∷ 22 ∷ 0 ∷ 0 ∷ 0 ∷ 21 ∷ [])
    -- who takes for sleep fails if the record has another version by then
    ∷ (then_numbers new late (WT 1 ∷ SP 1 ∷ SP 1 ∷ SP 1 ∷ []) gives 0 ∷ 0 ∷ 0 ∷ 22 ∷ [])
    -- after Abort and Start the task is open with no entries, and reads what the board has
    ∷ (place_row new starts_again 0 gives row_of (bare 0 Open))
    ∷ (one_more new starts_again (RD 0 1) gives 0 ∷ 7 ∷ [])
    -- the look-up: an address past the last, a table that does not fit, and both faults
    ∷ (looks new [] 4 gives 5 ∷ 0 ∷ 0 ∷ [])
    ∷ (looks (lacking new) [] 3 gives 1 ∷ 0 ∷ 0 ∷ [])
    ∷ (looks (lacking new) [] 4 gives 1 ∷ 0 ∷ 0 ∷ [])
    -- opening: a first version that is none, a table that does not fit, and both faults; what was lent stays
    ∷ (opens 0 new gives 2 ∷ 0 ∷ 1 ∷ [])
    ∷ (opens 1 (lacking new) gives 1 ∷ 0 ∷ 1 ∷ [])
    ∷ (opens 0 (lacking new) gives 2 ∷ 0 ∷ 1 ∷ [])
    -- no words, one, the most, one more; the same of records, of tasks, of the first version
    ∷ (opens_with 0 1 1 1 ++ opens_with 1 1 1 1 ++ opens_with 4096 1 1 1 ++ opens_with 4097 1 1 1 gives 2 ∷ 0 ∷ 0 ∷ 2 ∷ [])
    ∷ (opens_with 1 0 1 1 ++ opens_with 1 1 1 1 ++ opens_with 1 1024 1 1 ++ opens_with 1 1025 1 1 gives 2 ∷ 0 ∷ 0 ∷ 2 ∷ [])
    ∷ (opens_with 1 1 0 1 ++ opens_with 1 1 1 1 ++ opens_with 1 1 32 1 ++ opens_with 1 1 33 1 gives 2 ∷ 0 ∷ 0 ∷ 2 ∷ [])
    ∷ (opens_with 1 1 1 0 ++ opens_with 1 1 1 1 ++ opens_with 1 1 1 2147483647 ++ opens_with 1 1 1 2147483648 gives 2 ∷ 0 ∷ 0 ∷ 2 ∷ [])
    -- with 63 entries there is room for one more address; with 64 there is none, and one of the 64 is read as ever
    ∷ (numbers ours broad crowded (RD 0 63 ∷ RD 0 64 ∷ RD 0 0 ∷ []) gives 0 ∷ 6 ∷ 0 ∷ [])
    ∷ []

-- Several asleep on one record (§2.14, §7.8, §7.17) -------------------------------------------------------------------------------

-- the small board with four tasks
unfoldable pub seated : Sizes
seated = record { words = 4; records = 2; tasks = 4 }

-- the row of a task with so many entries, in a phase, which has joined a set of sleepers: 2 is that of task 1, 4 that of task 2
unfoldable pub row_on : ℕ → Phase → ℕ → List ℕ
row_on n p s = row_of (record { count = n; phase = p; joins = task_set s })

-- the rows of tasks 1, 2 and 3 after calls; and the numbers of further calls
unfoldable pub rows_after : Memory → List Call → List ℕ
rows_after new cs = let m = leaves ours seated new cs in row_of (place m 1) ++ row_of (place m 2) ++ row_of (place m 3)

unfoldable pub numbers_after : Memory → List Call → List Call → List ℕ
numbers_after new cs ds = numbers ours seated (leaves ours seated new cs) ds

-- Task 1 sleeps on record 1, and task 2 comes there by 3: it joins task 1. With one more step it sleeps too.
unfoldable pub one_joins : List Call
one_joins = sleeping ++ ST 2 ∷ RD 2 3 ∷ WT 2 ∷ SP 2 ∷ []

unfoldable pub two_sleep : List Call
two_sleep = one_joins ++ SP 2 ∷ []

-- task 2 takes record 0 first, and then joins task 1 on record 1; task 3 joins task 2 on record 0
unfoldable pub chain : List Call
chain = sleeping ++ ST 2 ∷ RD 2 0 ∷ RD 2 1 ∷ WT 2 ∷ SP 2 ∷ SP 2 ∷ SP 2 ∷ ST 3 ∷ RD 3 2 ∷ WT 3 ∷ SP 3 ∷ SP 3 ∷ []

-- task 2 read record 1 before a commit there, and task 1 after it
unfoldable pub differing : List Call
differing = ST 2 ∷ RD 2 3 ∷ writes7 ++ commits 6 ++ sleeping ++ WT 2 ∷ SP 2 ∷ []

-- task 2 joins task 1 on record 1, finds another version in record 0, fails, and releases its two entries
unfoldable pub joined_fails : List Call
joined_fails = ST 2 ∷ RD 2 3 ∷ RD 2 0 ∷ ST 0 ∷ WR 0 2 7 ∷ commits 6 ++ sleeping ++ WT 2 ∷ SP 2 ∷ SP 2 ∷ SP 2 ∷ SP 2 ∷ []

-- task 0 comes with a write to record 1, where task 1 sleeps; to record 0, which task 2 took
unfoldable pub rouses : List Call
rouses = writes7 ++ commits 1

unfoldable pub rouses_second : List Call
rouses_second = ST 0 ∷ WR 0 2 7 ∷ commits 1

-- of a board of four tasks opened with first version 1
unfoldable pub list_positions : Memory → List Position
list_positions new =
    -- both sleep, and task 2 is on the list of task 1
    (numbers_after new [] two_sleep gives 0 ∷ 0 ∷ 0 ∷ 0 ∷ 20 ∷ 0 ∷ 0 ∷ 0 ∷ 0 ∷ 20 ∷ [])
    ∷ (rows_after new two_sleep gives row_on 1 Asleep 0 ++ row_on 1 Asleep 2 ++ row_on 0 Idle 0)
    -- a clash with task 1 wakes both, and its list is empty then; both end with 23, the comer with 22
    ∷ (rows_after new (two_sleep ++ rouses) gives row_on 1 (Releasing Woken 0) 0 ++ row_on 1 (Releasing Woken 0) 0 ++ row_on 0 Idle 0)
    ∷ (numbers_after new (two_sleep ++ rouses) (SP 2 ∷ SP 2 ∷ SP 1 ∷ SP 1 ∷ SP 0 ∷ SP 0 ∷ []) gives 0 ∷ 23 ∷ 0 ∷ 23 ∷ 0 ∷ 22 ∷ [])
    -- one that is still taking fails
    ∷ (rows_after new (one_joins ++ rouses) gives row_on 1 (Releasing Woken 0) 0 ++ row_on 1 (Releasing Failed 0) 0 ++ row_on 0 Idle 0)
    -- with another version the comer fails alone, and the sleeper sleeps on
    ∷ (rows_after new differing gives row_on 1 Asleep 0 ++ row_on 1 (Releasing Failed 0) 0 ++ row_on 0 Idle 0)
    -- one that has joined and fails is on the list until it is Idle; a clash finds it releasing, and takes it off the list only
    ∷ (rows_after new joined_fails gives row_on 1 Asleep 0 ++ row_on 2 (Releasing Failed 2) 2 ++ row_on 0 Idle 0)
    ∷ (rows_after new (joined_fails ++ SP 2 ∷ []) gives row_on 1 Asleep 0 ++ row_on 0 Idle 0 ++ row_on 0 Idle 0)
    ∷ (rows_after new (joined_fails ++ rouses) gives row_on 1 (Releasing Woken 0) 0 ++ row_on 2 (Releasing Failed 2) 0 ++ row_on 0 Idle 0)
    -- from list to list: a clash with task 1 wakes task 3 too, which sleeps on another record
    ∷ (rows_after new chain gives row_on 1 Asleep 0 ++ row_on 2 Asleep 2 ++ row_on 1 Asleep 4)
    ∷ (rows_after new (chain ++ rouses) gives row_on 1 (Releasing Woken 0) 0 ++ row_on 2 (Releasing Woken 0) 0 ++ row_on 1 (Releasing Woken 0) 0)
    -- a clash with task 2 wakes task 3, and leaves task 1 asleep with task 2 on its list
    ∷ (rows_after new (chain ++ rouses_second) gives row_on 1 Asleep 0 ++ row_on 2 (Releasing Woken 0) 2 ++ row_on 1 (Releasing Woken 0) 0)
    ∷ []

-- whatever was lent, if only its lengths are right
abbrev pub FurtherPositionsHold : Type 0
FurtherPositionsHold =
    ((m : Memory) → Fits small m → Hold (further_positions (open_board small 1 m).after))
    × ((m : Memory) → Fits seated m → Hold (list_positions (open_board seated 1 m).after))
