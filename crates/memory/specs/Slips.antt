-- §14: slips. More wrong machines, and wrong histories, each ours but for what its line says. SlipsLists has those of lists;
-- SlipsRefuted says which claim each breaks.
use Rattle.std.specs.Prelude.{ℕ, suc, ◌+◌, ◌*◌, ◌-◌, ◌%◌, ◌≡◌, List, [], ◌∷◌, Bool, true, not, ◌&&◌, length, eqb, ltb, leb, replicate, if◌then◌else◌}
use Rattle.memory.specs.Pieces.{Sizes, Commit, Sleep, Committed, Failed, Phase, Taking, Asleep, Writing, Releasing, Held, Version, Owner, Seen, Entry, Memory, memory, is, committed, position_of, code_of, phase_of, held, place, ended, entry, set_held, set_place, set_entry, move}
use Rattle.memory.specs.Logical.{newest, index_of, logical}
use Rattle.memory.specs.Sound.{all_below, sizes_ok, lengths_ok, task_ok}
use Rattle.memory.specs.Numbers.{reply, refused}
use Rattle.memory.specs.Requests.{looked, open_board, look, fresh, added, overtaken, known, store}
use Rattle.memory.specs.Step.{fails, wakes}
use Rattle.memory.specs.Calls.{SP, RD, call}
use Rattle.memory.specs.Machines.{Machine, ours, leaves}
use Rattle.memory.specs.History.{Op, puts, Notes, listed, Scene}
use Rattle.memory.specs.Answers.{phase}
use Rattle.memory.specs.Stepping.{word}
use Rattle.memory.specs.Order.{stamp}
use Rattle.memory.specs.Whole.{is_owner}
use Rattle.memory.specs.Wrong.{Twist, over, leaving, calling, starting, stepping, reading, writing, opening, looking}

-- something else is left where our reply is 0
abbrev pub changing : (Sizes → Memory → ℕ → Memory → Memory) → Twist
changing f z m t = leaving 0 (f z m t)

-- Requests -----------------------------------------------------------------------------------------------------------------------

-- Start resets the place of the task beside.
abbrev pub start_resets_another : Machine
start_resets_another = starting (changing (λ z m t x. set_place x (suc t) ended))

-- Four slips of Read or of Write. With 64 entries, a known address answers 6.
abbrev pub six_for_known : ℕ → Twist
six_for_known a z m t r = if eqb r.number 0 && eqb (place m t).count 64 then refused 6 m else r

-- 9 comes before 6.
abbrev pub nine_before_six : ℕ → Twist
nine_before_six a z m t r = if eqb r.number 6 && overtaken z m t a then reply 9 0 (set_place m t ended) else r

-- The limit is 63: the entry that would be the 64th is refused.
abbrev pub sixty_three : ℕ → Twist
sixty_three a z m t r = if eqb (place m t).count 63 && eqb (place r.after t).count 64 then refused 6 m else r

-- 6 comes before 5.
abbrev pub six_before_five : ℕ → Twist
six_before_five a z m t r = if eqb r.number 5 && eqb (place m t).count 64 then refused 6 m else r

-- A second entry with another version on the same record is kept: no 9.
abbrev pub read_keeps_second : Machine
read_keeps_second = reading (λ a z m t r. if eqb r.number 9 then reply 0 (fresh z m t a).new.value (added z m t a) else r)

abbrev pub write_keeps_second : Machine
write_keeps_second =
    writing (λ a v z m t r. if eqb r.number 9 then store z m (added z m t a) t a v (suc (place m t).count) (fresh z m t a) else r)

-- Read of a new address takes the bare word, also where a committed owner has yet to write it.
abbrev pub bare_entry : ℕ → Entry → Entry
bare_entry v e =
    record { address = e.address; old = record { value = v; version = e.old.version }; new = record { value = v; version = e.new.version } }

abbrev pub reads_bare_word : Machine
reads_bare_word =
    reading (λ a z m t r.
    let n = (place m t).count in
    if ltb n (place r.after t).count then reply 0 (word m a) (set_entry z r.after t n (bare_entry (word m a) (entry z r.after t n))) else r)

-- A Write refused with 8 adds its entry, as a Read would.
abbrev pub eight_adds_entry : Machine
eight_adds_entry = writing (λ a v z m t r. if eqb r.number 8 then refused 8 (call z m (RD t a)).after else r)

-- The top version is 1,000: a Write over it answers 8.
abbrev pub thousand_in_write : Machine
thousand_in_write = writing (λ a v z m t r. if eqb r.number 0 && leb 1000 (known z r.after t a).old.version then refused 8 m else r)

-- Opening and the look-up ----------------------------------------------------------------------------------------------------------

-- The look-up answers the bare word.
abbrev pub looks_bare_word : Machine
looks_bare_word = looking (λ z m a r. if eqb r.number 0 then looked 0 (word m a) r.version else r)

-- Opening answers 1 before 2.
abbrev pub opening_one_first : Machine
opening_one_first = opening (λ z v m r. if lengths_ok z m then r else refused 1 m)

-- The top version is 1,000: a higher first version is refused.
abbrev pub thousand_in_opening : Machine
thousand_in_opening = opening (λ z v m r. if leb v 1000 then r else refused 2 m)

-- There are 31 tasks at most.
abbrev pub thirty_one_tasks : Machine
thirty_one_tasks = opening (λ z v m r. if leb z.tasks 31 then r else refused 2 m)

-- Opening leaves the entries as they were lent.
abbrev pub opens_entries_as_lent : Machine
opens_entries_as_lent = opening (λ z v m r. over (memory r.after.words r.after.records r.after.places m.entries) r)

-- An opened board has an owner in a record.
abbrev pub opens_with_an_owner : Machine
opens_with_an_owner = opening (λ z v m r. leaving 0 (λ x. set_held x 0 (Owner 0)) r)

-- Steps --------------------------------------------------------------------------------------------------------------------------

-- the position that a task has come to, and the record of its entry there
abbrev pub at : Memory → ℕ → ℕ
at m t = position_of (phase m t)

abbrev pub record_at : Sizes → Memory → ℕ → ℕ
record_at z m t = (entry z m t (at m t)).address % z.records

-- The step of a task Asleep answers 0.
abbrev pub asleep_answers_0 : Machine
asleep_answers_0 = stepping (λ z m t r. if eqb r.number 20 && wakes (phase m t) then reply 0 0 m else r)

-- Every third take fails, though the record holds the old version.
abbrev pub third_take_fails : Machine
third_take_fails =
    stepping (changing (λ z m t x. if fails (phase m t) && fails (phase x t) && eqb (at m t % 3) 2 then move m t (Releasing Failed 0) else x))

-- A commit rests once before it releases: from Writing at n to n + 1, and then on.
abbrev pub rests_once : Machine
rests_once =
    stepping (λ z m t r.
    if not (is (Writing 0) (phase m t)) then r else
    if ltb (place m t).count (at m t) then reply 0 0 (move m t (Releasing Committed 0)) else
    if is (Writing 0) (phase r.after t) then r else
    over (move m t (Writing (suc (at m t)))) r)

-- A record is released while words are still to be written.
abbrev pub releases_early : Machine
releases_early =
    stepping (changing (λ z m t x.
    if is (Writing 0) (phase x t) && is (Writing 0) (phase m t) && ltb (at x t) (place x t).count
    then set_held x (record_at z m t) (Version (entry z m t (at m t)).new.version) else x))

-- Versions are invented: a transaction that fails gives its records back with a higher one.
abbrev pub invents_versions : Machine
invents_versions =
    stepping (changing (λ z m t x.
    if is (Releasing Failed 0) (phase m t) && is_owner (held m (record_at z m t)) t
    then set_held x (record_at z m t) (Version (suc (entry z m t (at m t)).old.version)) else x))

-- The first step does the whole commit, as ours would if it were alone; the later steps only count.
abbrev pub commits_at_once : Machine
commits_at_once =
    stepping (changing (λ z m t x.
    let n = (place m t).count in
    let whole = leaves ours z m (replicate (3 * n + 3) (SP t)) in
    if is (Taking Commit 0) (phase m t) then
    (if eqb (at m t) 0 then memory whole.words whole.records x.places x.entries else
    if ltb (at m t) n then move m t (Taking Commit (suc (at m t))) else x)
    else if is (Writing 0) (phase m t) then memory m.words m.records x.places x.entries else
    x))

-- Clashes ------------------------------------------------------------------------------------------------------------------------

-- a twist of the step that meets another owner
abbrev pub where_owned : Held → (ℕ → Memory) → Memory → Memory
where_owned (Version v) f x = x
where_owned (Owner u) f x = f u

abbrev pub clashing : (Sizes → Memory → ℕ → ℕ → Memory → Memory) → Machine
clashing f =
    stepping (changing (λ z m t x.
    if fails (phase m t) && is (Releasing Failed 0) (phase x t) then where_owned (held m (record_at z m t)) (λ u. f z m t u x) x else x))

-- An owner in some phase is left in its place: one that takes for commit, one that takes for sleep, one that sleeps.
abbrev pub sparing : Phase → Machine
sparing p = clashing (λ z m t u x. if is p (phase m u) then set_place x u (place m u) else x)

abbrev pub committer_untouched : Machine
committer_untouched = sparing (Taking Commit 0)

abbrev pub waiter_untouched : Machine
waiter_untouched = sparing (Taking Sleep 0)

abbrev pub sleeper_untouched : Machine
sleeper_untouched = sparing Asleep

-- The comer stays where it was.
abbrev pub comer_untouched : Machine
comer_untouched = clashing (λ z m t u x. set_place x t (place m t))

-- The comer fails, but takes the record.
abbrev pub comer_steals : Machine
comer_steals = clashing (λ z m t u x. set_held x (record_at z m t) (Owner t))

-- An owner that has committed is ended.
abbrev pub ends_committed : Machine
ends_committed = clashing (λ z m t u x. if committed (phase m u) then move x u (Releasing Failed 0) else x)

-- A sleeper is woken and its record taken in the same step.
abbrev pub wakes_and_takes : Machine
wakes_and_takes =
    clashing (λ z m t u x. if wakes (phase m u) then move (set_held x (record_at z m t) (Owner t)) t (phase_of (code_of (phase m t)) (suc (at m t))) else x)

-- All in all ---------------------------------------------------------------------------------------------------------------------

-- Every call is refused.
abbrev pub always_refuses : Machine
always_refuses = calling (λ z m c. refused 4 m)

-- Every transaction ends with 22.
abbrev pub always_fails : Machine
always_fails = stepping (λ z m t r. if leb 21 r.number then reply 22 0 r.after else r)

-- Every answer is ours, and nothing changes.
abbrev pub changes_nothing : Machine
changes_nothing = record { call = λ z m c. over m (call z m c); open_board = λ z v m. over m (open_board z v m); look = look }

-- What the claims lean on ---------------------------------------------------------------------------------------------------------

-- A test of soundness that does not look at the records nor at the lists: any owner passes.
abbrev pub passes_any_owner : Sizes → Memory → Bool
passes_any_owner z m = sizes_ok z && lengths_ok z m && all_below z.tasks (λ t. task_ok z m t)

-- A sight of the bare word, with the logical version.
abbrev pub sees_bare_word : Sizes → Memory → ℕ → Seen
sees_bare_word z m a = record { value = word m a; version = (logical z m a).version }

-- A search that skips the newest entry; one that skips the oldest, for which it answers how many there are.
abbrev pub skips_newest : ℕ → List Entry → ℕ
skips_newest a es = newest (λ e. eqb e.address a) es (length es - 1)

abbrev pub skips_oldest : ℕ → List Entry → ℕ
skips_oldest a es = if eqb (index_of a es) 0 then length es else index_of a es

-- Histories ----------------------------------------------------------------------------------------------------------------------

-- Only transactions that wrote are listed.
abbrev pub writers : List (List Op) → List (List Op)
writers [] = []
writers (l ∷ h) = if puts (λ a. true) l then l ∷ writers h else writers h

abbrev pub only_writers : Notes → List (List Op)
only_writers G = writers (listed G)

-- No commit is listed.
abbrev pub no_commit : Notes → List (List Op)
no_commit G = []

-- No writer is counted, so that a version is the first one for ever.
abbrev pub counts_no_writer : Scene → Type 0
counts_no_writer s = (a : ℕ) → stamp s a ≡ s.first
