-- Thirteen wrong machines, one for each claim of Fixed, in its order: each breaks this claim and meets the other twelve.
use Rattle.std.specs.Prelude.{ℕ, ◌-◌, ◌%◌, List, [], ◌∷◌, Bool, false, not, ◌&&◌, eqb, ltb, replicate, set, if◌then◌else◌}
use Rattle.memory.specs.Pieces.{Sizes, Failed, Open, Writing, Releasing, Held, Version, Owner, Entry, Memory, memory, position_of, is, held, place, bare, limit, entry, set_word, set_place, set_entry, move}
use Rattle.memory.specs.Logical.{nothing_seen}
use Rattle.memory.specs.Step.{fails}
use Rattle.memory.specs.Requests.{opened, looked}
use Rattle.memory.specs.Machines.{Machine}
use Rattle.memory.specs.Wrong.{valued, leaving, starting, aborting, stepping, reading, opening, looking}

-- other rows for the places
abbrev pub with_places : Memory → List (List ℕ) → Memory
with_places x rows = memory x.words x.records rows x.entries

-- Start answers the value 1.
abbrev pub start_says_1 : Machine
start_says_1 = starting (λ z m t r. valued 1 r)

-- The opening answers the value 1.
abbrev pub opening_says_1 : Machine
opening_says_1 = opening (λ z v m r. valued 1 r)

-- The look-up answers 5 before 1.
abbrev pub look_says_5_first : Machine
look_says_5_first = looking (λ z m a r. if ltb a z.words then r else looked 5 0 0)

-- Start that is refused because the table is unsound opens the task all the same.
abbrev pub refused_start_opens : Machine
refused_start_opens = starting (λ z m t r. leaving 1 (λ x. set_place x t (bare 0 Open)) r)

-- An opening that is refused because of the lent lengths leaves an opened board.
abbrev pub refused_opening_clears : Machine
refused_opening_clears = opening (λ z v m r. leaving 1 (λ x. opened z v) r)

-- Start writes 1 to word 0.
abbrev pub start_writes : Machine
start_writes = starting (λ z m t r. leaving 0 (λ x. set_word x 0 1) r)

-- Abort changes nothing: the transaction stays open.
abbrev pub abort_does_nothing : Machine
abort_does_nothing = aborting (λ z m t r. leaving 0 (λ x. m) r)

-- Read scribbles into the last entry place of its task, where that holds no entry.
abbrev pub mark : Entry
mark = record { address = 3; old = nothing_seen; new = nothing_seen }

abbrev pub scribbled : Sizes → ℕ → Memory → Memory
scribbled z t x = if ltb (place x t).count (limit z) then set_entry z x t (limit z - 1) mark else x

abbrev pub read_scribbles : Machine
read_scribbles = reading (λ a z m t r. leaving 0 (scribbled z t) r)

-- A step in Writing changes nothing: no word is ever written.
abbrev pub writing_stays : Machine
writing_stays = stepping (λ z m t r. leaving 0 (λ x. if is (Writing 0) (place m t).phase then m else x) r)

-- A task in Taking that comes to a record of another task's fails, joins nobody, and leaves the owner as it was, with its list.
abbrev pub another : ℕ → Held → Bool
another t (Version v) = false
another t (Owner u) = not (eqb u t)

abbrev pub comes_to_another : Sizes → Memory → ℕ → Bool
comes_to_another z m t =
    let i = position_of (place m t).phase in
    fails (place m t).phase && ltb i (place m t).count && another t (held m ((entry z m t i).address % z.records))

abbrev pub owner_stays : Machine
owner_stays = stepping (λ z m t r. leaving 0 (λ x. if comes_to_another z m t then move m t (Releasing Failed 0) else x) r)

-- Start stores its place as a row of five numbers.
abbrev pub start_widens : Machine
start_widens = starting (λ z m t r. leaving 0 (λ x. with_places x (set x.places t (0 ∷ 1 ∷ 0 ∷ 0 ∷ 0 ∷ []))) r)

-- The opening leaves 1 in word 0.
abbrev pub opening_writes : Machine
opening_writes = opening (λ z v m r. leaving 0 (λ x. set_word x 0 1) r)

-- The opening leaves an empty row for the place of every task.
abbrev pub opening_leaves_no_rows : Machine
opening_leaves_no_rows = opening (λ z v m r. leaving 0 (λ x. with_places x (replicate z.tasks [])) r)
