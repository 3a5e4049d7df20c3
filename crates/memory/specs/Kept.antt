-- §15.2, §6.17, §7.2: what a call leaves alone: soundness, everything where it is refused, and otherwise all that is not its own.
use Rattle.std.specs.Prelude.{ℕ, ◌<◌, ◌≡◌, ◌⊎◌, ◌≢◌, List, [], Bool, true, ◌&&◌, leb, get_or, set}
use Rattle.memory.specs.Pieces.{Sizes, Place, Memory, place, entry, limit}
use Rattle.memory.specs.Lists.{has}
use Rattle.memory.specs.Step.{ending}
use Rattle.memory.specs.Sound.{sound}
use Rattle.memory.specs.Calls.{Call, ST, CM, AB, WT, SP, RD, WR}
use Rattle.memory.specs.Machines.{Machine}
use Rattle.memory.specs.Ways.{Led}

-- from any sound table on, over every call, refused ones too
abbrev pub SoundLasts : Machine → Type 0
SoundLasts M = (z : Sizes) (m : Memory) → sound z m ≡ true → (c : Call) → sound z (M.call z m c).after ≡ true

-- §9.4: the numbers with which nothing changes
abbrev pub refusal : ℕ → Bool
refusal n = leb 1 n && leb n 8

abbrev pub RefusalsKeep : Machine → Type 0
RefusalsKeep M = (z : Sizes) (m : Memory) (c : Call) → refusal (M.call z m c).number ≡ true → (M.call z m c).after ≡ m

abbrev pub RefusedOpeningsKeep : Machine → Type 0
RefusedOpeningsKeep M = (z : Sizes) (v : ℕ) (m : Memory) → refusal (M.open_board z v m).number ≡ true → (M.open_board z v m).after ≡ m

-- the same list, but for one element at most
abbrev pub OneChange : {A : Type 0} → List A → List A → Type 0
OneChange {A} l l' = (l' ≡ l) ⊎ ((i : ℕ) × (x : A) × (l' ≡ set l i x))

-- a request but the step: no word, no record, no other task's place, nothing in another task's run
pub record KeepsOthers (z : Sizes) (m : Memory) (t : ℕ) (m' : Memory) : Type 0 where
  pub words : m'.words ≡ m.words
  pub records : m'.records ≡ m.records
  pub places : (u : ℕ) → u ≢ t → get_or m'.places u [] ≡ get_or m.places u []
  pub runs : (u i : ℕ) → u ≢ t → i < limit z → entry z m' u i ≡ entry z m u i

-- a clash moves a place on, and puts it on no list
pub record Clashed (q q' : Place) : Type 0 where
  pub count : q'.count ≡ q.count
  pub phase : q'.phase ≡ ending q.phase
  pub joins : (w : ℕ) → has q'.joins.bits w ≡ true → has q.joins.bits w ≡ true

-- a step: no entry; one word or one record; its own place, and those of the one owner which it met and of whoever
-- ends with it
pub record StepsNarrowly (m : Memory) (t : ℕ) (m' : Memory) : Type 0 where
  pub entries : m'.entries ≡ m.entries
  pub one : (OneChange m.words m'.words × (m'.records ≡ m.records)) ⊎ ((m'.words ≡ m.words) × OneChange m.records m'.records)
  pub owner : ℕ
  pub places : (u : ℕ) → u ≢ t → (get_or m'.places u [] ≡ get_or m.places u []) ⊎ (Led m owner u × Clashed (place m u) (place m' u))

abbrev pub Narrow : Sizes → Memory → Call → Memory → Type 0
Narrow z m (ST t) m' = KeepsOthers z m t m'
Narrow z m (CM t) m' = KeepsOthers z m t m'
Narrow z m (AB t) m' = KeepsOthers z m t m'
Narrow z m (WT t) m' = KeepsOthers z m t m'
Narrow z m (SP t) m' = StepsNarrowly m t m'
Narrow z m (RD t a) m' = KeepsOthers z m t m'
Narrow z m (WR t a v) m' = KeepsOthers z m t m'

abbrev pub CallsAreNarrow : Machine → Type 0
CallsAreNarrow M = (z : Sizes) (m : Memory) (c : Call) → Narrow z m c (M.call z m c).after
