-- §7: what a step leaves, phase by phase: in the task's own place, the words, the records and the entries; and what it makes of
-- others.
use Rattle.std.specs.Prelude.{ℕ, suc, ◌%◌, ◌<◌, ◌≡◌, ◌⊎◌, ◌≢◌, ◌↔◌, true, get_or}
use Rattle.memory.specs.Pieces.{Sizes, Goal, Commit, Sleep, Outcome, Committed, Failed, Woken, Phase, Idle, Open, Taking, Asleep, Writing, Releasing, Place, Held, Version, Owner, Entry, Memory, place, moved, bare, entry, entries, held}
use Rattle.memory.specs.Lists.{has}
use Rattle.memory.specs.Sound.{sound}
use Rattle.memory.specs.Calls.{SP}
use Rattle.memory.specs.Machines.{Machine}
use Rattle.memory.specs.History.{◌∈◌}
use Rattle.memory.specs.Ways.{Led}
use Rattle.memory.specs.Answers.{phase}

-- What changes ------------------------------------------------------------------------------------------------------------------

abbrev pub word : Memory → ℕ → ℕ
word m a = get_or m.words a 0

-- of what stands at each number, before and after: all as it was; all but at one number, where a new thing stands
module _ {A : Type 0} where
  abbrev pub Same : (ℕ → A) → (ℕ → A) → Type 0
  Same f f' = (k : ℕ) → f' k ≡ f k

  abbrev pub ButAt : ℕ → A → (ℕ → A) → (ℕ → A) → Type 0
  ButAt k x f f' = (f' k ≡ x) × ((j : ℕ) → j ≢ k → f' j ≡ f j)

-- the task is in a place; words and records have changed in these ways, and no entry has
pub record Left (m : Memory) (t : ℕ) (m' : Memory) (q : Place) (Words : (ℕ → ℕ) → (ℕ → ℕ) → Type 0) (Records : (ℕ → Held) → (ℕ → Held) → Type 0) : Type 0 where
  pub own : place m' t ≡ q
  pub words : Words (word m) (word m')
  pub records : Records (held m) (held m')
  pub entries : m'.entries ≡ m.entries

-- What a step leaves -------------------------------------------------------------------------------------------------------------

-- §7.9: with every record taken, a commit writes and a wait sleeps
abbrev pub decided : Goal → Phase
decided Commit = Writing 0
decided Sleep = Asleep

-- §7.13: the version that a record is given back with
abbrev pub final : Outcome → Entry → ℕ
final Committed e = e.new.version
final Failed e = e.old.version
final Woken e = e.old.version

module _ (z : Sizes) (m : Memory) (t : ℕ) (m' : Memory) where
  -- its own place only; a word as well; a record as well
  abbrev pub Moves : Place → Type 0
  Moves q = Left m t m' q Same Same

  abbrev pub Writes : ℕ → ℕ → Place → Type 0
  Writes a v q = Left m t m' q (ButAt a v) Same

  abbrev pub Holds : ℕ → Held → Place → Type 0
  Holds r h q = Left m t m' q Same (ButAt r h)

  -- §7.4 to §7.14. A step of an Idle or Open task is refused: `RefusalsKeep` speaks of it. A record that another task owns is
  -- `ClashesEnd`'s.
  abbrev pub Steps : Phase → Type 0
  Steps Idle = Unit {0}
  Steps Open = Unit {0}
  Steps Asleep = m' ≡ m
  Steps (Taking g i) =
      let n = (place m t).count in
      let e = entry z m t i in
      let r = e.address % z.records in
      (i ≡ n → Moves (moved (place m t) (decided g)))
      × (i < n → held m r ≡ Version e.old.version → Holds r (Owner t) (moved (place m t) (Taking g (suc i))))
      × (i < n → held m r ≡ Owner t → Moves (moved (place m t) (Taking g (suc i))))
      × (i < n → (v : ℕ) → held m r ≡ Version v → v ≢ e.old.version → Moves (moved (place m t) (Releasing Failed 0)))
  Steps (Writing i) =
      let n = (place m t).count in
      let e = entry z m t i in
      (i ≡ n → Moves (moved (place m t) (Releasing Committed 0))) × (i < n → Writes e.address e.new.value (moved (place m t) (Writing (suc i))))
  Steps (Releasing o i) =
      let n = (place m t).count in
      let e = entry z m t i in
      let r = e.address % z.records in
      (i ≡ n → Moves (bare 0 Idle))
      × (i < n → held m r ≡ Owner t → Holds r (Version (final o e)) (moved (place m t) (Releasing o (suc i))))
      × (i < n → held m r ≢ Owner t → Moves (moved (place m t) (Releasing o (suc i))))

abbrev pub StepsLeave : Machine → Type 0
StepsLeave M = (z : Sizes) (m : Memory) (t : ℕ) → sound z m ≡ true → t < z.tasks → Steps z m t (M.call z m (SP t)).after (phase m t)

-- What it makes of others --------------------------------------------------------------------------------------------------------

-- a task in Taking comes with entry i to a record that another task owns
pub record Meets (z : Sizes) (m : Memory) (t u : ℕ) (g : Goal) (i : ℕ) : Type 0 where
  pub taking : phase m t ≡ Taking g i
  pub within : i < (place m t).count
  pub owned : held m ((entry z m t i).address % z.records) ≡ Owner u
  pub other : u ≢ t

-- §7.8: one that would sleep comes to a sleeper; and both have seen the record at one version
abbrev pub BothSleep : Memory → ℕ → Goal → Type 0
BothSleep m u g = (g ≡ Sleep) × (phase m u ≡ Asleep)

abbrev pub OneVersion : Sizes → Memory → ℕ → ℕ → ℕ → Type 0
OneVersion z m t u i =
    (f : Entry) × f ∈ entries z m u × (f.address % z.records ≡ (entry z m t i).address % z.records) × (f.old.version ≡ (entry z m t i).old.version)

-- the places alone have changed: the comer's, and those of others in some way
pub record PlacesChange (m : Memory) (t : ℕ) (m' : Memory) (Comer : Place → Place → Type 0) (Other : ℕ → Place → Place → Type 0) : Type 0 where
  pub comer : Comer (place m t) (place m' t)
  pub others : (v : ℕ) → v ≢ t → Other v (place m v) (place m' v)
  pub words : m'.words ≡ m.words
  pub records : m'.records ≡ m.records
  pub entries : m'.entries ≡ m.entries

-- as it was; failed; on the sleeper's list too, and at its next entry
abbrev pub Stays : ℕ → Place → Place → Type 0
Stays v q q' = q' ≡ q

abbrev pub Failing : Place → Place → Type 0
Failing q q' = q' ≡ moved q (Releasing Failed 0)

pub record Joining (u i : ℕ) (q q' : Place) : Type 0 where
  pub count : q'.count ≡ q.count
  pub phase : q'.phase ≡ Taking Sleep (suc i)
  pub joins : (w : ℕ) → (has q'.joins.bits w ≡ true) ↔ ((w ≡ u) ⊎ (has q.joins.bits w ≡ true))

-- §7.7: an owner that is met, or one who ends with it: one that takes fails, one that sleeps is woken, any other goes on as if nothing
-- had been
abbrev pub struck : Phase → Phase
struck Idle = Idle
struck Open = Open
struck (Taking g i) = Releasing Failed 0
struck Asleep = Releasing Woken 0
struck (Writing i) = Writing i
struck (Releasing o i) = Releasing o i

-- §7.17: one who ends with u is on no list of those who do
pub record Ending (m : Memory) (u : ℕ) (q q' : Place) : Type 0 where
  pub count : q'.count ≡ q.count
  pub phase : q'.phase ≡ struck q.phase
  pub joins : (w : ℕ) → (has q'.joins.bits w ≡ true) ↔ ((has q.joins.bits w ≡ true) × (Led m u w → ⊥))

-- the owner u ends, with all to whom its list leads, and nobody else does
abbrev pub EndsWith : Memory → ℕ → ℕ → Place → Place → Type 0
EndsWith m u v q q' = (Led m u v → Ending m u q q') × ((Led m u v → ⊥) → q' ≡ q)

-- What a step leaves that meets the owner u: the comer joins it, or fails alone, or both clash. Whoever is not met stays.
abbrev pub ClashesEnd : Machine → Type 0
ClashesEnd M = (z : Sizes) (m : Memory) (t : ℕ) → sound z m ≡ true → t < z.tasks
    → let m' = (M.call z m (SP t)).after in
    ((u : ℕ) (g : Goal) (i : ℕ) → Meets z m t u g i
    → (BothSleep m u g → OneVersion z m t u i → PlacesChange m t m' (Joining u i) Stays)
    × (BothSleep m u g → (OneVersion z m t u i → ⊥) → PlacesChange m t m' Failing Stays)
    × ((BothSleep m u g → ⊥) → PlacesChange m t m' Failing (EndsWith m u)))
    × (((u : ℕ) (g : Goal) (i : ℕ) → Meets z m t u g i → ⊥) → (v : ℕ) → v ≢ t → place m' v ≡ place m v)
