-- What the other claims lean on, in other words: the numbers that bound the pieces, a sound table, the logical value and version, and the
-- search for an entry.
use Rattle.std.specs.Prelude.{ℕ, suc, ◌+◌, ◌*◌, ◌/◌, ◌%◌, ◌^◌, ◌<◌, ◌≤◌, ◌≡◌, ◌⊎◌, ◌≢◌, ◌↔◌, List, [], ◌∷◌, Bool, true, length, get_or, eqb}
use Rattle.memory.specs.Pieces.{Sizes, Goal, Commit, Sleep, Outcome, Committed, Failed, Woken, Phase, Idle, Open, Taking, Asleep, Writing, Releasing, Place, Version, Owner, Seen, Entry, Memory, place_of, row_of, place, bare, entry_of, row_of_entry, entry, entries, held, limit, run_start, most_words, most_records, most_tasks, top_version}
use Rattle.memory.specs.Lists.{has}
use Rattle.memory.specs.Logical.{index, blank}
use Rattle.memory.specs.Sound.{sound}
use Rattle.memory.specs.History.{◌∈◌}
use Rattle.memory.specs.Ways.{Joined, Led}
use Rattle.memory.specs.Answers.{phase, Fits, New}

-- The numbers --------------------------------------------------------------------------------------------------------------------

-- §2, §3.3
pub record Figures : Type 0 where
  pub words : most_words ≡ 4096
  pub records : most_records ≡ 1024
  pub tasks : most_tasks ≡ 32
  pub entries : (z : Sizes) → limit z ≡ 64
  pub top : top_version ≡ 2147483647
  -- a record's 32 bits: a version as it is, an owner with the top bit set
  pub version : (m : Memory) (r v : ℕ) → v ≤ 2147483647 → get_or m.records r 0 ≡ v → held m r ≡ Version v
  pub owner : (m : Memory) (r t : ℕ) → get_or m.records r 0 ≡ 2147483648 + t → held m r ≡ Owner t

-- §3.4 to §3.7: how a place and an entry stand in their rows, which a program lends and may look at. What is stored is read back.
pub record Layout : Type 0 where
  pub idle : (n : ℕ) → row_of (bare n Idle) ≡ n ∷ 0 ∷ 0 ∷ 0 ∷ []
  pub opened : (n : ℕ) → row_of (bare n Open) ≡ n ∷ 1 ∷ 0 ∷ 0 ∷ []
  pub taking_to_commit : (n i : ℕ) → row_of (bare n (Taking Commit i)) ≡ n ∷ 2 ∷ i ∷ 0 ∷ []
  pub taking_to_sleep : (n i : ℕ) → row_of (bare n (Taking Sleep i)) ≡ n ∷ 3 ∷ i ∷ 0 ∷ []
  pub asleep : (n : ℕ) → row_of (bare n Asleep) ≡ n ∷ 4 ∷ 0 ∷ 0 ∷ []
  pub writing : (n i : ℕ) → row_of (bare n (Writing i)) ≡ n ∷ 5 ∷ i ∷ 0 ∷ []
  pub committed : (n i : ℕ) → row_of (bare n (Releasing Committed i)) ≡ n ∷ 6 ∷ i ∷ 0 ∷ []
  pub failed : (n i : ℕ) → row_of (bare n (Releasing Failed i)) ≡ n ∷ 7 ∷ i ∷ 0 ∷ []
  pub woken : (n i : ℕ) → row_of (bare n (Releasing Woken i)) ≡ n ∷ 8 ∷ i ∷ 0 ∷ []
  -- the fourth number is the set of the sleepers that it joined: the task of each binary digit that is 1
  pub joined : (q : Place) → get_or (row_of q) 3 0 ≡ q.joins.bits
  pub set : (s t : ℕ) → (has s t ≡ true) ↔ (s / 2 ^ t % 2 ≡ 1)
  pub place_read_back : (q : Place) → place_of (row_of q) ≡ q
  pub entry : (e : Entry) → row_of_entry e ≡ e.address ∷ e.old.value ∷ e.new.value ∷ e.old.version ∷ e.new.version ∷ []
  pub entry_read_back : (e : Entry) → entry_of (row_of_entry e) ≡ e
  -- the run of a task begins where those of the tasks before it end
  pub run : (z : Sizes) (t : ℕ) → run_start z t ≡ 64 * t

-- A sound table ----------------------------------------------------------------------------------------------------------------

-- §10.5: an entry by itself
pub record SoundEntry (z : Sizes) (e : Entry) : Type 0 where
  pub address : e.address < z.words
  pub old : (1 ≤ e.old.version) × (e.old.version ≤ top_version)
  pub new : (1 ≤ e.new.version) × (e.new.version ≤ top_version)
  pub raised : (e.new.version ≡ e.old.version) ⊎ (e.new.version ≡ suc e.old.version)

-- §10.3, §10.4, §10.6. A task: its row is the encoding of its place, its position is within its entries, and no two entries are for
-- one address or differ in the versions of one record.
pub record SoundTask (z : Sizes) (m : Memory) (t : ℕ) : Type 0 where
  pub row : (q : Place) × (get_or m.places t [] ≡ row_of q)
  pub few : (place m t).count ≤ limit z
  pub taking : (g : Goal) (i : ℕ) → phase m t ≡ Taking g i → i ≤ (place m t).count
  pub writing : (i : ℕ) → phase m t ≡ Writing i → i ≤ (place m t).count
  pub releasing : (o : Outcome) (i : ℕ) → phase m t ≡ Releasing o i → i ≤ (place m t).count
  pub idle : phase m t ≡ Idle → (place m t).count ≡ 0
  pub each : (i : ℕ) → i < (place m t).count → SoundEntry z (entry z m t i)
  pub apart : (i j : ℕ) → i < j → j < (place m t).count → (entry z m t i).address ≢ (entry z m t j).address
  pub agree : (i j : ℕ) → i < j → j < (place m t).count → (entry z m t i).address % z.records ≡ (entry z m t j).address % z.records
      → ((entry z m t i).old.version ≡ (entry z m t j).old.version) × ((entry z m t i).new.version ≡ (entry z m t j).new.version)

-- §10.8: an owner of a record: it has an entry there, one that it has yet to release
pub record SoundOwner (z : Sizes) (m : Memory) (r t : ℕ) : Type 0 where
  pub task : t < z.tasks
  pub busy : (phase m t ≢ Idle) × (phase m t ≢ Open)
  pub has : (j : ℕ) × (j < (place m t).count) × ((entry z m t j).address % z.records ≡ r) × ((o : Outcome) (i : ℕ) → phase m t ≡ Releasing o i → i ≤ j)

-- §10.13, §10.14: a task t and one whose list it is on. Only a sleeper has a list, and from whoever is on it no way leads back.
pub record SoundJoin (m : Memory) (t w : ℕ) : Type 0 where
  pub sleeps : phase m w ≡ Asleep
  pub ends : (phase m t ≡ Asleep) ⊎ (((i : ℕ) × (phase m t ≡ Taking Sleep i)) ⊎ ((o : Outcome) × (i : ℕ) × (phase m t ≡ Releasing o i)))
  pub ahead : Led m t w → ⊥

pub record SoundTable (z : Sizes) (m : Memory) : Type 0 where
  pub words : (1 ≤ z.words) × (z.words ≤ most_words)
  pub records : (1 ≤ z.records) × (z.records ≤ most_records)
  pub tasks : (1 ≤ z.tasks) × (z.tasks ≤ most_tasks)
  pub lengths : Fits z m
  pub each_task : (t : ℕ) → t < z.tasks → SoundTask z m t
  pub versions : (r v : ℕ) → r < z.records → held m r ≡ Version v → (1 ≤ v) × (v ≤ top_version)
  pub owners : (r t : ℕ) → r < z.records → held m r ≡ Owner t → SoundOwner z m r t
  pub joins : (t : ℕ) → t < z.tasks → (place m t).joins.bits < 2 ^ z.tasks
  pub lists : (t w : ℕ) → t < z.tasks → Joined m t w → SoundJoin m t w

-- Of a test: it passes exactly the sound tables. There is one such test.
abbrev pub SoundMeans : (Sizes → Memory → Bool) → Type 0
SoundMeans test = (z : Sizes) (m : Memory) → (test z m ≡ true) ↔ SoundTable z m

abbrev pub OneTest : Type 0
OneTest = (f g : Sizes → Memory → Bool) → SoundMeans f → SoundMeans g → (z : Sizes) (m : Memory) → f z m ≡ g z m

-- The logical value and version --------------------------------------------------------------------------------------------------

-- §4.3: what an entry shows to others: the new once its transaction is decided as committed, the old at every other time
abbrev pub shown : Phase → Entry → Seen
shown Idle e = e.old
shown Open e = e.old
shown (Taking g i) e = e.old
shown Asleep e = e.old
shown (Writing i) e = e.new
shown (Releasing Committed i) e = e.new
shown (Releasing Failed i) e = e.old
shown (Releasing Woken i) e = e.old

-- §4.2 to §4.4: the word under a version; what the owner's entry shows; and where the owner has entries on the record but none for
-- the address, the word with the version that they show
pub record LogicalAt (z : Sizes) (m : Memory) (a : ℕ) (s : Seen) : Type 0 where
  pub free : (v : ℕ) → held m (a % z.records) ≡ Version v → s ≡ record { value = get_or m.words a 0; version = v }
  pub known : (t : ℕ) → held m (a % z.records) ≡ Owner t → (e : Entry) → e ∈ entries z m t → e.address ≡ a → s ≡ shown (phase m t) e
  pub beside : (t : ℕ) → held m (a % z.records) ≡ Owner t → New z m t a → (e : Entry) → e ∈ entries z m t → e.address % z.records ≡ a % z.records
      → s ≡ record { value = get_or m.words a 0; version = (shown (phase m t) e).version }

-- Of a way to see an address: on every sound table it sees this. There is one such way.
abbrev pub LogicalMeans : (Sizes → Memory → ℕ → Seen) → Type 0
LogicalMeans sees = (z : Sizes) (m : Memory) → sound z m ≡ true → (a : ℕ) → LogicalAt z m a (sees z m a)

abbrev pub OneSight : Type 0
OneSight = (f g : Sizes → Memory → ℕ → Seen) → LogicalMeans f → LogicalMeans g → (z : Sizes) (m : Memory) → sound z m ≡ true → (a : ℕ) → f z m a ≡ g z m a

-- The search for an entry ---------------------------------------------------------------------------------------------------------

-- §10.6: no two entries of a task are for one address.
abbrev pub Distinct : List Entry → Type 0
Distinct es = (i j : ℕ) → i < j → j < length es → (get_or es i blank).address ≢ (get_or es j blank).address

-- Of a search for the entry for an address: it answers what the search from the oldest answers.
abbrev pub SearchMeans : (ℕ → List Entry → ℕ) → Type 0
SearchMeans search = (a : ℕ) (es : List Entry) → Distinct es → search a es ≡ index (λ e. eqb e.address a) es
