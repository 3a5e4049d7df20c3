-- §6, §5.3: what a request and an opening leave where they are not refused: in the task's own place and entries, and in the rows
-- that hold them.
use Rattle.std.specs.Prelude.{ℕ, suc, ◌+◌, ◌*◌, ◌%◌, ◌<◌, ◌≤◌, ◌≡◌, ◌≢◌, List, [], ◌∷◌, ◌++◌, map, true, length, get_or, replicate}
use Rattle.memory.specs.Pieces.{Sizes, Commit, Sleep, Idle, Open, Taking, Place, Entry, Memory, place, moved, bare, entry, entries, row_of_entry, limit, run_start}
use Rattle.memory.specs.Logical.{logical}
use Rattle.memory.specs.Sound.{sound}
use Rattle.memory.specs.Numbers.{Reply}
use Rattle.memory.specs.Calls.{Call, ST, CM, AB, WT, SP, RD, WR}
use Rattle.memory.specs.Machines.{Machine}
use Rattle.memory.specs.History.{◌∈◌}
use Rattle.memory.specs.Answers.{phase, New, OnRecord}

-- The requests -----------------------------------------------------------------------------------------------------------------

-- the task is in a place, and no row of the table of entries has changed
abbrev pub Goes : Memory → ℕ → Memory → Place → Type 0
Goes m t m' q = (place m' t ≡ q) × (m'.entries ≡ m.entries)

-- §6.8: an entry for a new address. It begins unchanged; only its new version follows that of the task's other entries on the record.
pub record Fresh (z : Sizes) (m : Memory) (t a : ℕ) (e : Entry) : Type 0 where
  pub address : e.address ≡ a
  pub old : e.old ≡ logical z m a
  pub value : e.new.value ≡ (logical z m a).value
  pub others : (f : Entry) → f ∈ entries z m t → f.address % z.records ≡ a % z.records → e.new.version ≡ f.new.version
  pub none : (OnRecord z m t a (λ v. Unit {0}) → ⊥) → e.new.version ≡ e.old.version

-- the task's entries, one of which is for the address: the same if it is known, one more if it is new
pub record Entered (z : Sizes) (m : Memory) (t a : ℕ) (es : List Entry) : Type 0 where
  pub known : (New z m t a → ⊥) → es ≡ entries z m t
  pub new : New z m t a → (e : Entry) × Fresh z m t a e × (es ≡ entries z m t ++ e ∷ [])

-- §6.11: an entry before and after a Write of v at a: the value goes to this address, a version one higher to its whole record.
pub record Written (n a v : ℕ) (e f : Entry) : Type 0 where
  pub address : f.address ≡ e.address
  pub old : f.old ≡ e.old
  pub value : e.address ≡ a → f.new.value ≡ v
  pub other_value : e.address ≢ a → f.new.value ≡ e.new.value
  pub version : e.address % n ≡ a % n → f.new.version ≡ suc e.old.version
  pub other_version : e.address % n ≢ a % n → f.new.version ≡ e.new.version

-- §6.4 to §6.15. Read and Write that are overtaken end the transaction as Abort does.
abbrev pub Leaves : Sizes → Memory → Call → Reply → Type 0
Leaves z m (ST t) r = r.number ≡ 0 → Goes m t r.after (bare 0 Open)
Leaves z m (CM t) r = r.number ≡ 0 → Goes m t r.after (moved (place m t) (Taking Commit 0))
Leaves z m (AB t) r = r.number ≡ 0 → Goes m t r.after (bare 0 Idle)
Leaves z m (WT t) r = r.number ≡ 0 → Goes m t r.after (moved (place m t) (Taking Sleep 0))
Leaves z m (RD t a) r =
    (r.number ≡ 9 → Goes m t r.after (bare 0 Idle)) × (r.number ≡ 0 → (phase r.after t ≡ Open) × Entered z m t a (entries z r.after t))
Leaves z m (WR t a v) r =
    (r.number ≡ 9 → Goes m t r.after (bare 0 Idle))
    × (r.number ≡ 0 → (phase r.after t ≡ Open)
    × (es : List Entry) × Entered z m t a es × (f : Entry → Entry) × ((e : Entry) → Written z.records a v e (f e)) × (entries z r.after t ≡ map f es))
Leaves z m (SP t) r = Unit {0}

abbrev pub RequestsLeave : Machine → Type 0
RequestsLeave M = (z : Sizes) (m : Memory) (c : Call) → Leaves z m c (M.call z m c)

-- The rows of the entries --------------------------------------------------------------------------------------------------------

abbrev pub entry_row : Sizes → Memory → ℕ → ℕ → List ℕ
entry_row z m t i = get_or m.entries (run_start z t + i) []

-- The rows of the task's entries, from one of them up to its number of entries, are stored as five numbers. Every other row is the
-- same, also those of the task that hold no entry now.
pub record StoredFrom (from : ℕ) (z : Sizes) (m : Memory) (t : ℕ) (m' : Memory) : Type 0 where
  pub others : (u i : ℕ) → u ≢ t → i < limit z → entry_row z m' u i ≡ entry_row z m u i
  pub before : (i : ℕ) → i < from → entry_row z m' t i ≡ entry_row z m t i
  pub beyond : (i : ℕ) → (place m' t).count ≤ i → i < limit z → entry_row z m' t i ≡ entry_row z m t i
  pub stored : (i : ℕ) → from ≤ i → i < (place m' t).count → entry_row z m' t i ≡ row_of_entry (entry z m' t i)

-- A Read stores the entry that it adds, a Write every entry. Of the other requests `Goes` says that they store none, of the step
-- `StepsNarrowly`.
abbrev pub Stores : Sizes → Memory → Call → Reply → Type 0
Stores z m (ST t) r = Unit {0}
Stores z m (CM t) r = Unit {0}
Stores z m (AB t) r = Unit {0}
Stores z m (WT t) r = Unit {0}
Stores z m (SP t) r = Unit {0}
Stores z m (RD t a) r = r.number ≡ 0 → StoredFrom (place m t).count z m t r.after
Stores z m (WR t a v) r = r.number ≡ 0 → StoredFrom 0 z m t r.after

abbrev pub EntriesStored : Machine → Type 0
EntriesStored M = (z : Sizes) (m : Memory) (c : Call) → Stores z m c (M.call z m c)

-- The opening --------------------------------------------------------------------------------------------------------------------

-- §5.3: nothing but zeros, one version in every record, and every task idle
pub record Opened (z : Sizes) (v : ℕ) (m : Memory) : Type 0 where
  pub words : m.words ≡ replicate z.words 0
  pub records : m.records ≡ replicate z.records v
  pub places : length m.places ≡ z.tasks
  pub idle : (t : ℕ) → place m t ≡ bare 0 Idle
  pub entries : m.entries ≡ replicate (limit z * z.tasks) (0 ∷ 0 ∷ 0 ∷ 0 ∷ 0 ∷ [])

abbrev pub OpeningLeaves : Machine → Type 0
OpeningLeaves M = (z : Sizes) (v : ℕ) (m : Memory) → (M.open_board z v m).number ≡ 0 → Opened z v (M.open_board z v m).after

abbrev pub OpeningIsSound : Machine → Type 0
OpeningIsSound M = (z : Sizes) (v : ℕ) (m : Memory) → (M.open_board z v m).number ≡ 0 → sound z (M.open_board z v m).after ≡ true
