-- §9: which number is answered, and with which value. Of each call its numbers in their order, each with the condition under which it
-- is given. The conditions speak of the table, not of what a call does.
use Rattle.std.specs.Prelude.{ℕ, ◌*◌, ◌%◌, ◌≤◌, ◌≡◌, ◌⊎◌, ◌≢◌, List, [], ◌∷◌, false, length}
use Rattle.memory.specs.Pieces.{Sizes, Committed, Failed, Woken, Phase, Idle, Open, Asleep, Releasing, Entry, Memory, place, entries, limit, most_words, most_records, most_tasks, top_version}
use Rattle.memory.specs.Logical.{logical}
use Rattle.memory.specs.Sound.{sound}
use Rattle.memory.specs.Numbers.{Reply}
use Rattle.memory.specs.Calls.{Call, ST, CM, AB, WT, SP, RD, WR}
use Rattle.memory.specs.Machines.{Machine}
use Rattle.memory.specs.History.{◌∈◌}

-- a number, and when it is given
abbrev pub Row : Type 1
Row = ℕ × Type 0

-- §9.2: the number of the first row whose condition holds; 0 where none does
abbrev pub Given : List Row → ℕ → Type 0
Given [] n = n ≡ 0
Given (r ∷ rows) n = (r.1 × (n ≡ r.0)) ⊎ ((r.1 → ⊥) × Given rows n)

-- a list of rows gives one number
abbrev pub OneNumber : Type 1
OneNumber = (rows : List Row) (n k : ℕ) → Given rows n → Given rows k → n ≡ k

-- The conditions ---------------------------------------------------------------------------------------------------------------

abbrev pub phase : Memory → ℕ → Phase
phase m t = (place m t).phase

module _ (z : Sizes) (m : Memory) (t a : ℕ) where
  -- none of the task's entries is for the address
  abbrev pub New : Type 0
  New = (e : Entry) → e ∈ entries z m t → e.address ≢ a

  -- one of them is on the address's record, with an old version of which something holds
  abbrev pub OnRecord : (ℕ → Type 0) → Type 0
  OnRecord P = (e : Entry) × e ∈ entries z m t × (e.address % z.records ≡ a % z.records) × P e.old.version

  -- §6.7: the record was read at one version and has another by now
  abbrev pub Overtaken : Type 0
  Overtaken = New × OnRecord (λ v. (logical z m a).version ≢ v)

  -- §6.10: the version from which a Write counts: that of the task's entries on the record, else the logical one
  abbrev pub OldVersion : ℕ → Type 0
  OldVersion v = OnRecord (λ w. w ≡ v) ⊎ ((OnRecord (λ w. Unit {0}) → ⊥) × ((logical z m a).version ≡ v))

-- The rows ---------------------------------------------------------------------------------------------------------------------

-- 1, an unsound table; 3, no such task; 4, not in this phase
abbrev pub refusals : Sizes → Memory → ℕ → Type 0 → List Row → List Row
refusals z m t Disallowed more = (1, sound z m ≡ false) ∷ (3, z.tasks ≤ t) ∷ (4, Disallowed) ∷ more

-- and of Read and Write: 5, no such address; 6, no room for a new one; 9, overtaken
abbrev pub unusable : Sizes → Memory → ℕ → ℕ → List Row → List Row
unusable z m t a more =
    refusals z m t (phase m t ≢ Open)
    ((5, z.words ≤ a) ∷ (6, New z m t a × ((place m t).count ≡ limit z)) ∷ (9, Overtaken z m t a) ∷ more)

-- 7, nothing to sleep on; 8, no version is left; 20 by the phase after the step, 21 to 23 by the phase before it
abbrev pub rows_of : Sizes → Memory → Call → Memory → List Row
rows_of z m (ST t) m' = refusals z m t (phase m t ≢ Idle) []
rows_of z m (CM t) m' = refusals z m t (phase m t ≢ Open) []
rows_of z m (AB t) m' = refusals z m t (phase m t ≢ Open) []
rows_of z m (WT t) m' = refusals z m t (phase m t ≢ Open) ((7, (place m t).count ≡ 0) ∷ [])
rows_of z m (RD t a) m' = unusable z m t a []
rows_of z m (WR t a v) m' = unusable z m t a ((8, OldVersion z m t a top_version) ∷ [])
rows_of z m (SP t) m' =
    refusals z m t ((phase m t ≡ Idle) ⊎ (phase m t ≡ Open))
    ((20, phase m' t ≡ Asleep)
    ∷ (21, phase m t ≡ Releasing Committed (place m t).count)
    ∷ (22, phase m t ≡ Releasing Failed (place m t).count)
    ∷ (23, phase m t ≡ Releasing Woken (place m t).count) ∷ [])

-- The value --------------------------------------------------------------------------------------------------------------------

-- §6.1, §6.9: only a Read that answers 0 has one: what the task wrote or read there before, else what everybody sees
abbrev pub Valued : Sizes → Memory → Call → Reply → Type 0
Valued z m (ST t) r = r.value ≡ 0
Valued z m (CM t) r = r.value ≡ 0
Valued z m (AB t) r = r.value ≡ 0
Valued z m (WT t) r = r.value ≡ 0
Valued z m (SP t) r = r.value ≡ 0
Valued z m (WR t a v) r = r.value ≡ 0
Valued z m (RD t a) r =
    (r.number ≢ 0 → r.value ≡ 0)
    × (r.number ≡ 0 → (e : Entry) → e ∈ entries z m t → e.address ≡ a → r.value ≡ e.new.value)
    × (r.number ≡ 0 → New z m t a → r.value ≡ (logical z m a).value)

-- of any sizes, any memory, sound or not, and any call
abbrev pub CallAnswers : Machine → Type 0
CallAnswers M = (z : Sizes) (m : Memory) (c : Call) → let r = M.call z m c in Given (rows_of z m c r.after) r.number × Valued z m c r

-- Opening and the look-up ------------------------------------------------------------------------------------------------------

abbrev pub InRange : Sizes → ℕ → Type 0
InRange z v =
    (1 ≤ z.words) × (z.words ≤ most_words) × (1 ≤ z.records) × (z.records ≤ most_records) × (1 ≤ z.tasks) × (z.tasks ≤ most_tasks)
    × (1 ≤ v) × (v ≤ top_version)

-- what was lent has the lengths that the sizes ask
abbrev pub Fits : Sizes → Memory → Type 0
Fits z m =
    (length m.words ≡ z.words) × (length m.records ≡ z.records) × (length m.places ≡ z.tasks)
    × (length m.entries ≡ limit z * z.tasks)

-- §5.2: 2 before 1, whatever the lent places hold
abbrev pub OpeningAnswers : Machine → Type 0
OpeningAnswers M = (z : Sizes) (v : ℕ) (m : Memory)
    → let r = M.open_board z v m in Given ((2, InRange z v → ⊥) ∷ (1, Fits z m → ⊥) ∷ []) r.number × (r.value ≡ 0)

-- §5.6: 1 before 5; with both, value and version are 0
abbrev pub LookAnswers : Machine → Type 0
LookAnswers M = (z : Sizes) (m : Memory) (a : ℕ)
    → let r = M.look z m a in
    Given ((1, sound z m ≡ false) ∷ (5, z.words ≤ a) ∷ []) r.number
    × (r.number ≢ 0 → (r.value ≡ 0) × (r.version ≡ 0))
    × (r.number ≡ 0 → (r.value ≡ (logical z m a).value) × (r.version ≡ (logical z m a).version))
