-- §16.4, §16.5, whole turns: the calls of a transaction, with nobody else's between. It comes through, after one try for each
-- sleeper that owns a record in its way. Those who joined one cost no try of their own.
use Rattle.std.specs.Prelude.{ℕ, zero, suc, ◌+◌, ◌*◌, ◌%◌, ◌<◌, ◌≡◌, ◌⊎◌, ◌≢◌, List, [], ◌∷◌, ◌++◌, map, Bool, true, false, ◌||◌, eqb, length, get_or, replicate}
use Rattle.memory.specs.Pieces.{Sizes, Woken, Idle, Asleep, Releasing, Held, Version, Owner, Entry, Memory, place, bare, entry, entries, limit, held}
use Rattle.memory.specs.Logical.{logical}
use Rattle.memory.specs.Sound.{sound}
use Rattle.memory.specs.Calls.{Call, ST, CM, SP}
use Rattle.memory.specs.Machines.{Machine, ours, leaves, numbers}
use Rattle.memory.specs.Lists.{bit}
use Rattle.memory.specs.History.{◌∈◌}
use Rattle.memory.specs.Ways.{Led}
use Rattle.memory.specs.Answers.{phase}
use Rattle.memory.specs.Stepping.{Ending}
use Rattle.memory.specs.Order.{Always}
use Rattle.memory.specs.Alone.{then_answers, Use, reads, writes, use_by}

-- between turns every task is Idle or Asleep
abbrev pub Calm : Sizes → Memory → Type 0
Calm z m = (u : ℕ) → u < z.tasks → (phase m u ≡ Idle) ⊎ (phase m u ≡ Asleep)

-- Start, Reads and Writes; then Commit and so many steps
abbrev pub body : ℕ → List Use → List Call
body t us = ST t ∷ map (use_by t) us

abbrev pub try : ℕ → List Use → ℕ → List Call
try t us k = body t us ++ CM t ∷ replicate k (SP t)

-- the addresses that it uses
abbrev pub address_of : Use → ℕ
address_of (reads a) = a
address_of (writes a v) = a

-- The tasks that own the record of one of these addresses, and how many they are. (Where every task is Idle or Asleep, an owner is
-- Asleep.)
abbrev pub is_owner : Held → ℕ → Bool
is_owner (Version v) u = false
is_owner (Owner w) u = eqb w u

abbrev pub owns_one : Sizes → Memory → List ℕ → ℕ → Bool
owns_one z m [] u = false
owns_one z m (a ∷ area) u = is_owner (held m (a % z.records)) u || owns_one z m area u

abbrev pub how_many : ℕ → (ℕ → Bool) → ℕ
how_many zero p = 0
how_many (suc n) p = how_many n p + bit (p n)

abbrev pub in_the_way : Sizes → Memory → List ℕ → ℕ
in_the_way z m area = how_many z.tasks (owns_one z m area)

module _ (M : Machine) where
  -- how many entries a body gave
  abbrev pub entered : Sizes → Memory → ℕ → List Use → ℕ
  entered z m t us = length (entries z (leaves M z m (body t us)) t)

  -- every call answers 0; every call but the last, which answers a number
  abbrev pub AllZero : Sizes → Memory → List Call → Type 0
  AllZero z m cs = numbers M z m cs ≡ replicate (length cs) 0

  abbrev pub LastSays : Sizes → Memory → List Call → ℕ → Type 0
  LastSays z m cs n = (k : ℕ) × (numbers M z m cs ≡ then_answers k n)

  -- One try ------------------------------------------------------------------------------------------------------------------------

  -- It commits in 3n + 3 steps; then it is Idle again, and every other task is in the place where it was.
  pub record Through (z : Sizes) (m : Memory) (t : ℕ) (us : List Use) (m' : Memory) : Type 0 where
    pub is_after : m' ≡ leaves M z m (try t us (3 * entered z m t us + 3))
    pub answers : LastSays z m (try t us (3 * entered z m t us + 3)) 21
    pub own : place m' t ≡ bare 0 Idle
    pub others : (w : ℕ) → w ≢ t → place m' w ≡ place m w

  -- It fails, and wakes a sleeper that owns the record of an address which it used: i steps that take, the one that meets, and n + 1
  -- to its own end. Then the sleeper and all to whom its list leads are in Releasing (woken) at 0 and on none of their lists, every
  -- other task is in the place where it was (this one Idle), and no word, no record and no other task's entry has changed.
  pub record Wakes (z : Sizes) (m : Memory) (t : ℕ) (us : List Use) (u : ℕ) (m' : Memory) : Type 0 where
    pub slept : phase m u ≡ Asleep
    pub owned : (a : ℕ) × a ∈ map address_of us × (held m (a % z.records) ≡ Owner u)
    pub i : ℕ
    pub within : i < entered z m t us
    pub is_after : m' ≡ leaves M z m (try t us (suc i + suc (entered z m t us)))
    pub answers : LastSays z m (try t us (suc i + suc (entered z m t us))) 22
    pub woken : (w : ℕ) → Led m u w → (phase m' w ≡ Releasing Woken 0) × Ending m u (place m w) (place m' w)
    pub others : (w : ℕ) → (Led m u w → ⊥) → place m' w ≡ place m w
    pub words : m'.words ≡ m.words
    pub records : m'.records ≡ m.records
    pub runs : (w j : ℕ) → w ≢ t → j < limit z → entry z m' w j ≡ entry z m w j

  abbrev pub ATryEnds : Type 0
  ATryEnds = (z : Sizes) (m : Memory) (t : ℕ) → t < z.tasks → sound z m ≡ true → Calm z m → phase m t ≡ Idle
      → (us : List Use) → AllZero z m (body t us)
      → ((m' : Memory) × Through z m t us m') ⊎ ((u : ℕ) × (m' : Memory) × Wakes z m t us u m')

  -- The one that was woken ---------------------------------------------------------------------------------------------------------

  -- Its steps, one more than its entries, end with 23. Then it is Idle, every other task is in the place where it was, no word and no
  -- entry has changed; each record that it owned holds the old version again, and every other what it held.
  pub record Rises (z : Sizes) (m : Memory) (u : ℕ) (m' : Memory) : Type 0 where
    pub is_after : m' ≡ leaves M z m (replicate (suc (place m u).count) (SP u))
    pub answers : LastSays z m (replicate (suc (place m u).count) (SP u)) 23
    pub own : place m' u ≡ bare 0 Idle
    pub others : (w : ℕ) → w ≢ u → place m' w ≡ place m w
    pub words : m'.words ≡ m.words
    pub entries_same : m'.entries ≡ m.entries
    pub freed : (e : Entry) → e ∈ entries z m u → held m (e.address % z.records) ≡ Owner u → held m' (e.address % z.records) ≡ Version e.old.version
    pub kept : (r : ℕ) → r < z.records → held m r ≢ Owner u → held m' r ≡ held m r

  -- every task below n that is in Releasing (woken) at 0 is stepped to its end, one after the other
  abbrev pub AllRise : Sizes → ℕ → Memory → Memory → Type 0
  AllRise z zero m m' = m' ≡ m
  AllRise z (suc n) m m' =
      (m₁ : Memory) × AllRise z n m m₁
      × (phase m₁ n ≡ Releasing Woken 0 → Rises z m₁ n m') × (phase m₁ n ≢ Releasing Woken 0 → m' ≡ m₁)

  abbrev pub TheWokenEnds : Type 0
  TheWokenEnds = (z : Sizes) (m : Memory) (u : ℕ) → u < z.tasks → sound z m ≡ true → phase m u ≡ Releasing Woken 0 → (m' : Memory) × Rises z m u m'

  -- The turn -----------------------------------------------------------------------------------------------------------------------

  -- A turn of a task that uses only these addresses, with k tries to spare: whatever it reads and writes, each time anew, if all is
  -- answered 0 the try commits; or it wakes a sleeper, which is stepped to its end with all that woke with it, and the turn goes on
  -- with one try fewer to spare.
  abbrev pub ComesThrough : Sizes → ℕ → List ℕ → ℕ → Memory → Type 0
  ComesThrough z t area zero m = (us : List Use) → ((x : Use) → x ∈ us → address_of x ∈ area) → AllZero z m (body t us) → (m' : Memory) × Through z m t us m' × Calm z m'
  ComesThrough z t area (suc k) m = (us : List Use) → ((x : Use) → x ∈ us → address_of x ∈ area) → AllZero z m (body t us)
      → ((m' : Memory) × Through z m t us m' × Calm z m')
      ⊎ ((u : ℕ) × (m₁ m₂ : Memory) × Wakes z m t us u m₁ × AllRise z z.tasks m₁ m₂ × Calm z m₂ × ComesThrough z t area k m₂)

  -- On any sound table where every task is Idle or Asleep, a turn comes through: with k sleepers that own a record of its
  -- addresses, at try k + 1 or before, however many have joined these.
  abbrev pub WholeTurnsComeThrough : Type 0
  WholeTurnsComeThrough = (z : Sizes) (m : Memory) (t : ℕ) → t < z.tasks → sound z m ≡ true → Calm z m → phase m t ≡ Idle
      → (area : List ℕ) → ComesThrough z t area (in_the_way z m area) m

  -- The same again -----------------------------------------------------------------------------------------------------------------

  -- the numbers and values that calls answer
  unfoldable pub said : Sizes → Memory → List Call → List (ℕ × ℕ)
  said z m [] = []
  said z m (c ∷ cs) = ((M.call z m c).number, (M.call z m c).value) ∷ said z (M.call z m c).after cs

  -- After a try that failed and the ends of the woken ones every logical value and version is what it was, and the same Reads and Writes are
  -- answered the same.
  pub record SameAgain (z : Sizes) (m : Memory) (t : ℕ) (us : List Use) (m₂ : Memory) : Type 0 where
    pub board : (a : ℕ) → logical z m₂ a ≡ logical z m a
    pub answers : said z m₂ (body t us) ≡ said z m (body t us)

  -- one body, tried again and again, with k tries to spare
  abbrev pub Repeated : Sizes → ℕ → List Use → ℕ → Memory → Type 0
  Repeated z t us zero m = (m' : Memory) × Through z m t us m'
  Repeated z t us (suc k) m = ((m' : Memory) × Through z m t us m')
      ⊎ ((u : ℕ) × (m₁ m₂ : Memory) × Wakes z m t us u m₁ × AllRise z z.tasks m₁ m₂ × SameAgain z m t us m₂ × Repeated z t us k m₂)

-- each address's logical value is its word
abbrev pub Plain : Sizes → Memory → Type 0
Plain z m = (a : ℕ) → (logical z m a).value ≡ get_or m.words a 0

-- if its Reads and Writes are answered 0 once, they are so each time, and it comes through
abbrev pub TheSameBodyComesThrough : Machine → Type 0
TheSameBodyComesThrough M = (z : Sizes) (m : Memory) (t : ℕ) → t < z.tasks → sound z m ≡ true → Calm z m → Plain z m → phase m t ≡ Idle
    → (us : List Use) → AllZero M z m (body t us) → Repeated M z t us (in_the_way z m (map address_of us)) m

-- every board that is reached is plain where it is calm, so there the same body comes through
abbrev pub CalmIsPlain : Type 0
CalmIsPlain = Always (λ s. Calm s.sizes s.memory → Plain s.sizes s.memory)

abbrev pub ReachedTurnsComeThrough : Type 0
ReachedTurnsComeThrough = Always (λ s. let z = s.sizes in let m = s.memory in (t : ℕ) → t < z.tasks → Calm z m → phase m t ≡ Idle
    → (us : List Use) → AllZero ours z m (body t us) → Repeated ours z t us (in_the_way z m (map address_of us)) m)
