-- What a step over one entry asks of the lent tables and how it leaves them, as the contracts cite it.
use Rattle.std.specs.Prelude.{ℕ, suc, ◌%◌, ◌<◌, ◌≤◌, ◌≡◌, true, List}
use Rattle.memory.specs.declared.Sizes.{Sizes}
use Rattle.memory.specs.declared.Outcome.{Outcome}
use Rattle.memory.specs.declared.Phase.{Phase}
use Rattle.memory.specs.declared.Phase.TheVariants.{Writing}
use Rattle.memory.specs.Pieces.{Memory, memory, position_of, held, place, entry, moved, set_word, set_place, move}
use Rattle.memory.specs.Sound.{sound}
use Rattle.memory.specs.Step.{release_step}

-- a task of a sound table; with an entry at i
pub record Among (z : Sizes) (m : Memory) (t : ℕ) : Type 0 where
  pub ok : sound z m ≡ true
  pub task_in : t < z.tasks

pub record Entered (z : Sizes) (m : Memory) (t i : ℕ) : Type 0 where
  pub among : Among z m t
  pub entry_in : i < (place m t).count

-- A function over entry i is lent only the tables that it needs. It asks that with some other tables the whole is sound, and says
-- what it leaves with any other tables: the definition's tables, once the task's place is stored in the next phase p.
pub record Leaves (m m' : Memory) (t i : ℕ) (p : Phase) (wanted : Memory) : Type 0 where
  pub leaves : set_place m' t (moved (place m t) p) ≡ wanted
  pub near : position_of p ≤ suc i

-- the record of entry i
abbrev pub record_at : Sizes → Memory → ℕ → ℕ → ℕ
record_at z m t i = (entry z m t i).address % z.records

-- entry i's word is written
pub record MayWrite (z : Sizes) (words : List ℕ) (entries : List (List ℕ)) (t i : ℕ) : Type 0 where
  pub records : List ℕ
  pub places : List (List ℕ)
  pub entered : Entered z (memory words records places entries) t i

abbrev pub writes : Sizes → Memory → ℕ → ℕ → Memory
writes z m t i = move (set_word m (entry z m t i).address (entry z m t i).new.value) t (Writing (suc i))

abbrev pub Wrote : ℕ → Sizes → (words : List ℕ) (entries : List (List ℕ)) → ℕ → Phase → (words' : List ℕ) → Type 0
Wrote i z words entries t p words' =
    (records : List ℕ) (places : List (List ℕ)) → Leaves (memory words records places entries) (memory words' records places entries) t i p (writes z (memory words records places entries) t i)

-- entry i's record is released
pub record MayRelease (z : Sizes) (records : List ℕ) (entries : List (List ℕ)) (t i : ℕ) : Type 0 where
  pub words : List ℕ
  pub places : List (List ℕ)
  pub entered : Entered z (memory words records places entries) t i

abbrev pub releases : Sizes → Memory → ℕ → Outcome → ℕ → Memory
releases z m t o i = release_step m t o i (record_at z m t i) (entry z m t i) (held m (record_at z m t i))

abbrev pub Released : Outcome → ℕ → Sizes → (records : List ℕ) (entries : List (List ℕ)) → ℕ → Phase → (records' : List ℕ) → Type 0
Released o i z records entries t p records' =
    (words : List ℕ) (places : List (List ℕ)) → Leaves (memory words records places entries) (memory words records' places entries) t i p (releases z (memory words records places entries) t o i)
