-- What a step that takes a record asks of the lent tables and how it leaves them, as the contracts cite it.
use Rattle.std.specs.Prelude.{ℕ, suc, ◌≤◌, ◌≡◌, true, List}
use Rattle.memory.specs.declared.Sizes.{Sizes}
use Rattle.memory.specs.declared.Goal.{Goal}
use Rattle.memory.specs.declared.Phase.TheVariants.{Taking}
use Rattle.memory.specs.declared.Place.{Place}
use Rattle.memory.specs.Pieces.{Memory, memory, position_of, place, held, entry, set_place}
use Rattle.memory.specs.Sound.{sound}
use Rattle.memory.specs.Step.{take_step}
use Rattle.step_entry.specs.Contract.{Entered, record_at}

-- entry i's record is taken by a task in the place q, where it takes for this goal
pub record MayTake (q : Place) (g : Goal) (z : Sizes) (records : List ℕ) (places entries : List (List ℕ)) (t i : ℕ) : Type 0 where
  pub words : List ℕ
  pub entered : Entered z (memory words records places entries) t i
  pub own : q ≡ place (memory words records places entries) t
  pub taking : q.phase ≡ Taking g i

abbrev pub takes : Sizes → Memory → ℕ → Goal → ℕ → Memory
takes z m t g i = take_step z m t g i (record_at z m t i) (entry z m t i) (held m (record_at z m t i))

-- with the place q' stored, the definition's tables
pub record Leaves (m m' : Memory) (t i : ℕ) (q' : Place) (wanted : Memory) : Type 0 where
  pub leaves : set_place m' t q' ≡ wanted
  pub same_count : q'.count ≡ (place m t).count
  pub near : position_of q'.phase ≤ suc i

abbrev pub Took : Goal → ℕ → Sizes → (records : List ℕ) (places entries : List (List ℕ)) → ℕ → Place → (records' : List ℕ) (places' : List (List ℕ)) → Type 0
Took g i z records places entries t q' records' places' =
    (words : List ℕ) → let m = memory words records places entries in
    sound z m ≡ true → Leaves m (memory words records' places' entries) t i q' (takes z m t g i)
