-- What the step of a task asks of the lent tables and how it leaves them, as the contracts cite it.
use Rattle.std.specs.Prelude.{ℕ, ◌≤◌, ◌≡◌, List}
use Rattle.memory.specs.declared.Sizes.{Sizes}
use Rattle.memory.specs.declared.Goal.{Goal}
use Rattle.memory.specs.declared.Place.{Place}
use Rattle.memory.specs.declared.Answer.{Answer}
use Rattle.memory.specs.Pieces.{Memory, memory, position_of, place, limit, set_place}
use Rattle.memory.specs.Numbers.{replied, plain}
use Rattle.memory.specs.Step.{decide, step_in}
use Rattle.step_entry.specs.Contract.{Among}
use Rattle.step_phase.specs.declared.Moved.{Moved}

-- The step, with the place that is lent to it: q before and q' after. Who lends the place stores it back in the task's row.
pub record Ready (q : Place) (z : Sizes) (words records : List ℕ) (places entries : List (List ℕ)) (t : ℕ) : Type 0 where
  pub among : Among z (memory words records places entries) t
  pub own : q ≡ place (memory words records places entries) t

pub record Stepped (q : Place) (z : Sizes) (words records : List ℕ) (places entries : List (List ℕ)) (t : ℕ) (q' : Place) (words' records' : List ℕ) (places' : List (List ℕ)) (a : Answer) : Type 0 where
  pub leaves : replied a (set_place (memory words' records' places' entries) t q') ≡ step_in z (memory words records places entries) t q.count q.phase
  pub count_fits : q'.count ≤ limit z
  pub position_fits : position_of q'.phase ≤ q'.count

-- a number alone is answered
abbrev pub plainly : Place → ℕ → Moved
plainly q n = record { place = q; answer = plain n }

-- the deciding step, of a task whose place is q
pub record Decided (q : Place) (g : Goal) (r : Moved) : Type 0 where
  pub leaves : (m : Memory) (t : ℕ) → q ≡ place m t → replied r.answer (set_place m t r.place) ≡ decide m t g
  pub same_count : r.place.count ≡ q.count
  pub at_start : position_of r.place.phase ≡ 0
