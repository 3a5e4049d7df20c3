-- What the functions of a permit are held to, in the terms of crate memory's definitions.
use Rattle.std.specs.Prelude.{ℕ, ◌<◌, ◌≡◌, ◌⊎◌, Bool, true, Result, Ok, Err}
use Rattle.memory.specs.declared.Sizes.{Sizes}
use Rattle.memory.specs.declared.Phase.{Phase}
use Rattle.memory.specs.declared.Place.{Place}
use Rattle.memory.specs.declared.Answer.{Answer}
use Rattle.memory.specs.declared.refusal.Refusal.{Refusal}
use Rattle.memory.specs.declared.refusal.Refusal.TheVariants.{NoTask, TooEarly}
use Rattle.memory.specs.Pieces.{Memory, is_idle, is_open, place}
use Rattle.memory.specs.Numbers.{Reply, plain, refused, refusal_number, asked}
use Rattle.task_permit.specs.declared.Needs.{Needs}
use Rattle.task_permit.specs.declared.Needs.TheVariants.{Idle, Open}

-- §6.3: the phase that a request asks for.
abbrev pub allowed_by : Needs → Phase → Bool
allowed_by Idle p = is_idle p
allowed_by Open p = is_open p

-- §6.1: the answer of a request that did what it says, or that was refused
abbrev pub answered : Result Answer Refusal → Answer
answered (Ok a) = a
answered (Err r) = plain (refusal_number r)

-- what a request answers that got this permit, and what the permit shows
abbrev pub permitted : Memory → Result Place Refusal → Reply → Reply
permitted m (Err r) body = refused (refusal_number r) m
permitted m (Ok q) body = body

abbrev pub Shows : Sizes → Memory → ℕ → (Phase → Bool) → Result Place Refusal → Type 0
Shows z m t allows (Err r) = (r ≡ NoTask) ⊎ (r ≡ TooEarly (place m t).phase)
Shows z m t allows (Ok q) = (t < z.tasks) × (place m t ≡ q) × (allows q.phase ≡ true)

pub record Permits (z : Sizes) (m : Memory) (t : ℕ) (allows : Phase → Bool) (p : Result Place Refusal) : Type 0 where
  pub says : (body : Reply) → asked z m t allows body ≡ permitted m p body
  pub shows : Shows z m t allows p
