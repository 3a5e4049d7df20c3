-- §8: how long a commit takes, counted in steps of its own task, whatever other tasks call in between.
use Rattle.std.specs.Prelude.{ℕ, ◌+◌, ◌*◌, ◌<◌, ◌≤◌, ◌≡◌, ◌⊎◌, List, [], ◌∷◌, true, eqb, length, if◌then◌else◌}
use Rattle.memory.specs.Pieces.{Sizes, Commit, Taking, Memory, place, entries}
use Rattle.memory.specs.Sound.{sound}
use Rattle.memory.specs.Numbers.{Reply}
use Rattle.memory.specs.Calls.{Call, ST, CM, AB, WT, SP, RD, WR, call}

-- how many of the calls are steps of a task
abbrev pub own_step : ℕ → Call → ℕ
own_step t (ST u) = 0
own_step t (CM u) = 0
own_step t (AB u) = 0
own_step t (WT u) = 0
own_step t (SP u) = if eqb u t then 1 else 0
own_step t (RD u a) = 0
own_step t (WR u a v) = 0

abbrev pub own_steps : ℕ → List Call → ℕ
own_steps t [] = 0
own_steps t (c ∷ cs) = own_step t c + own_steps t cs

-- a transaction ends
abbrev pub Ended : Reply → Type 0
Ended r = (r.number ≡ 21) ⊎ (r.number ≡ 22) ⊎ (r.number ≡ 23)

-- an own step among the calls ends it
abbrev pub EndsIn : Sizes → Memory → ℕ → List Call → Type 0
EndsIn z m t [] = ⊥
EndsIn z m t (c ∷ cs) = ((own_step t c ≡ 1) × Ended (call z m c)) ⊎ EndsIn z (call z m c).after t cs

-- the transaction under way ends with 21 at its k-th own step
abbrev pub CommitsAt : Sizes → Memory → ℕ → List Call → ℕ → Type 0
CommitsAt z m t [] k = ⊥
CommitsAt z m t (c ∷ cs) k =
    ((own_step t c ≡ 1) × ((call z m c).number ≡ 21) × (k ≡ 1))
    ⊎ ((own_step t c ≡ 1 → Ended (call z m c) → ⊥) × (j : ℕ) × (k ≡ own_step t c + j) × CommitsAt z (call z m c).after t cs j)

-- of a task whose Commit was just answered, on any sound table
abbrev pub OfACommit : (Sizes → Memory → ℕ → List Call → Type 0) → Type 0
OfACommit P = (z : Sizes) (t : ℕ) → t < z.tasks → (cs : List Call) (m : Memory) → sound z m ≡ true → (place m t).phase ≡ Taking Commit 0 → P z m t cs

-- with n entries it ends within 3n + 3 own steps; and if it commits, it is at the last of them
abbrev pub CommitEnds : Type 0
CommitEnds = OfACommit (λ z m t cs. 3 * length (entries z m t) + 3 ≤ own_steps t cs → EndsIn z m t cs)

abbrev pub CommitIsExact : Type 0
CommitIsExact = OfACommit (λ z m t cs. (k : ℕ) → CommitsAt z m t cs k → k ≡ 3 * length (entries z m t) + 3)
