-- A transaction that nobody disturbs commits.
use Rattle.std.specs.Prelude.{ℕ, ◌+◌, ◌*◌, ◌%◌, ◌<◌, ◌≡◌, ◌⊎◌, List, [], ◌∷◌, ◌++◌, map, true, length, replicate}
use Rattle.memory.specs.Pieces.{Sizes, Commit, Idle, Open, Taking, Version, Entry, Memory, held, entries}
use Rattle.memory.specs.Sound.{sound}
use Rattle.memory.specs.Calls.{Call, ST, CM, SP, RD, WR}
use Rattle.memory.specs.Machines.{Machine, leaves, numbers}
use Rattle.memory.specs.History.{◌∈◌}
use Rattle.memory.specs.Answers.{phase}

-- so many calls that answer 0, and one that answers a number
abbrev pub then_answers : ℕ → ℕ → List ℕ
then_answers k n = replicate k 0 ++ n ∷ []

-- §8.1, on any sound table: a task whose Commit was just answered, with n entries, where each entry's record holds the version that
-- it was read at. The task's next 3n + 3 calls, all steps and nobody else's between, answer 0 and the last of them 21.
abbrev pub AloneItCommits : Machine → Type 0
AloneItCommits M = (z : Sizes) (m : Memory) (t : ℕ) → t < z.tasks → sound z m ≡ true → phase m t ≡ Taking Commit 0
    → ((e : Entry) → e ∈ entries z m t → held m (e.address % z.records) ≡ Version e.old.version)
    → let n = length (entries z m t) in
    numbers M z m (replicate (3 * n + 3) (SP t)) ≡ then_answers (3 * n + 2) 21

-- a Read or a Write, by any task
pub data Use : Type 0 where
  reads : ℕ → Use
  writes : ℕ → ℕ → Use

abbrev pub use_by : ℕ → Use → Call
use_by t (reads a) = RD t a
use_by t (writes a v) = WR t a v

-- On any sound table where every task is Idle or Open: Start, then Reads and Writes, all answered 0, then Commit. The Commit and its
-- 3n + 3 steps answer 0 and the last of them 21.
abbrev pub FromTheStartItCommits : Machine → Type 0
FromTheStartItCommits M = (z : Sizes) (m : Memory) (t : ℕ) → t < z.tasks → sound z m ≡ true
    → ((u : ℕ) → u < z.tasks → (phase m u ≡ Idle) ⊎ (phase m u ≡ Open))
    → (us : List Use) → let cs = ST t ∷ map (use_by t) us in numbers M z m cs ≡ replicate (length cs) 0
    → let n = length (entries z (leaves M z m cs) t) in
    numbers M z (leaves M z m cs) (CM t ∷ replicate (3 * n + 3) (SP t)) ≡ then_answers (3 * n + 3) 21
