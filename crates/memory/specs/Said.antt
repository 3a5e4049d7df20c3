-- §15.10: what a label said was the board.
use Rattle.std.specs.Prelude.{ℕ, ◌≡◌, ◌⊎◌, List, ◌∷◌, ◌++◌}
use Rattle.memory.specs.Pieces.{Woken, Releasing}
use Rattle.memory.specs.Calls.{Call}
use Rattle.memory.specs.History.{Op, Told, board, zeros, listed, Scene, asks}
use Rattle.memory.specs.Answers.{phase}
use Rattle.memory.specs.Order.{Always, Sleeps, value}

-- The values told to a transaction that committed stood together on one board, that left by the transactions listed before it. The
-- values told to a transaction that sleeps stand together on the logical board. Whatever is then called, it sleeps on or is woken,
-- and the values still stand: a change of any of them comes later.
pub record Spoken (s : Scene) : Type 0 where
  pub committed : (later before : List (List Op)) (l : List Op) → listed s.notes ≡ later ++ l ∷ before → (a v : ℕ) → Told a v l → board zeros before a ≡ v
  pub asleep : (t : ℕ) → Sleeps s t → (a v : ℕ) → Told a v (s.notes.logs t) → value s a ≡ v
  pub woken_first : (t : ℕ) → Sleeps s t → (c : Call)
      → (Sleeps (asks s c) t ⊎ (phase (asks s c).memory t ≡ Releasing Woken 0))
      × ((a v : ℕ) → Told a v (s.notes.logs t) → value (asks s c) a ≡ v)

abbrev pub WhatWasSaidWasTheBoard : Type 0
WhatWasSaidWasTheBoard = Always Spoken
