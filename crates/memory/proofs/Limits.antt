-- How many entries a task may have, and where its run begins (§3.7): all that any proof knows of either. The numbers themselves stand
-- in specs/Pieces, in the claims that name them, and in the positions.
pub use Rattle.memory.specs.Pieces.{most_rows}
use Prim.Native.Nat.{ℕ, zero, suc, ◌+◌, ◌*◌, ◌<◌, ◌≤◌}
use mathlib.Core.Path.{◌≡◌, refl}
use mathlib.Core.Logic.{◌⊎◌, inl, inr, ◌≢◌}
use mathlib.Core.Bool.{Bool, true, false}
use lib.Dec.{ltb}
use lib.ListN.{length}
use native.Mathlib.Omega.{arith}
use borrow.Author.Tests.{ltb-true, ltb-false}
use Rattle.memory.specs.{Sizes, Memory, limit, run_start, most_entries, most_tasks}
use Rattle.memory.proofs.Tools.{both}

module _ (z : Sizes) where
  -- a task may have an entry, and never more than there is room for on the largest board
  pub limit-some : 0 < limit z
  unfolding limit
  limit-some = omega arith

  pub limit_most : limit z ≤ most_entries
  unfolding limit
  limit_most = omega arith

  -- the first run begins with the table, and each of the others where the one before it ends
  pub run_first : run_start z 0 ≡ 0
  unfolding run_start
  run_first = omega arith

  pub run-next : (t : ℕ) → run_start z (t + 1) ≡ run_start z t + limit z
  unfolding run_start limit
  run-next t = omega arith

  -- the last one ends with the table
  pub run_last : limit z * z.tasks ≡ run_start z z.tasks
  unfolding run_start
  run_last = refl

  pub runs_most : (t : ℕ) → t ≤ most_tasks → run_start z t ≤ most_rows
  unfolding run_start limit
  runs_most t h = omega arith

  -- runs do not overlap
  pub runs-apart : (t u : ℕ) → t < u → run_start z t + limit z ≤ run_start z u
  unfolding run_start limit
  runs-apart t u h = omega arith

  -- a run is inside the table
  pub run_inside : (t : ℕ) → t < z.tasks → (m : Memory) → length m.entries ≡ limit z * z.tasks → run_start z t + limit z ≤ length m.entries
  unfolding run_start limit
  run_inside t h m e = omega arith

  -- places of two runs are two places
  pub places_apart : (t u i j : ℕ) → u ≢ t → i < limit z → j < limit z → (run_start z u + j) ≢ (run_start z t + i)
  places_apart t u i j ne hi hj q = go (ltb u t) refl
    where
      go : (b : Bool) → ltb u t ≡ b → ⊥
      go true c = omega (arith, runs-apart u t (ltb-true u t c))
      go false c = let later : t ≤ u = ltb-false u t c in omega (arith, runs-apart t u (omega arith))

  -- every place of the entry table is one of a run
  pub in_run : (k : ℕ) → (u : ℕ) × (i : ℕ) × (i < limit z) × (k ≡ run_start z u + i)
  in_run zero = (0, 0, limit-some, omega (arith, run_first))
  in_run (suc k) = go (in_run k)
    where
      go : (u : ℕ) × (i : ℕ) × (i < limit z) × (k ≡ run_start z u + i) → (u : ℕ) × (i : ℕ) × (i < limit z) × (suc k ≡ run_start z u + i)
      go (u, i, h, q) = more (both (ltb (suc i) (limit z)))
        where
          more : (ltb (suc i) (limit z) ≡ true) ⊎ (ltb (suc i) (limit z) ≡ false) → (u : ℕ) × (i : ℕ) × (i < limit z) × (suc k ≡ run_start z u + i)
          more (inl d) = (u, suc i, ltb-true _ _ d, omega (arith, q))
          more (inr d) = (u + 1, 0, limit-some, omega (arith, q, h, run-next u, ltb-false (suc i) (limit z) d))
