-- A task's row of four numbers, and the place that is read from it.
use Prim.Native.Nat.{ℕ}
use native.Mathlib.Omega.{arith}
use mathlib.Core.Path.{◌≡◌, refl}
use mathlib.Core.List.{List, [], ◌∷◌}
use mathlib.Core.Bool.{Bool, not, ◌&&◌, ◌||◌, and-true}
use lib.ListN.{length, get_or}
use lib.Dec.{leb, eqb}
use borrow.Author.Tests.{eq-eqb}
use Rattle.memory.specs.declared.Sizes.{Sizes}
use Rattle.memory.specs.declared.Phase.{Phase}
use Rattle.memory.specs.Pieces.{row_of, place_of, phase_of, code_of, position_of, is_idle, limit}
use Rattle.memory.specs.Sound.{row_eqb, place_ok}

-- the row of the place that is read from a row has the row's number of entries and its set; its code and its position may be others
back : (a b c d : ℕ) → let row = a ∷ b ∷ c ∷ d ∷ [] in let p = (place_of row).phase in row_eqb (row_of (place_of row)) row ≡ (eqb (code_of p) b && eqb (position_of p) c)
unfolding row_eqb row_of place_of
back a b c d = simp (eq-eqb a a refl, eq-eqb d d refl, and-true)

row_back : (row : List ℕ) → length row ≡ 4 → let p = (place_of row).phase in
    row_eqb (row_of (place_of row)) row ≡ (eqb (code_of p) (get_or row 1 0) && eqb (position_of p) (get_or row 2 0))
row_back [] h = absurd (omega arith)
row_back (a ∷ []) h = absurd (omega arith)
row_back (a ∷ b ∷ []) h = absurd (omega arith)
row_back (a ∷ b ∷ c ∷ []) h = absurd (omega arith)
row_back (a ∷ b ∷ c ∷ d ∷ []) h = back a b c d
row_back (a ∷ b ∷ c ∷ d ∷ e ∷ l) h = absurd (omega arith)

-- the place's number of entries and its phase, by the row's numbers
place_parts : (row : List ℕ) → length row ≡ 4 → ((place_of row).count ≡ get_or row 0 0) × ((place_of row).phase ≡ phase_of (get_or row 1 0) (get_or row 2 0))
unfolding place_of
place_parts [] h = absurd (omega arith)
place_parts (a ∷ []) h = absurd (omega arith)
place_parts (a ∷ b ∷ []) h = absurd (omega arith)
place_parts (a ∷ b ∷ c ∷ l) h = (refl, refl)

-- the tests of a row, each by the number that it asks for
pub row_ok : (z : Sizes) (row : List ℕ) → length row ≡ 4 → {count code position most : ℕ} {phase : Phase} {idle : Bool}
    → count ≡ get_or row 0 0 → phase ≡ phase_of (get_or row 1 0) (get_or row 2 0)
    → code ≡ code_of phase → position ≡ position_of phase → most ≡ limit z → idle ≡ is_idle phase
    → place_ok z row (place_of row)
    ≡ (eqb code (get_or row 1 0) && eqb position (get_or row 2 0) && leb count most && leb position count && (not idle || eqb count 0))
unfolding place_ok
row_ok z row four n q c p l i = rw (c, p, l, i, q, n, row_back row four, (place_parts row four).0, (place_parts row four).1)
