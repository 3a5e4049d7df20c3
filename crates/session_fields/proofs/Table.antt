-- What holds of every row of the table of widths, and how its widths add up.
use Prim.Native.Nat.{ℕ, zero, suc, ◌+◌, ◌≤◌}
use mathlib.Core.Path.{◌≡◌, refl}
use mathlib.Core.Logic.{⊎_elim}
use mathlib.Core.List.{List, [], ◌∷◌}
use mathlib.Core.Bool.{Bool, true, ◌&&◌, ◌||◌}
use lib.Dec.{leb, eqb}
use lib.ListN.{length, get_or, take}
use lib.Seq.{take_all}
use native.Mathlib.Numerals.{add-one}
use native.Mathlib.Omega.{arith}
use borrow.Author.Tests.{leb-true, eqb-true}
use Rattle.memory.proofs.Tools.{and_0, and_1}
use Rattle.std.specs.List.{sum}
use Rattle.std.proofs.lemmas.Bool.{cases_lt}
use Rattle.std.proofs.lemmas.List.{get_or_past}
use Rattle.std.proofs.lemmas.List.Sums.{sum_by_more}
use Rattle.session_marks.specs.Marks.{kinds, opens}
use Rattle.session_marks.specs.declared.Kind.{Kind}
use Rattle.session_marks.specs.declared.Kind.TheVariants.{Open, Start, Commit, Abort, Wait, Step, Read, Write}
use Rattle.session_fields.specs.Fields.{widths, width, offset, body_length}

-- each of some values passes a test
module _ {A : Type 0} (test : A → Bool) where
  abbrev pub all : List A → Bool
  all [] = true
  all (x ∷ xs) = test x && all xs

  abbrev Each : List A → Type 0
  Each [] = Unit {0}
  Each (x ∷ xs) = (test x ≡ true) × Each xs

  each : (xs : List A) → all xs ≡ true → Each xs
  each [] h = tt
  each (x ∷ xs) h = (and_0 (test x) (all xs) h, each xs (and_1 (test x) (all xs) h))

-- the list of the kinds has them all
pub every : (test : Kind → Bool) → all test kinds ≡ true → (k : Kind) → test k ≡ true
every test h k = go k (each test kinds h)
  where
    go : (k : Kind) → Each test kinds → test k ≡ true
    go Open e = e.0
    go Start e = e.1.0
    go Commit e = e.1.1.0
    go Abort e = e.1.1.1.0
    go Wait e = e.1.1.1.1.0
    go Step e = e.1.1.1.1.1.0
    go Read e = e.1.1.1.1.1.1.0
    go Write e = e.1.1.1.1.1.1.1.0

-- no body is longer than four numbers of four bytes, and its numbers are the four of its row
pub at_most_sixteen : (k : Kind) → body_length k ≤ 16
at_most_sixteen k = leb-true (body_length k) 16 (every (λ j. leb (body_length j) 16) refl k)

pub whole_row : (k : Kind) → offset k 4 ≡ body_length k
whole_row k = eqb-true (offset k 4) (body_length k) (every (λ j. eqb (offset j 4) (body_length j)) refl k)

-- no number is wider than 4 bytes
abbrev fits : ℕ → Bool
fits w = leb w 4

fits-at : (ws : List ℕ) (i : ℕ) → all fits ws ≡ true → get_or ws i 0 ≤ 4
fits-at [] i h = omega arith
fits-at (w ∷ ws) zero h = leb-true w 4 (and_0 (fits w) (all fits ws) h)
fits-at (w ∷ ws) (suc i) h = fits-at ws i (and_1 (fits w) (all fits ws) h)

pub at_most_four : (k : Kind) (i : ℕ) → width k i ≤ 4
at_most_four k i = fits-at (widths k) i (every (λ j. all fits (widths j)) refl k)

-- a row has four numbers
pub none_behind : (k : Kind) (i : ℕ) → 4 ≤ i → width k i ≡ 0
none_behind k i h = get_or_past (widths k) i 0 (omega (arith, eqb-true (length (widths k)) 4 (every (λ j. eqb (length (widths j)) 4) refl k)))

-- A number of a request stands where it stands in a WR, and is as wide: so `task`, `address` and `value` go by that row.
abbrev alike : Kind → ℕ → Bool
alike k i = eqb (width k i) 0 || (eqb (width k i) (width Write i) && eqb (offset k i) (offset Write i))

as_in_write : (k : Kind) → (opens k || (alike k 0 && (alike k 1 && (alike k 2 && alike k 3)))) ≡ true
as_in_write = every (λ k. opens k || (alike k 0 && (alike k 1 && (alike k 2 && alike k 3)))) refl

-- one width more, up to the last and past it
pub one_more : (ws : List ℕ) (i : ℕ) → sum (take (suc i) ws) ≡ sum (take i ws) + get_or ws i 0
one_more ws i =
    ⊎_elim (λ h. rw add-one at (sum_by_more (λ w. w) ws i 0 h)) (λ h. rw (take_all (suc i) ws (omega arith), take_all i ws h, get_or_past ws i 0 h) (omega arith))
    (cases_lt i (length ws))
