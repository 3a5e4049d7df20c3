-- What a row of each of the eight kinds asks for, by the table of widths.
use Rattle.std.specs.List.{sum}
use Prim.Native.Nat.{ℕ, ◌≤◌}
use mathlib.Core.Path.{◌≡◌, refl}
use mathlib.Core.Bool.{true}
use lib.Dec.{leb, eqb}
use lib.ListN.{length, take}
use borrow.Author.Tests.{eqb-true, leb-true}
use Rattle.session_marks.specs.Marks.{kinds}
use Rattle.session_marks.specs.declared.Kind.{Kind}
use Rattle.session_fields.specs.Fields.{widths, body_length}
use Rattle.session_fields.proofs.Table.{every, all}
use Rattle.sheet_text.specs.Line.{numbers_of}
use Rattle.sheet_text.specs.Rows.{asked}

-- two numbers that are the same for each of the eight kinds
pub same : (f g : Kind → ℕ) → all (λ j. eqb (f j) (g j)) kinds ≡ true → (k : Kind) → f k ≡ g k
same f g h k = eqb-true (f k) (g k) (every (λ j. eqb (f j) (g j)) h k)

pub four_widths : (k : Kind) → length (widths k) ≡ 4
four_widths = same (λ k. length (widths k)) (λ k. 4) refl

pub as_asked : (k : Kind) → numbers_of k ≡ asked k
as_asked = same numbers_of asked refl

pub four_asked : (k : Kind) → asked k ≤ 4
four_asked k = leb-true (asked k) 4 (every (λ j. leb (asked j) 4) refl k)

-- what a row asks for is the whole body
pub all_asked : (k : Kind) → sum (take (asked k) (widths k)) ≡ body_length k
all_asked = same (λ k. sum (take (asked k) (widths k))) body_length refl
