-- What the cases of a field's content say that the code tells apart.
use Rattle.std.specs.Prelude.{Option, None, Some}
use Prim.Native.Nat.{ℕ, suc, ◌+◌, ◌≤◌}
use mathlib.Core.Path.{◌≡◌, refl}
use mathlib.Core.Logic.{◌≢◌}
use mathlib.Core.List.{[]}
use mathlib.Core.Bool.{Bool, true, false}
use lib.Dec.{leb}
use native.Mathlib.Omega.{arith}
use borrow.Author.Tests.{leb-true, eq-eqb, ne_eqb}
use Rattle.memory.proofs.Tools.{if_cases, and_0, and_1}
use Rattle.session_marks.specs.Marks.{opens}
use Rattle.session_marks.specs.declared.Kind.{Kind}
use Rattle.sheet_text.specs.declared.Letters.{Letters}
use Rattle.sheet_text.specs.declared.Letters.TheVariants.{NoLetter, One, Two, More}
use Rattle.sheet_text.specs.declared.Digits.{Digits}
use Rattle.sheet_text.specs.declared.Digits.TheVariants.{NoDigit, Number, Other}
use Rattle.sheet_text.specs.declared.TextFault.TheVariants.{WrongCount, WrongField}
use Rattle.sheet_text.specs.Line.{add_digit, is_digit, kind_of, letters_of, value_of, fits, numbers_of, verdict_of}

-- other than two letters are no mark
pub no_mark : (l : Letters) → ((a b : ℕ) → l ≡ Two a b → ⊥) → (kind_of l ≡ None) × (letters_of l ≡ [])
no_mark NoLetter k = (refl, refl)
no_mark (One a) k = (refl, refl)
no_mark (Two a b) k = absurd (k a b refl)
no_mark More k = (refl, refl)

-- other than digits are no number
pub no_number : (d : Digits) → ((n : ℕ) → d ≡ Number n → ⊥) → value_of d ≡ 0
no_number NoDigit k = refl
no_number (Number n) k = absurd (k n refl)
no_number Other k = refl

-- where a number is asked, nothing else fits
pub no_fit : (w : ℕ) (d : Digits) → w ≢ 0 → ((n : ℕ) → d ≡ Number n → ⊥) → fits w d ≡ false
no_fit w NoDigit some k = ne_eqb w 0 some
no_fit w (Number n) some k = absurd (k n refl)
no_fit w Other some k = refl

-- a byte that is no digit, and one that is
pub spoilt : (d : Digits) (b : ℕ) → is_digit b ≡ false → add_digit d b ≡ Other
spoilt NoDigit b e = rw e
spoilt (Number n) b e = rw e
spoilt Other b e = refl

pub in_digits : (b : ℕ) → is_digit b ≡ true → (48 ≤ b) × (b ≤ 57)
in_digits b e = (leb-true 48 b (and_0 (leb 48 b) (leb b 57) e), leb-true b 57 (and_1 (leb 48 b) (leb b 57) e))

-- what refuses a line whose mark is known
module _ {m : Option Kind} {k : Kind} {numbers : ℕ} (known : m ≡ Some k) (count : numbers ≡ numbers_of k) where
  pub few_numbers : numbers ≤ 4
  few_numbers = rw count (if_cases (λ i. i ≤ 4) (opens k) 4 3 (λ e. omega arith) (λ e. omega arith))

  pub miscounted : (w : Bool) {n : ℕ} → (n ≡ numbers + 1 → ⊥) → Some WrongCount ≡ verdict_of m n w
  miscounted w {n} other = rw (known, ← count, ne_eqb n (suc numbers) (λ e. other (omega (arith, e))))

  pub told_wrong : {w : Bool} {n : ℕ} → n ≡ numbers + 1 → w ≡ true → Some WrongField ≡ verdict_of m n w
  told_wrong {n = n} same wrong = rw (known, ← count, eq-eqb n (suc numbers) (omega arith), wrong)

  pub told_good : {w : Bool} {n : ℕ} → n ≡ numbers + 1 → w ≡ false → None ≡ verdict_of m n w
  told_good {n = n} same good = rw (known, ← count, eq-eqb n (suc numbers) (omega arith), good)
