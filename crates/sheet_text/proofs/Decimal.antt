-- The digits that are written of a number: they are digits alone, at least one, and that number again (§18.6).
use Prim.Native.Nat.{ℕ, zero, suc, ◌+◌, ◌*◌, ◌-◌, ◌/◌, ◌%◌, ◌<◌, ◌≤◌}
use mathlib.Core.Path.{◌≡◌, refl, ap, ◌∙◌}
use mathlib.Core.List.{List, [], ◌∷◌, ◌++◌}
use mathlib.Core.Bool.{Bool, true, false, not}
use lib.Dec.{ltb, eqb}
use lib.ListN.{length, length-append}
use native.Mathlib.Omega.{arith}
use borrow.Author.Tests.{lt-ltb, ltb-true, ltb-false, ne_eqb}
use Rattle.memory.proofs.Tools.{and_0, and_1, and_make}
use Rattle.session_text.specs.Text.{digits}
use Rattle.session_text.proofs.Laws.{digits_few, digits_many}
use Rattle.sheet_text.specs.Turn.{quote, comma, return, newline}
use Rattle.sheet_text.specs.Rows.{plain, all_plain, digit, all_digits, decimal_from, decimal}

-- a list of bytes writes a number
pub record Writes (n : ℕ) (l : List ℕ) : Type 0 where
  pub is : decimal l ≡ n
  pub digits : all_digits l ≡ true
  pub some : 0 < length l

is_digit : (d : ℕ) → d < 10 → digit (48 + d) ≡ true
is_digit d h = and_make (lt-ltb 47 (48 + d) (omega arith)) (lt-ltb (48 + d) 58 (omega arith))

one_digit : (n : ℕ) → n < 10 → Writes n ((48 + n) ∷ [])
unfolding decimal_from
one_digit n h = record { is = omega arith; digits = and_make (is_digit n h) refl; some = omega arith }

-- one digit more
decimal_more : (n : ℕ) (l : List ℕ) (d : ℕ) → decimal_from n (l ++ ((48 + d) ∷ [])) ≡ 10 * decimal_from n l + d
unfolding decimal_from
decimal_more n [] d = omega arith
decimal_more n (b ∷ l) d = decimal_more (10 * n + (b - 48)) l d

digits_more : (l : List ℕ) (d : ℕ) → d < 10 → all_digits l ≡ true → all_digits (l ++ ((48 + d) ∷ [])) ≡ true
digits_more [] d h e = and_make (is_digit d h) refl
digits_more (b ∷ l) d h e =
    and_make (and_0 (digit b) (all_digits l) e) (digits_more l d h (and_1 (digit b) (all_digits l) e))

digit_more : (n : ℕ) (l : List ℕ) → Writes (n / 10) l → Writes n (l ++ ((48 + n % 10) ∷ []))
digit_more n l w =
    record {
      is = decimal_more 0 l (n % 10) ∙ omega (arith, w.is);
      digits = digits_more l (n % 10) (omega arith) w.digits;
      some = omega (arith, length-append l ((48 + n % 10) ∷ []));
    }

below : (k n : ℕ) → n < k → Writes n (digits n)
below zero n h = absurd (omega arith)
below (suc k) n h = go (ltb n 10) refl (λ many. below k (n / 10) (omega arith))
  where
    go : (b : Bool) → ltb n 10 ≡ b → (10 ≤ n → Writes (n / 10) (digits (n / 10))) → Writes n (digits n)
    go true e higher = rw (digits_few n (ltb-true n 10 e)) (one_digit n (ltb-true n 10 e))
    go false e higher =
        let many : 10 ≤ n = ltb-false n 10 e in
        rw (digits_many n many) (digit_more n (digits (n / 10)) (higher many))

pub digits-write : (n : ℕ) → Writes n (digits n)
digits-write n = below (suc n) n (omega arith)

-- no digit is one of the four bytes that mean something
digit-plain : (b : ℕ) → digit b ≡ true → plain b ≡ true
digit-plain b e =
    let low : 47 < b = ltb-true 47 b (and_0 (ltb 47 b) (ltb b 58) e) in
    let other : (c : ℕ) → c ≤ 47 → not (eqb b c) ≡ true = (λ c h. ap not (ne_eqb b c (λ q. omega arith))) in
    and_make (other quote (omega arith)) (and_make (other comma (omega arith))
    (and_make (other return (omega arith)) (other newline (omega arith))))

pub digits-plain : (l : List ℕ) → all_digits l ≡ true → all_plain l ≡ true
digits-plain [] e = refl
digits-plain (b ∷ l) e =
    and_make (digit-plain b (and_0 (digit b) (all_digits l) e)) (digits-plain l (and_1 (digit b) (all_digits l) e))
