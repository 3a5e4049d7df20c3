-- Sets of tasks as numbers (§2.13), by the machine's operations on bits: what is in the set that each of them makes.
use Prim.Native.Nat.{ℕ, zero, suc, ◌+◌, ◌*◌, ◌/◌, ◌%◌, ◌^◌, ◌<◌, min, max}
use mathlib.Core.Path.{◌≡◌, refl, sym, ap, ◌∙◌}
use mathlib.Core.Bool.{Bool, true, false, not, ◌&&◌, ◌||◌}
use lib.Dec.{eqb}
use lib.Pow.{shl_exact}
use lib.Bits.{and_mask, shifted_half, shifted_even, bit_and, bit_or, bit_xor, and_step, or_step, xor_step, differ}
use native.Mathlib.Omega.{arith}
use borrow.Author.Tests.{eqb-true, eqb-false, eq-eqb, ne_eqb}
use Rattle.memory.specs.Lists.{has}
use Rattle.memory.proofs.Sets.{has_none, has_shift}

-- of two digits
digits : (P : ℕ → ℕ → Type 0) → P 0 0 → P 0 1 → P 1 0 → P 1 1 → (a b : ℕ) → a < 2 → b < 2 → P a b
digits P p q r s zero zero h k = p
digits P p q r s zero (suc zero) h k = q
digits P p q r s (suc zero) zero h k = r
digits P p q r s (suc zero) (suc zero) h k = s
digits P p q r s zero (suc (suc b)) h k = absurd (omega arith)
digits P p q r s (suc zero) (suc (suc b)) h k = absurd (omega arith)
digits P p q r s (suc (suc a)) b h k = absurd (omega arith)

-- An operation that goes digit by digit, and what it makes of two digits
module _ (op digit : ℕ → ℕ → ℕ) (both : Bool → Bool → Bool)
    (step : (a b : ℕ) → op a b ≡ op (a / 2) (b / 2) * 2 + digit (a % 2) (b % 2))
    (small : (a b : ℕ) → a < 2 → b < 2 → digit a b < 2)
    (tells : (a b : ℕ) → a < 2 → b < 2 → eqb (digit a b) 1 ≡ both (eqb a 1) (eqb b 1)) where
  has_by_digits : (a b i : ℕ) → has (op a b) i ≡ both (has a i) (has b i)
  unfolding has
  has_by_digits a b zero =
      ap (λ (x : ℕ). eqb (x % 2) 1) (step a b)
      ∙ ap (λ (x : ℕ). eqb x 1) (let h = small (a % 2) (b % 2) (omega arith) (omega arith) in let q : (op (a / 2) (b / 2) * 2 + digit (a % 2) (b % 2)) % 2 ≡ digit (a % 2) (b % 2) = omega arith in q)
      ∙ tells (a % 2) (b % 2) (omega arith) (omega arith)
  has_by_digits a b (suc i) =
      ap (λ (x : ℕ). has (x / 2) i) (step a b)
      ∙ ap (λ (x : ℕ). has x i) (let h = small (a % 2) (b % 2) (omega arith) (omega arith) in let q : (op (a / 2) (b / 2) * 2 + digit (a % 2) (b % 2)) / 2 ≡ op (a / 2) (b / 2) = omega arith in q)
      ∙ has_by_digits (a / 2) (b / 2) i

pub has_or : (a b i : ℕ) → has (bit_or a b) i ≡ (has a i || has b i)
has_or =
    has_by_digits bit_or max ◌||◌ or_step (λ a b h k. omega arith)
    (digits (λ a b. eqb (max a b) 1 ≡ (eqb a 1 || eqb b 1)) refl refl refl refl)

pub has-and : (a b i : ℕ) → has (bit_and a b) i ≡ (has a i && has b i)
has-and =
    has_by_digits bit_and min ◌&&◌ and_step (λ a b h k. omega arith)
    (digits (λ a b. eqb (min a b) 1 ≡ (eqb a 1 && eqb b 1)) refl refl refl refl)

either : Bool → Bool → Bool
either true b = not b
either false b = b

has_xor : (a b i : ℕ) → has (bit_xor a b) i ≡ either (has a i) (has b i)
unfolding either
has_xor =
    has_by_digits bit_xor differ either xor_step
    (digits (λ a b. differ a b < 2) (omega arith) (omega arith) (omega arith) (omega arith))
    (digits (λ a b. eqb (differ a b) 1 ≡ either (eqb a 1) (eqb b 1)) refl refl refl refl)

minus : (x y : Bool) → either x (x && y) ≡ (x && not y)
unfolding either
minus true y = refl
minus false y = refl

-- The three functions ----------------------------------------------------------------------------------------------------------------

pub has_without : (s others w : ℕ) → has (bit_xor s (bit_and s others)) w ≡ (has s w && not (has others w))
has_without s others w = has_xor s (bit_and s others) w ∙ ap (either (has s w)) (has-and s others w) ∙ minus (has s w) (has others w)

pub has_tested : (s t : ℕ) → eqb (bit_and (s / 2 ^ t) 1) 1 ≡ has s t
has_tested s t = ap (λ (x : ℕ). eqb x 1) (and_mask (s / 2 ^ t) 1) ∙ sym (has_shift s t)

has_power : (t w : ℕ) → has (1 * 2 ^ t) w ≡ eqb w t
unfolding has
has_power zero zero = refl
has_power zero (suc w) = has_none w ∙ sym (ne_eqb (suc w) 0 (omega arith))
has_power (suc t) zero = ap (λ (x : ℕ). eqb x 1) (shifted_even 1 t) ∙ sym (ne_eqb 0 (suc t) (omega arith))
has_power (suc t) (suc w) = ap (λ (x : ℕ). has x w) (shifted_half 1 t) ∙ has_power t w ∙ go (eqb w t) refl
  where
    go : (b : Bool) → eqb w t ≡ b → eqb w t ≡ eqb (suc w) (suc t)
    go true c = c ∙ sym (eq-eqb (suc w) (suc t) (ap suc (eqb-true w t c)))
    go false c = c ∙ sym (ne_eqb (suc w) (suc t) (let n = eqb-false w t c in omega arith))

or_swap : (a b : Bool) → (a || b) ≡ (b || a)
or_swap true true = refl
or_swap true false = refl
or_swap false true = refl
or_swap false false = refl

pub has_with : (s t : ℕ) → t < 32 → (w : ℕ) → has (bit_or s (1 * 2 ^ t % 4294967296)) w ≡ (eqb w t || has s w)
has_with s t h w =
    ap (λ (x : ℕ). has (bit_or s x) w) (shl_exact {a = 1} 1 t 32 (omega arith) (omega arith)) ∙ has_or s (1 * 2 ^ t) w
    ∙ ap (λ (x : Bool). has s w || x) (has_power t w) ∙ or_swap (has s w) (eqb w t)
