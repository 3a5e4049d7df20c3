-- Sets of tasks as numbers (§2.13): what is in a set that was made, and that a set is known by what is in it.
use Prim.Native.Nat.{ℕ, zero, suc, ◌+◌, ◌*◌, ◌/◌, ◌%◌, ◌^◌, ◌<◌, ◌≤◌}
use mathlib.Core.Path.{◌≡◌, refl, sym, ap, ◌∙◌, subst, subst⁻¹}
use mathlib.Core.Logic.{◌≢◌}
use mathlib.Core.Bool.{Bool, true, false, true≢false}
use lib.Arith.{bin_ind}
use lib.Dec.{eqb, ltb}
use lib.Pow.{shr-shr}
use native.Mathlib.Nat.{pow-succ'}
use native.Mathlib.Omega.{arith}
use borrow.Author.Tests.{ltb-true, ltb-false, eqb-true, eqb-false, eq-eqb}
use Rattle.memory.specs.{has, bit, set_of}

half : (b : Bool) (s : ℕ) → (bit b + 2 * s) / 2 ≡ s
half true s = omega arith
half false s = omega arith

odd : (b : Bool) (s : ℕ) → eqb ((bit b + 2 * s) % 2) 1 ≡ b
odd true s = let q : (1 + 2 * s) % 2 ≡ 1 = omega arith in eq-eqb ((1 + 2 * s) % 2) 1 q
odd false s = ap (λ (k : ℕ). eqb k 1) (let q : (0 + 2 * s) % 2 ≡ 0 = omega arith in q)

pub has_none : (i : ℕ) → has 0 i ≡ false
unfolding has
has_none zero = refl
has_none (suc i) = has_none i

-- What is in a set that was made ---------------------------------------------------------------------------------------------------

pub has-set_of : (k : ℕ) (p : ℕ → Bool) (i : ℕ) → i < k → has (set_of k p) i ≡ p i
unfolding has set_of
has-set_of zero p i h = absurd (omega arith)
has-set_of (suc k) p zero h = odd (p 0) _
has-set_of (suc k) p (suc i) h = ap (λ (s : ℕ). has s i) (half (p 0) (set_of k (λ i. p (suc i)))) ∙ has-set_of k (λ i. p (suc i)) i (omega arith)

pub has_beyond : (k : ℕ) (p : ℕ → Bool) (i : ℕ) → k ≤ i → has (set_of k p) i ≡ false
unfolding has set_of
has_beyond zero p i h = has_none i
has_beyond (suc k) p zero h = absurd (omega arith)
has_beyond (suc k) p (suc i) h = ap (λ (s : ℕ). has s i) (half (p 0) (set_of k (λ i. p (suc i)))) ∙ has_beyond k (λ i. p (suc i)) i (omega arith)

pub in_set : (k : ℕ) (p : ℕ → Bool) (i : ℕ) → has (set_of k p) i ≡ true → (i < k) × (p i ≡ true)
in_set k p i h = go (ltb i k) refl
  where
    go : (b : Bool) → ltb i k ≡ b → (i < k) × (p i ≡ true)
    go true c = (ltb-true i k c, sym (has-set_of k p i (ltb-true i k c)) ∙ h)
    go false c = absurd (true≢false (sym h ∙ has_beyond k p i (ltb-false i k c)))

pub set_in : (k : ℕ) (p : ℕ → Bool) (i : ℕ) → i < k → p i ≡ true → has (set_of k p) i ≡ true
set_in k p i h e = has-set_of k p i h ∙ e

pub set-small : (k : ℕ) (p : ℕ → Bool) → set_of k p < 2 ^ k
unfolding set_of
set-small zero p = omega arith
set-small (suc k) p = subst⁻¹ (λ (w : ℕ). bit (p 0) + 2 * set_of k (λ i. p (suc i)) < w) (pow-succ' 2 k) (go (p 0) (set_of k (λ i. p (suc i))) (2 ^ k) (set-small k (λ i. p (suc i))))
  where
    go : (b : Bool) (s w : ℕ) → s < w → bit b + 2 * s < 2 * w
    go true s w h = omega arith
    go false s w h = omega arith

-- the empty set is small
pub none_small : (k : ℕ) → 0 < 2 ^ k
none_small k = omega (arith, set-small k (λ i. false))

-- A set is known by what is in it ----------------------------------------------------------------------------------------------------

pub set_cong : (k : ℕ) (p q : ℕ → Bool) → ((i : ℕ) → i < k → p i ≡ q i) → set_of k p ≡ set_of k q
unfolding set_of
set_cong zero p q h = refl
set_cong (suc k) p q h =
    ap (λ (b : Bool). bit b + 2 * set_of k (λ i. p (suc i))) (h 0 (omega arith))
    ∙ ap (λ (s : ℕ). bit (q 0) + 2 * s) (set_cong k (λ i. p (suc i)) (λ i. q (suc i)) (λ i c. h (suc i) (omega arith)))

digit : (s : ℕ) → bit (eqb (s % 2) 1) ≡ s % 2
digit s = go (eqb (s % 2) 1) refl
  where
    go : (b : Bool) → eqb (s % 2) 1 ≡ b → bit b ≡ s % 2
    go true e = sym (eqb-true (s % 2) 1 e)
    go false e = let n = eqb-false (s % 2) 1 e in omega arith

pub set-has : (k s : ℕ) → s < 2 ^ k → set_of k (has s) ≡ s
unfolding set_of has
set-has zero s h = omega arith
set-has (suc k) s h =
    ap (λ (x : ℕ). bit (eqb (s % 2) 1) + 2 * x) (set-has k (s / 2) (low s (2 ^ k) (subst (λ (w : ℕ). s < w) (pow-succ' 2 k) h))) ∙ ap (λ (x : ℕ). x + 2 * (s / 2)) (digit s)
    ∙ (let q : s % 2 + 2 * (s / 2) ≡ s = omega arith in q)
  where
    low : (s w : ℕ) → s < 2 * w → s / 2 < w
    low s w h = omega arith

pub same_set : (k s s' : ℕ) → s < 2 ^ k → s' < 2 ^ k → ((i : ℕ) → i < k → has s i ≡ has s' i) → s ≡ s'
same_set k s s' h h' f = sym (set-has k s h) ∙ set_cong k (has s) (has s') f ∙ set-has k s' h'

-- a small set has small tasks alone in it
pub small_in : (k s i : ℕ) → s < 2 ^ k → has s i ≡ true → i < k
small_in k s i h e = (in_set k (has s) i (ap (λ (x : ℕ). has x i) (set-has k s h) ∙ e)).0

pub none_beyond : (k s w : ℕ) → s < 2 ^ k → k ≤ w → has s w ≡ false
none_beyond k s w h l = ap (λ (x : ℕ). has x w) (sym (set-has k s h)) ∙ has_beyond k (has s) w l

pub empty_set : (k s : ℕ) → s < 2 ^ k → ((i : ℕ) → i < k → has s i ≡ false) → s ≡ 0
empty_set k s h f = same_set k s 0 h (none_small k) (λ i c. f i c ∙ sym (has_none i))

-- however large the number is
no_bits : (s : ℕ) → ((w : ℕ) → has s w ≡ false) → s ≡ 0
unfolding has
no_bits =
    bin_ind (λ (n : ℕ). ((w : ℕ) → has n w ≡ false) → n ≡ 0) (λ f. refl)
    (λ n ih f. let a : n / 2 ≡ 0 = ih (λ w. f (suc w)) in let b : n % 2 ≢ 1 = eqb-false (n % 2) 1 (f 0) in omega arith)

pub known_by : (k s : ℕ) (p : ℕ → Bool) → ((w : ℕ) → w < k → has s w ≡ p w) → ((w : ℕ) → k ≤ w → has s w ≡ false) → s ≡ set_of k p
unfolding set_of has
known_by zero s p f g = no_bits s (λ w. g w (omega arith))
known_by (suc k) s p f g =
    go (p 0) (f 0 (omega arith)) ∙ ap (λ (x : ℕ). bit (p 0) + 2 * x) (known_by k (s / 2) (λ w. p (suc w)) (λ w h. f (suc w) (omega arith)) (λ w h. g (suc w) (omega arith)))
  where
    go : (b : Bool) → eqb (s % 2) 1 ≡ b → s ≡ bit b + 2 * (s / 2)
    go true c = let e = eqb-true (s % 2) 1 c in omega arith
    go false c = let e = eqb-false (s % 2) 1 c in omega arith

-- by a division
pub has_shift : (s i : ℕ) → has s i ≡ eqb (s / 2 ^ i % 2) 1
unfolding has
has_shift s zero = ap (λ (x : ℕ). eqb (x % 2) 1) (let q : s ≡ s / 1 = omega arith in q)
has_shift s (suc i) = has_shift (s / 2) i ∙ ap (λ (x : ℕ). eqb (x % 2) 1) (shr-shr s 1 i ∙ ap (λ (x : ℕ). s / 2 ^ x) (let q : 1 + i ≡ suc i = omega arith in q))
