-- Laws of tests: of two together, of a callee's answer, of every number below a count, and of a list after a store.
use Rattle.std.proofs.Common.{◌≡◌, ℕ, zero, suc, ◌+◌, ◌<◌, ◌≤◌, Bool, true, false, ◌&&◌, ◌⊎◌, List, length, get_or, set, take, sym, refl, ap, ◌∙◌, inl, inr, ⊎_elim, add-one, arith, get_or-set_other, get_or-set_same}
use mathlib.Core.Bool as bool
use mathlib.Core.List.{[], ◌∷◌, ◌++◌}
use lib.Seq.{take_all}
use native.Mathlib.Numerals.{suc-eq-add-one}
use Rattle.std.specs.List.{list_all, range_with_len}
use Rattle.std.proofs.lemmas.List.Folds.{list_all_more, list_all-append}
use Rattle.std.proofs.lemmas.List.FromFn.{length-range_with_len, get_or-range_with_len}
use mathlib.Core.Bool.{and-true}
use Rattle.memory.specs.Sound.{all_below}
use Rattle.memory.proofs.Tools.{same?}

-- a callee's answer `r` to a test `b`, refused or passed by `if !r`
pub refused : {r b : Bool} → r ≡ b → r ≡ false → b ≡ false
refused e h = sym e ∙ h

pub passed : {r b : Bool} → r ≡ b → r ≡ true → b ≡ true
passed e h = sym e ∙ h

-- `a && b` as it is computed: b where a holds, and a where not
pub and_then : {a b r : Bool} → a ≡ true → r ≡ b → r ≡ (a && b)
and_then h k = rw h k

pub and-stop : {a r : Bool} (b : Bool) → a ≡ false → r ≡ a → r ≡ (a && b)
and-stop b h k = rw h (k ∙ h)

pub and-false : (a : Bool) {b : Bool} → b ≡ false → (a && b) ≡ false
and-false a h = rw h (bool.and-false a)

-- a test of every number below a count: one number more, the whole count, one fault
module _ (p : ℕ → Bool) where
  pub below_more : (i : ℕ) → all_below i p ≡ true → p i ≡ true → all_below (i + 1) p ≡ true
  unfolding all_below
  below_more i h k = rw (add-one, h, k)

  pub below_all : (i n : ℕ) → all_below i p ≡ true → n ≤ i → i ≤ n → all_below n p ≡ true
  below_all i n h k l = let e : n ≡ i = omega arith in rw e h

  pub below_fault : (n i : ℕ) → i < n → p i ≡ false → all_below n p ≡ false
  unfolding all_below
  below_fault zero i h k = absurd (omega arith)
  below_fault (suc n) i h k =
      ⊎_elim
      (λ (e : i ≡ n). and-false (all_below n p) (rw e at k))
      (λ (d : i ≡ n → ⊥). rw (below_fault n i (omega arith) k))
      (same? i n)

pub below_same : (p q : ℕ → Bool) (n : ℕ) → ((i : ℕ) → i < n → p i ≡ q i) → all_below n p ≡ all_below n q
unfolding all_below
below_same p q zero f = refl
below_same p q (suc n) f = rw (below_same p q n (λ i h. f i (omega arith)), f n (omega arith))

-- a list after a store, at the place and elsewhere
pub after-set : {A : Type 0} (l : List A) (i k : ℕ) (v d : A) → i < length l
    → ((k ≡ i) × (get_or (set l i v) k d ≡ v)) ⊎ ((k ≡ i → ⊥) × (get_or (set l i v) k d ≡ get_or l k d))
after-set l i k v d h =
    ⊎_elim
    (λ (e : k ≡ i). inl (e, rw e (get_or-set_same l i v d h)))
    (λ (n : k ≡ i → ⊥). inr (n, get_or-set_other l i k v d n))
    (same? k i)

-- one more: a fault, or none
module _ (p : ℕ → Bool) (i : ℕ) where
  pub next_fault : p i ≡ false → all_below (i + 1) p ≡ false
  unfolding all_below
  next_fault h = rw add-one (and-false (all_below i p) h)

  pub next_good : p i ≡ true → all_below (i + 1) p ≡ all_below i p
  unfolding all_below
  next_good h = rw (add-one, h) (and-true (all_below i p))

-- a test of every element, and of every number of a range, is one of every number below a count
module _ {A : Type 0} (q : A → Bool) (d : A) (xs : List A) where
  below_front : (i : ℕ) → i ≤ length xs → list_all q (take i xs) ≡ all_below i (λ t. q (get_or xs t d))
  unfolding all_below
  below_front zero h = refl
  below_front (suc i) h = rw (suc-eq-add-one i) (list_all_more q xs i d h) ∙ ap (λ (b : Bool). b && q (get_or xs i d)) (below_front i (omega arith))

  pub below-list : list_all q xs ≡ all_below (length xs) (λ t. q (get_or xs t d))
  below-list = sym (ap (list_all q) (take_all (length xs) xs (omega arith))) ∙ below_front (length xs) (omega arith)

pub below-range : (q : ℕ → Bool) (n : ℕ) → list_all q (range_with_len 0 n) ≡ all_below n q
below-range q n =
    below-list q 0 (range_with_len 0 n)
    ∙ ap (λ (k : ℕ). all_below k (λ t. q (get_or (range_with_len 0 n) t 0))) (length-range_with_len 0 n)
    ∙ below_same _ q n (λ i h. ap q (get_or-range_with_len 0 n i 0 h ∙ (let z : 0 + i ≡ i = omega arith in z)))

-- one element more, where the answer so far is taken along
pub all_more : {A : Type 0} (q : A → Bool) (ys : List A) (y : A) {a b : Bool} → a ≡ list_all q ys → b ≡ (a && q y) → b ≡ list_all q (ys ++ y ∷ [])
all_more q ys y h k = k ∙ ap (λ (d : Bool). d && q y) h ∙ ap (λ (d : Bool). list_all q ys && d) (sym (and-true (q y))) ∙ sym (list_all-append q ys (y ∷ []))
