-- Two replies by the same rows: their numbers are the same, and what they leave is the same where they are refusals.
use Prim.Native.Nat.{ℕ, ◌<◌, ◌≤◌}
use mathlib.Core.Path.{◌≡◌, refl, sym, ap, ◌∙◌}
use mathlib.Core.Logic.{◌⊎◌, inl, inr, ⊎_elim}
use mathlib.Core.List.{List, [], ◌∷◌}
use mathlib.Core.Bool.{Bool, true, false, ◌&&◌}
use lib.Dec.{ltb}
use borrow.Author.Tests.{ltb-true, ltb-false}
use Rattle.memory.specs.{Sizes, Memory, sound, Reply, reply, refusal, Row, Given, refusals}
use Rattle.memory.proofs.Tools.{both, and_0, and_1}
use Rattle.memory.proofs.Cases.{no_refusal}
use Rattle.memory.proofs.Answers.{one_number}

-- a number that is no refusal is not that of a row of refusals, but of the rows after it
pub past : {C X : Type 0} {n : ℕ} (k : ℕ) → refusal k ≡ true → refusal n ≡ false → (C × (n ≡ k)) ⊎ ((C → ⊥) × X) → (C → ⊥) × X
past {n = n} k b c (inl x) = no_refusal n c k b (sym x.1)
past k b c (inr x) = x

-- with rows of refusals only, it is 0
abbrev pub refusing : List Row → Bool
refusing [] = true
refusing (row ∷ rows) = refusal row.0 && refusing rows

pub only_0 : (rows : List Row) → refusing rows ≡ true → (n : ℕ) → refusal n ≡ false → Given rows n → n ≡ 0
only_0 [] all n b g = g
only_0 (row ∷ rows) all n b g =
    only_0 rows (and_1 (refusal row.0) (refusing rows) all) n b (past row.0 (and_0 (refusal row.0) (refusing rows) all) b g).1

module _ (z : Sizes) (m : Memory) (t : ℕ) (D : Type 0) where
  -- past 1, 3 and 4
  abbrev pub Allowed : Type 0
  Allowed = (sound z m ≡ true) × (t < z.tasks) × (D → ⊥)

  is_allowed : (sound z m ≡ false → ⊥) → (z.tasks ≤ t → ⊥) → (D → ⊥) → Allowed
  is_allowed a b d = (
    ⊎_elim (λ e. e) (λ e. absurd (a e)) (both (sound z m)),
    ⊎_elim (λ e. ltb-true _ _ e) (λ e. absurd (b (ltb-false _ _ e))) (both (ltb t z.tasks)),
    d,
  )

  pub allowed : (n : ℕ) (rows : List Row) → refusal n ≡ false → Given (refusals z m t D rows) n → Allowed × Given rows n
  allowed n rows c g =
      let (a, x) = past 1 refl c g in
      let (b, y) = past 3 refl c x in
      let (d, w) = past 4 refl c y in
      (is_allowed a b d, w)

  -- other rows that give the same number where the call is allowed
  pub others_give : (n : ℕ) (rows rows' : List Row) → (Allowed → Given rows n → Given rows' n)
      → Given (refusals z m t D rows) n → Given (refusals z m t D rows') n
  others_give n rows rows' f (inl x) = inl x
  others_give n rows rows' f (inr (a, inl x)) = inr (a, inl x)
  others_give n rows rows' f (inr (a, inr (b, inl x))) = inr (a, inr (b, inl x))
  others_give n rows rows' f (inr (a, inr (b, inr (d, g)))) = inr (a, inr (b, inr (d, f (is_allowed a b d) g)))

-- replies by the same rows: the number is the same, and with a refusal both keep the memory
pub same-reply : (rows : List Row) (m : Memory) (r s : Reply) → Given rows r.number → Given rows s.number
    → (refusal r.number ≡ true → r.after ≡ m) → (refusal s.number ≡ true → s.after ≡ m)
    → (r.number ≡ s.number → r.value ≡ s.value) → (refusal r.number ≡ false → r.number ≡ s.number → r.after ≡ s.after) → r ≡ s
same-reply rows m r s x y k l value after =
    let q = one_number rows r.number s.number x y in
    let e = ⊎_elim (λ b. k b ∙ sym (l (ap refusal (sym q) ∙ b))) (λ b. after b q) (both (refusal r.number)) in
    λ i. reply (q i) (value q i) (e i)
