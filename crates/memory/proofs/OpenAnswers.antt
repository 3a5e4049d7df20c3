-- What the opening and the look-up answer.
use Prim.Native.Nat.{ℕ, ◌≤◌}
use mathlib.Core.Path.{◌≡◌, refl, sym, ◌∙◌}
use mathlib.Core.Logic.{inl, inr, ◌≢◌}
use mathlib.Core.List.{[], ◌∷◌}
use mathlib.Core.Bool.{true, false, not, ◌&&◌, false≢true, true≢false}
use lib.Dec.{ltb}
use native.Mathlib.Omega.{arith}
use borrow.Author.Tests.{ltb-true, ltb-false, leb-true, eqb-true, eq-eqb, not-true, not-false}
use Rattle.memory.specs.{Sizes, Memory, top_version, logical, sound, sizes_ok, lengths_ok, within, Looked, open_board, look, ours, Given, InRange, Fits, OpeningAnswers, LookAnswers}
use Rattle.memory.proofs.Tools.{if_cases, and_0, and_1, and_make, within_make}
use Rattle.memory.proofs.Cases.{opening_cases}
use Rattle.memory.proofs.Answers.{when}

in_range : (z : Sizes) (v : ℕ) → (sizes_ok z && within 1 top_version v) ≡ true → InRange z v
unfolding sizes_ok within
in_range z v s = (
  leb-true _ _ (search (and_0, and_1)),
  leb-true _ _ (search (and_0, and_1)),
  leb-true _ _ (search (and_0, and_1)),
  leb-true _ _ (search (and_0, and_1)),
  leb-true _ _ (search (and_0, and_1)),
  leb-true _ _ (search (and_0, and_1)),
  leb-true _ _ (search (and_0, and_1)),
  leb-true _ _ (search (and_0, and_1)),
)

range_in : (z : Sizes) (v : ℕ) → InRange z v → (sizes_ok z && within 1 top_version v) ≡ true
unfolding sizes_ok
range_in z v (w, w', r, r', t, t', f, f') =
    and_make (and_make (and_make (within_make (w, w')) (within_make (r, r'))) (within_make (t, t'))) (within_make (f, f'))

pub fits : (z : Sizes) (m : Memory) → lengths_ok z m ≡ true → Fits z m
unfolding lengths_ok
fits z m s = (
  eqb-true _ _ (search (and_0, and_1)),
  eqb-true _ _ (search (and_0, and_1)),
  eqb-true _ _ (search (and_0, and_1)),
  eqb-true _ _ (search (and_0, and_1)),
)

pub fits_in : (z : Sizes) (m : Memory) → Fits z m → lengths_ok z m ≡ true
unfolding lengths_ok
fits_in z m (w, r, p, e) = and_make (and_make (and_make (eq-eqb _ _ w) (eq-eqb _ _ r)) (eq-eqb _ _ p)) (eq-eqb _ _ e)

pub opening_answers : OpeningAnswers ours
unfolding open_board
opening_answers z v m = (
  when (not (sizes_ok z && within 1 top_version v)) 2 (InRange z v → ⊥) ((1, Fits z m → ⊥) ∷ []) _ _
      (λ a x. false≢true (sym (not-true _ a) ∙ range_in z v x)) (λ a x. x (in_range z v (not-false _ a))) refl (λ a.
      when (not (lengths_ok z m)) 1 (Fits z m → ⊥) [] _ _
      (λ b x. false≢true (sym (not-true _ b) ∙ fits_in z m x)) (λ b x. x (fits z m (not-false _ b))) refl (λ b. refl)),
  opening_cases z v m (λ r. r.value ≡ 0) refl refl (λ c. refl),
)

pub look_answers : LookAnswers ours
unfolding look
look_answers z m a =
    if_cases P (not (sound z m)) _ _ (λ b. (inl (not-true _ b, refl), λ x. (refl, refl), λ x. absurd (omega (arith, x)))) (λ b.
    let yes-sound : sound z m ≡ false → ⊥ = λ x. true≢false (sym (not-false _ b) ∙ x) in
    if_cases P (not (ltb a z.words)) _ _
    (λ d. (inr (yes-sound, inl (ltb-false _ _ (not-true _ d), refl)), λ x. (refl, refl), λ x. absurd (omega (arith, x)))) (λ d.
    (inr (yes-sound, inr (λ x. omega (arith, x, ltb-true a z.words (not-false _ d)), refl)), λ x. absurd (x refl), λ x. (refl, refl))))
  where
    P : Looked → Type 0
    P r =
        Given ((1, sound z m ≡ false) ∷ (5, z.words ≤ a) ∷ []) r.number
        × (r.number ≢ 0 → (r.value ≡ 0) × (r.version ≡ 0))
        × (r.number ≡ 0 → (r.value ≡ (logical z m a).value) × (r.version ≡ (logical z m a).version))
