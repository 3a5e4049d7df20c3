-- What two sound tables show tells their lists, and what a change leaves.
use Prim.Native.Nat.{ℕ, ◌<◌}
use mathlib.Core.Path.{◌≡◌, sym, ap, ◌∙◌, subst⁻¹}
use mathlib.Core.Logic.{◌⊎◌, inl, inr, ◌≢◌}
use mathlib.Core.Bool.{true}
use lib.ListN.{get_or}
use lib.Seq.{ext_get_or}
use native.Mathlib.Omega.{arith}
use Rattle.memory.specs.{Sizes, Held, Version, Owner, Memory, place, place_of, held, number_of, sound, KeepsOthers, Same, ButAt, word}
use Rattle.memory.proofs.Tools.{same?, everywhere}
use Rattle.memory.proofs.Codes.{not_owner, owner_inj, number_back}
use Rattle.memory.proofs.Facts.{words-length, records-length}

pub is_owner? : (h : Held) (t : ℕ) → (h ≡ Owner t) ⊎ (h ≢ Owner t)
is_owner? (Version v) t = inr (λ e. not_owner v t e)
is_owner? (Owner u) t = go (same? u t)
  where
    go : (u ≡ t) ⊎ (u ≢ t) → (Owner u ≡ Owner t) ⊎ (Owner u ≢ Owner t)
    go (inl e) = inl (ap Owner e)
    go (inr n) = inr (λ e. n (owner_inj u t e))

pub keeps_place : (z : Sizes) (m m' : Memory) (t : ℕ) → KeepsOthers z m t m' → (w : ℕ) → w ≢ t → place m' w ≡ place m w
unfolding place
keeps_place z m m' t K w ne = ap place_of (K.places w ne)

module _ (z : Sizes) (m m' : Memory) (ok : sound z m ≡ true) (ok' : sound z m' ≡ true) where
  pub words_back : Same (word m) (word m') → m'.words ≡ m.words
  words_back f = ext_get_or 0 m'.words m.words (words-length z m' ok' ∙ sym (words-length z m ok)) (λ i d. f i)

  pub records_back : ((r : ℕ) → r < z.records → held m' r ≡ held m r) → m'.records ≡ m.records
  unfolding held
  records_back f =
      ext_get_or 0 m'.records m.records (records-length z m' ok' ∙ sym (records-length z m ok))
      (λ i d. sym (number_back (get_or m'.records i 0)) ∙ ap number_of (f i (omega (arith, d, records-length z m' ok'))) ∙ number_back (get_or m.records i 0))

-- what held of each thing holds on where all is the same, and where one thing is new if it holds of that
module _ {A : Type 0} (P : ℕ → A → Type 0) (f f' : ℕ → A) (h : (k : ℕ) → P k (f k)) where
  pub same_all : Same f f' → (k : ℕ) → P k (f' k)
  same_all s k = subst⁻¹ (P k) (s k) (h k)

  pub but_all : (i : ℕ) (x : A) → ButAt i x f f' → P i x → (k : ℕ) → P k (f' k)
  but_all i x s new = everywhere (λ k. P k (f' k)) i (subst⁻¹ (P i) s.0 new) (λ k ne. subst⁻¹ (P k) (s.1 k ne) (h k))
