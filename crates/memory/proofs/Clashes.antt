-- What a clash makes of the places (§7.7, §7.17): of the owner, and of those who end with it.
use Rattle.std.specs.Prelude.{if◌then◌else◌}
use Prim.Native.Nat.{ℕ, zero, suc, ◌<◌}
use mathlib.Core.Path.{◌≡◌, refl, sym, ap, ◌∙◌}
use mathlib.Core.Logic.{◌⊎◌, inl, inr, ◌≢◌}
use mathlib.Core.List.{[]}
use mathlib.Core.Bool.{Bool, true, false, true≢false}
use lib.ListN.{length, get_or, set, length-set}
use lib.Seq.{get_or-set_same, get_or-set_other}
use native.Mathlib.Omega.{arith}
use Rattle.memory.specs.{Sizes, Memory, Failed, Releasing, row_of, place, place_of, set_place, move, fails, wakes, ends_with, ended_with, end_all, clash}
use Rattle.memory.proofs.Tools.{same?, if_cases}
use Rattle.memory.proofs.Codes.{place_back}
use Rattle.memory.proofs.Stores.{place_other}

-- Those who end with a sleeper --------------------------------------------------------------------------------------------------

module _ (z : Sizes) (m : Memory) (ends : ℕ → Bool) where
  -- places alone change, and as many are there
  pub end_all-words : (k : ℕ) → (end_all z m ends k).words ≡ m.words
  unfolding end_all set_place
  end_all-words zero = refl
  end_all-words (suc k) = if_cases (λ (x : Memory). x.words ≡ m.words) (ends k) _ _ (λ c. end_all-words k) (λ c. end_all-words k)

  pub end_all-records : (k : ℕ) → (end_all z m ends k).records ≡ m.records
  unfolding end_all set_place
  end_all-records zero = refl
  end_all-records (suc k) = if_cases (λ (x : Memory). x.records ≡ m.records) (ends k) _ _ (λ c. end_all-records k) (λ c. end_all-records k)

  pub end_all-entries : (k : ℕ) → (end_all z m ends k).entries ≡ m.entries
  unfolding end_all set_place
  end_all-entries zero = refl
  end_all-entries (suc k) = if_cases (λ (x : Memory). x.entries ≡ m.entries) (ends k) _ _ (λ c. end_all-entries k) (λ c. end_all-entries k)

  pub end_all-length : (k : ℕ) → length (end_all z m ends k).places ≡ length m.places
  unfolding end_all set_place
  end_all-length zero = refl
  end_all-length (suc k) =
      if_cases (λ (x : Memory). length x.places ≡ length m.places) (ends k) _ _ (λ c. length-set (end_all z m ends k).places k _ ∙ end_all-length k) (λ c. end_all-length k)

  -- the row of whoever does not end, or has not yet; and of whoever does
  pub end_all_stays : (k t : ℕ) → (t < k → ends t ≡ false) → get_or (end_all z m ends k).places t [] ≡ get_or m.places t []
  unfolding end_all set_place
  end_all_stays zero t h = refl
  end_all_stays (suc k) t h =
      if_cases (λ (x : Memory). get_or x.places t [] ≡ get_or m.places t []) (ends k) _ _
      (λ c. get_or-set_other (end_all z m ends k).places k t _ [] (λ q. true≢false (sym c ∙ ap ends (sym q) ∙ h (omega arith))) ∙ end_all_stays k t (λ d. h (omega arith)))
      (λ c. end_all_stays k t (λ d. h (omega arith)))

  pub end_all-ends : (k t : ℕ) → t < k → ends t ≡ true → t < length m.places → get_or (end_all z m ends k).places t [] ≡ row_of (ended_with z ends (place m t))
  unfolding end_all
  end_all-ends zero t h e f = absurd (omega arith)
  end_all-ends (suc k) t h e f = go (same? t k) (λ ne. end_all-ends k t (omega arith) e f)
    where
      P : Memory → Type 0
      P x = get_or x.places t [] ≡ row_of (ended_with z ends (place m t))

      go : (t ≡ k) ⊎ (t ≢ k) → (t ≢ k → P (end_all z m ends k)) → P (if ends k then set_place (end_all z m ends k) k (ended_with z ends (place m k)) else end_all z m ends k)
      go (inl q) before =
          if_cases P (ends k) _ _
          (λ c. unfold set_place in (ap (λ (x : ℕ). get_or (set (end_all z m ends k).places k (row_of (ended_with z ends (place m k)))) x []) q
          ∙ get_or-set_same (end_all z m ends k).places k _ [] (omega (arith, end_all-length k)) ∙ ap (λ (x : ℕ). row_of (ended_with z ends (place m x))) (sym q)))
          (λ c. absurd (true≢false (sym e ∙ ap ends q ∙ c)))
      go (inr ne) before =
          if_cases P (ends k) _ _
          (λ c. unfold set_place in (get_or-set_other (end_all z m ends k).places k t _ [] ne ∙ before ne))
          (λ c. before ne)

  -- and their places
  pub place_stays : (k t : ℕ) → (t < k → ends t ≡ false) → place (end_all z m ends k) t ≡ place m t
  unfolding place
  place_stays k t h = ap place_of (end_all_stays k t h)

  pub place-ends : (k t : ℕ) → t < k → ends t ≡ true → t < length m.places → place (end_all z m ends k) t ≡ ended_with z ends (place m t)
  unfolding place
  place-ends k t h e f = ap place_of (end_all-ends k t h e f) ∙ place_back (ended_with z ends (place m t))

-- a clash is one of three: the owner fails, a sleeper wakes with all who end with it, or the table is untouched
pub clash_cases : (z : Sizes) (m : Memory) (u : ℕ) (P : Memory → Type 0) → (fails (place m u).phase ≡ true → P (move m u (Releasing Failed 0)))
    → (wakes (place m u).phase ≡ true → P (end_all z m (ends_with z m u) z.tasks)) → P m → P (clash z m u)
unfolding clash
clash_cases z m u P f g p = if_cases P (fails (place m u).phase) _ _ f (λ c. if_cases P (wakes (place m u).phase) _ _ g (λ d. p))

pub clash_other : (z : Sizes) (m : Memory) (u t : ℕ) → t ≢ u → (wakes (place m u).phase ≡ true → ends_with z m u t ≡ false) → place (clash z m u) t ≡ place m t
unfolding move
clash_other z m u t ne f =
    clash_cases z m u (λ k. place k t ≡ place m t) (λ c. place_other m u _ t ne) (λ c. place_stays z m (ends_with z m u) z.tasks t (λ h. f c)) refl

pub clash-length : (z : Sizes) (m : Memory) (u : ℕ) → length (clash z m u).places ≡ length m.places
unfolding move set_place
clash-length z m u =
    clash_cases z m u (λ k. length k.places ≡ length m.places) (λ c. length-set m.places u _) (λ c. end_all-length z m (ends_with z m u) z.tasks) refl

pub clash-words : (z : Sizes) (m : Memory) (u : ℕ) → (clash z m u).words ≡ m.words
unfolding move set_place
clash-words z m u = clash_cases z m u (λ k. k.words ≡ m.words) (λ c. refl) (λ c. end_all-words z m (ends_with z m u) z.tasks) refl

pub clash-records : (z : Sizes) (m : Memory) (u : ℕ) → (clash z m u).records ≡ m.records
unfolding move set_place
clash-records z m u = clash_cases z m u (λ k. k.records ≡ m.records) (λ c. refl) (λ c. end_all-records z m (ends_with z m u) z.tasks) refl

pub clash-entries : (z : Sizes) (m : Memory) (u : ℕ) → (clash z m u).entries ≡ m.entries
unfolding move set_place
clash-entries z m u = clash_cases z m u (λ k. k.entries ≡ m.entries) (λ c. refl) (λ c. end_all-entries z m (ends_with z m u) z.tasks) refl
