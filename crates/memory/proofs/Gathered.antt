-- A set that is gathered task by task: those whom it had first, and those passed who meet a test.
use Prim.Native.Nat.{ℕ, ◌+◌}
use mathlib.Core.Path.{◌≡◌, refl, sym, ap, ◌∙◌}
use mathlib.Core.Logic.{◌≢◌, ⊎_elim}
use mathlib.Core.Bool.{Bool, true, false, ◌&&◌, ◌||◌, or-true}
use lib.Dec.{eqb, ltb}
use native.Mathlib.Omega.{arith}
use borrow.Author.Tests.{eq-eqb, ne_eqb, lt-ltb, le-ltb, ltb-true, ltb-false}
use Rattle.memory.specs.Lists.{has}
use Rattle.memory.proofs.Tools.{both, everywhere}

-- below k + 1 is below k, but for k itself
ltb_more : (w k : ℕ) → w ≢ k → ltb w (k + 1) ≡ ltb w k
ltb_more w k ne =
    ⊎_elim (λ c. lt-ltb w (k + 1) (let h = ltb-true w k c in omega arith) ∙ sym c) (λ c. le-ltb w (k + 1) (let h = ltb-false w k c in omega arith) ∙ sym c) (both (ltb w k))

module _ (first test : ℕ → Bool) (k set : ℕ) (gathered : (w : ℕ) → has set w ≡ (first w || (ltb w k && test w))) where
  abbrev next : ℕ → Bool
  next w = first w || (ltb w (k + 1) && test w)

  -- all but k are as before
  other : (w : ℕ) → w ≢ k → has set w ≡ next w
  other w ne = gathered w ∙ ap (λ (b : Bool). first w || (b && test w)) (sym (ltb_more w k ne))

  pub one_more : (set' : ℕ) → test k ≡ true → ((w : ℕ) → has set' w ≡ (eqb w k || has set w)) → (w : ℕ) → has set' w ≡ (first w || (ltb w (k + 1) && test w))
  one_more set' c f =
      everywhere (λ w. has set' w ≡ next w) k
      (f k ∙ ap (λ (b : Bool). b || has set k) (eq-eqb k k refl) ∙ sym (rw (lt-ltb k (k + 1) (omega arith), c) (or-true (first k))))
      (λ w ne. f w ∙ ap (λ (b : Bool). b || has set w) (ne_eqb w k ne) ∙ other w ne)

  pub no_more : test k ≡ false → (w : ℕ) → has set w ≡ (first w || (ltb w (k + 1) && test w))
  no_more c = everywhere (λ w. has set w ≡ next w) k (gathered k ∙ rw (le-ltb k k (omega arith), lt-ltb k (k + 1) (omega arith), c)) other
