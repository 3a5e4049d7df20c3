-- A machine that lets a sleeper sleep on at a clash: a try of the one that comes neither commits nor wakes, so no turn comes through.
use Prim.Native.Nat.{ℕ, zero, suc, ◌+◌}
use mathlib.Core.Path.{◌≡◌, refl, sym, ap, ◌∙◌}
use mathlib.Core.Logic.{◌⊎◌, inl, inr}
use mathlib.Core.List.Memᴰ
use mathlib.Core.List.{List, [], ◌∷◌}
use lib.ListN.{get_or}
use native.Mathlib.Omega.{arith}
use Rattle.memory.specs.{Memory, kind_of, phase, itself, leaves, ◌∈◌, small, board_after, sleeping, then_answers, Use, Calm, try, address_of, Through, Wakes, AllRise, ComesThrough, ATryEnds, WholeTurnsComeThrough}
use Rattle.memory.specs.Slips.{sleeper_untouched}
use Rattle.memory.proofs.Machine.{machine}
use Rattle.memory.proofs.Breaks.{differ}
use Rattle.memory.proofs.WholeExample.{board, us}

calm : Calm small board
unfolding machine small board_after sleeping board
calm zero h = inl refl
calm (suc zero) h = inr refl
calm (suc (suc u)) h = absurd (omega (arith, h))

-- each number is 0 or the last one
either : (k n i : ℕ) → (get_or (then_answers k n) i 0 ≡ 0) ⊎ (get_or (then_answers k n) i 0 ≡ n)
either zero n zero = inr refl
either zero n (suc i) = inl refl
either (suc k) n zero = inl refl
either (suc k) n (suc i) = either k n i

not_through : (m' : Memory) → Through sleeper_untouched small board 0 us m' → ⊥
unfolding machine small board_after sleeping board us
not_through m' T = go (either T.answers.0 21 5)
  where
    fifth : 22 ≡ get_or (then_answers T.answers.0 21) 5 0
    fifth = ap (λ (l : List ℕ). get_or l 5 0) T.answers.1

    go : (get_or (then_answers T.answers.0 21) 5 0 ≡ 0) ⊎ (get_or (then_answers T.answers.0 21) 5 0 ≡ 21) → ⊥
    go (inl e) = omega (arith, fifth, e)
    go (inr e) = omega (arith, fifth, e)

not_woken : (u : ℕ) (m' : Memory) → Wakes sleeper_untouched small board 0 us u m' → ⊥
unfolding machine small board_after sleeping board us
not_woken zero m' W = differ kind_of W.slept refl
not_woken (suc zero) m' W =
    let z : W.i ≡ 0 = omega (arith, W.within) in
    let a : m' ≡ leaves sleeper_untouched small board (try 0 us 3) =
    W.is_after ∙ ap (λ (i : ℕ). leaves sleeper_untouched small board (try 0 us (suc i + 2))) z in
    differ kind_of (sym (ap (λ (m : Memory). phase m 1) a) ∙ (W.woken 1 itself).0) refl
not_woken (suc (suc u)) m' W = differ kind_of W.slept refl

pub sleeper_untouched_a_try : ATryEnds sleeper_untouched → ⊥
unfolding machine small board_after sleeping board us
sleeper_untouched_a_try claim = go (claim small board 0 (omega arith) refl calm refl us refl)
  where
    go : ((m' : Memory) × Through sleeper_untouched small board 0 us m') ⊎ ((u : ℕ) × (m' : Memory) × Wakes sleeper_untouched small board 0 us u m') → ⊥
    go (inl x) = not_through x.0 x.1
    go (inr x) = not_woken x.0 x.1 x.2

pub sleeper_untouched_a_turn : WholeTurnsComeThrough sleeper_untouched → ⊥
unfolding machine small board_after sleeping board us
sleeper_untouched_a_turn claim = go (claim small board 0 (omega arith) refl calm refl (3 ∷ []) us inside refl)
  where
    inside : (x : Use) → x ∈ us → address_of x ∈ (3 ∷ [])
    inside x k = Memᴰ.head (ap address_of (Memᴰ.eq_of_singleton k))

    go : ((m' : Memory) × Through sleeper_untouched small board 0 us m' × Calm small m')
        ⊎ ((u : ℕ) × (m₁ m₂ : Memory) × Wakes sleeper_untouched small board 0 us u m₁ × AllRise sleeper_untouched small small.tasks m₁ m₂ × Calm small m₂
        × ComesThrough sleeper_untouched small 0 (3 ∷ []) 0 m₂) → ⊥
    go (inl x) = not_through x.0 x.1
    go (inr x) = not_woken x.0 x.1 x.3
