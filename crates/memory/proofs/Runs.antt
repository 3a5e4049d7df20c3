-- A call that is not refused, calls and then calls, a step and then steps: what they answer and leave.
use Prim.Native.Nat.{ℕ, zero, suc, ◌+◌, ◌<◌}
use mathlib.Core.Path.{◌≡◌, refl, sym, ap, ◌∙◌}
use mathlib.Core.Logic.{inr}
use mathlib.Core.List.{List, [], ◌∷◌, ◌++◌}
use mathlib.Core.Bool.{true, true≢false}
use lib.ListN.{length, replicate}
use native.Mathlib.Omega.{arith}
use Rattle.memory.specs.{Sizes, Memory, sound, Row, Given, refusals, Call, SP, call, leaves, numbers, then_answers, AllZero, LastSays, ours}
use Rattle.memory.proofs.SoundLasts.{call-sound}

-- past 1, 3 and 4
pub not-refused : (z : Sizes) (m : Memory) (t : ℕ) → sound z m ≡ true → t < z.tasks → (D : Type 0) (rows : List Row) (k : ℕ) → (D → ⊥) → Given rows k
    → Given (refusals z m t D rows) k
not-refused z m t ok lt D rows k allowed g = inr (λ y. true≢false (sym ok ∙ y), inr (λ y. omega (arith, lt, y), inr (allowed, g)))

pub leaves_sound : (z : Sizes) (cs : List Call) (m : Memory) → sound z m ≡ true → sound z (leaves ours z m cs) ≡ true
unfolding leaves
leaves_sound z [] m ok = ok
leaves_sound z (c ∷ cs) m ok = leaves_sound z cs (call z m c).after (call-sound z m ok c)

pub leaves_append : (z : Sizes) (cs ds : List Call) (m : Memory) → leaves ours z m (cs ++ ds) ≡ leaves ours z (leaves ours z m cs) ds
unfolding leaves
leaves_append z [] ds m = refl
leaves_append z (c ∷ cs) ds m = leaves_append z cs ds (call z m c).after

numbers_append : (z : Sizes) (cs ds : List Call) (m : Memory) → numbers ours z m (cs ++ ds) ≡ numbers ours z m cs ++ numbers ours z (leaves ours z m cs) ds
unfolding numbers leaves
numbers_append z [] ds m = refl
numbers_append z (c ∷ cs) ds m = ap (λ (l : List ℕ). (call z m c).number ∷ l) (numbers_append z cs ds (call z m c).after)

zeros : (a b n : ℕ) → replicate a 0 ++ then_answers b n ≡ then_answers (a + b) n
zeros zero b n = let none : b ≡ 0 + b = omega arith in ap (λ (k : ℕ). then_answers k n) none
zeros (suc a) b n = ap (λ (l : List ℕ). 0 ∷ l) (zeros a b n) ∙ ap (λ (k : ℕ). then_answers k n) more
  where
    more : suc (a + b) ≡ suc a + b
    more = omega arith

pub says_then : (z : Sizes) (m : Memory) (cs ds : List Call) (n : ℕ) → AllZero ours z m cs → LastSays ours z (leaves ours z m cs) ds n
    → LastSays ours z m (cs ++ ds) n
says_then z m cs ds n e (j, f) = (
  length cs + j,
  numbers_append z cs ds m ∙ ap (λ (l : List ℕ). l ++ numbers ours z (leaves ours z m cs) ds) e
      ∙ ap (λ (l : List ℕ). replicate (length cs) 0 ++ l) f ∙ zeros _ j n,
)

-- Steps of a task: so many answer 0 and one more a number, and then something holds.
pub record Reaches (z : Sizes) (t : ℕ) (m : Memory) (k a : ℕ) (Q : Memory → Type 0) : Type 0 where
  pub answers : numbers ours z m (replicate (suc k) (SP t)) ≡ then_answers k a
  pub there : Q (leaves ours z m (replicate (suc k) (SP t)))

module _ (z : Sizes) (t : ℕ) (m : Memory) (a : ℕ) (Q : Memory → Type 0) where
  pub arrives : (call z m (SP t)).number ≡ a → Q (call z m (SP t)).after → Reaches z t m 0 a Q
  unfolding numbers leaves
  arrives e q = record { answers = ap (λ (i : ℕ). i ∷ []) e; there = q }

  pub goes_on : (k : ℕ) → (call z m (SP t)).number ≡ 0 → Reaches z t (call z m (SP t)).after k a Q → Reaches z t m (suc k) a Q
  unfolding numbers leaves
  goes_on k e R =
      record {
        answers = ap (λ (i : ℕ). i ∷ numbers ours z (call z m (SP t)).after (replicate (suc k) (SP t))) e ∙ ap (λ (l : List ℕ). 0 ∷ l) R.answers;
        there = R.there;
      }

  pub reaches : (P : Memory → Type 0) → ((m' : Memory) → P m' → Q m') → (k : ℕ) → Reaches z t m k a P → Reaches z t m k a Q
  reaches P f k R = record { answers = R.answers; there = f _ R.there }
