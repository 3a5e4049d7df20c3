-- One set within another.
use Prim.Native.Nat.{ℕ, ◌^◌, ◌<◌}
use mathlib.Core.Path.{◌≡◌, refl, sym, ap, ◌∙◌}
use mathlib.Core.Logic.{⊎_elim}
use mathlib.Core.Bool.{Bool, true, false, not, ◌&&◌, ◌||◌, true≢false}
use lib.Dec.{ltb, eqb}
use borrow.Author.Tests.{lt-ltb, eqb-true, eqb-false}
use Rattle.memory.specs.declared.set.TaskSet.{TaskSet}
use Rattle.memory.specs.Pieces.{most_tasks}
use Rattle.memory.specs.Lists.{has}
use Rattle.memory.proofs.Tools.{both, and_1, and_make, below_at, below_make}
use Rattle.memory.proofs.Sets.{has_none, empty_set}
use Rattle.table_lists.specs.Contract.{inside}

-- `r` has those of `s` who are not among the others
module _ (s others r : TaskSet) (f : (w : ℕ) → has r.bits w ≡ (has s.bits w && not (has others.bits w))) where
  pub inside-by : s.bits < 2 ^ most_tasks → r.bits < 2 ^ most_tasks → eqb r.bits 0 ≡ inside s others
  unfolding inside
  inside-by hs hr = go (eqb r.bits 0) refl
    where
      all : (a b : Bool) → (a && not b) ≡ false → (not a || b) ≡ true
      all true true e = refl
      all true false e = absurd (true≢false e)
      all false b e = refl

      none : (a b : Bool) → (not a || b) ≡ true → (a && not b) ≡ false
      none true true e = refl
      none true false e = absurd (true≢false (sym e))
      none false b e = refl

      go : (b : Bool) → eqb r.bits 0 ≡ b → b ≡ inside s others
      go true e = sym (and_make (lt-ltb s.bits (2 ^ most_tasks) hs)
          (below_make most_tasks _ (λ w l. all (has s.bits w) (has others.bits w) (sym (f w) ∙ ap (λ (x : ℕ). has x w) (eqb-true r.bits 0 e) ∙ has_none w))))
      go false e = ⊎_elim
          (λ k. absurd (eqb-false r.bits 0 e (empty_set most_tasks r.bits hr
          (λ w l. f w ∙ none (has s.bits w) (has others.bits w) (below_at most_tasks (λ w. not (has s.bits w) || has others.bits w) (and_1 (ltb s.bits (2 ^ most_tasks)) _ k) w l)))))
          (λ k. sym k) (both (inside s others))
