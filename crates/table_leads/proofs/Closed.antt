-- The ways that sets tell, where one task after the other may be gone through.
use Rattle.std.specs.Prelude.{if◌then◌else◌}
use Prim.Native.Nat.{ℕ, suc, ◌<◌, ◌≤◌}
use mathlib.Core.Path.{◌≡◌, refl, sym, ap, ◌∙◌}
use mathlib.Core.List.{List, ◌++◌}
use mathlib.Core.Bool.{Bool, true, false, ◌&&◌, ◌||◌}
use lib.Bits.{bit_or}
use lib.ListN.{length, get_or, take, drop, length-append, length-drop, get_or-append}
use lib.Seq.{length-take-le}
use native.Mathlib.Omega.{arith}
use Rattle.memory.specs.declared.set.TaskSet.{TaskSet}
use Rattle.memory.specs.Pieces.{task_set, no_tasks}
use Rattle.memory.specs.Lists.{has, leads}
use Rattle.memory.proofs.Leads.{leads_below}
use Rattle.memory.proofs.Bits.{has_or}
use Rattle.table_leads.specs.Contract.{joined_in, through, Through, Filled, Ways}

-- by a task's own set
abbrev pub told : List TaskSet → ℕ → ℕ → Bool
told sets a b = has (get_or sets b no_tasks).bits a

-- among the first n tasks, so many may be gone through
pub record Closed (n : ℕ) (sets₀ sets : List TaskSet) (k : ℕ) : Type 0 where
  pub long : length sets ≡ length sets₀
  pub led : (a b : ℕ) → b < n → has (get_or sets b no_tasks).bits a ≡ leads (told sets₀) k a b

pub closed_none : (n : ℕ) (sets : List TaskSet) → Closed n sets sets 0
unfolding leads
closed_none n sets = record { long = refl; led = λ a b h. refl }

passed : (leading : TaskSet) (k : ℕ) (set : TaskSet) (a : ℕ) → has (through leading k set).bits a ≡ (has set.bits a || (has leading.bits a && has set.bits k))
unfolding through
passed leading k set a = go (has set.bits k)
  where
    or_none : (x y : Bool) → (x || (y && false)) ≡ x
    or_none true y = refl
    or_none false true = refl
    or_none false false = refl

    and_all : (y : Bool) → (y && true) ≡ y
    and_all true = refl
    and_all false = refl

    go : (c : Bool) → has (if c then task_set (bit_or set.bits leading.bits) else set).bits a ≡ (has set.bits a || (has leading.bits a && c))
    go true = has_or set.bits leading.bits a ∙ ap (λ (x : Bool). has set.bits a || x) (sym (and_all (has leading.bits a)))
    go false = sym (or_none (has set.bits a) (has leading.bits a))

pub closed_next : (n : ℕ) (sets₀ sets sets' : List TaskSet) (k : ℕ) → k < n → Closed n sets₀ sets k → Through n k sets sets' → Closed n sets₀ sets' (suc k)
unfolding leads
closed_next n sets₀ sets sets' k h C T = record {
  long = T.long ∙ C.long;
  led = λ a b i.
      ap (λ (x : TaskSet). has x.bits a) (T.each b i) ∙ passed (get_or sets k no_tasks) k (get_or sets b no_tasks) a
      ∙ ap (λ (x : Bool). x || (has (get_or sets k no_tasks).bits a && has (get_or sets b no_tasks).bits k)) (C.led a b i)
      ∙ ap (λ (x : Bool). leads (told sets₀) k a b || (x && has (get_or sets b no_tasks).bits k)) (C.led a k h)
      ∙ ap (λ (x : Bool). leads (told sets₀) k a b || (leads (told sets₀) k a k && x)) (C.led k b i);
}

-- filled, and then closed: all sets, or the tasks' own, with what stands behind them
pub ways_by_all : (places : List (List ℕ)) (sets sets₁ sets₂ : List TaskSet) → length places ≤ length sets → Filled places sets sets₁ → length sets₂ ≡ length sets₁
    → ((a b : ℕ) → b < length places → has (get_or sets₂ b no_tasks).bits a ≡ leads (told sets₁) (length places) a b) → Ways places sets sets₂
ways_by_all places sets sets₁ sets₂ h F l C = record {
  long = l ∙ F.long;
  each = λ a b i.
      C a b i
      ∙ leads_below (told sets₁) (joined_in places) (length places) (λ x y j. ap (λ (s : TaskSet). has s.bits x) (F.each y j)) (length places) (omega arith) a b i;
}

pub ways_by : (places : List (List ℕ)) (sets sets₁ sets₂ : List TaskSet) → let n = length places in n ≤ length sets → Filled places (take n sets) sets₁ → length sets₂ ≡ length sets₁
    → ((a b : ℕ) → b < length sets₁ → has (get_or sets₂ b no_tasks).bits a ≡ leads (told sets₁) (length sets₁) a b) → Ways places sets (sets₂ ++ drop n sets)
ways_by places sets sets₁ sets₂ h F l C =
    let n = length places in
    let q : length sets₁ ≡ n = F.long ∙ length-take-le n sets h in
    let own = ways_by_all places (take n sets) sets₁ sets₂ (omega (arith, F.long, q)) F l (rw q at C) in
    record {
      long = omega (arith, length-append sets₂ (drop n sets), length-drop n sets);
      each = λ a b i. ap (λ (s : TaskSet). has s.bits a) (get_or-append sets₂ (drop n sets) no_tasks b (omega arith)) ∙ own.each a b i;
    }
