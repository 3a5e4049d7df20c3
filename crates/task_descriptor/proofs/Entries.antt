-- What the code needs of a task's entries, as a sound table has it.
use Prim.Native.Nat.{ℕ, ◌<◌}
use mathlib.Core.Path.{◌≡◌}
use mathlib.Core.Bool.{true}
use native.Mathlib.Omega.{arith}
use Rattle.memory.specs.declared.Sizes.{Sizes}
use Rattle.memory.specs.Pieces.{Memory, place, entry}
use Rattle.memory.specs.Sound.{sound}
use Rattle.memory.proofs.Facts.{some_record, records_most, tasks_most, run_fits, entry-fits}
use Rattle.task_descriptor.specs.Contract.{Within}

module _ (z : Sizes) (m : Memory) (ok : sound z m ≡ true) where
  pub within : (t : ℕ) → t < z.tasks → (n : ℕ) → (place m t).count ≡ n → Within z m.entries t n
  unfolding entry
  within t lt n e =
      record {
        task = omega (arith, tasks_most z m ok);
        some = some_record z m ok;
        few = records_most z m ok;
        fits = omega (arith, run_fits z m ok t lt);
        low = λ i h. (entry-fits z m ok t lt i (omega arith)).1;
      }
