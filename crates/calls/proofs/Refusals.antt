-- What a public call answers before it goes on: 1 on an unsound table.
use Prim.Native.Nat.{ℕ}
use mathlib.Core.Path.{◌≡◌, sym, ap, ◌∙◌}
use mathlib.Core.Bool.{false}
use Rattle.memory.specs.declared.Sizes.{Sizes}
use Rattle.memory.specs.declared.Answer.{Answer}
use Rattle.memory.specs.declared.Looked.{Looked}
use Rattle.memory.specs.Pieces.{Memory}
use Rattle.memory.specs.Sound.{sound}
use Rattle.memory.specs.Numbers.{replied, plain}
use Rattle.memory.specs.Requests.{looked, look}
use Rattle.memory.specs.declared.Call.{Call}
use Rattle.memory.specs.Calls.{call}
use Rattle.memory.proofs.Cases.{unsound}

module _ (z : Sizes) (m : Memory) where
  -- every request of an unsound table
  pub unsound_reply : (k : Call) (a : Answer) → a ≡ plain 1 → sound z m ≡ false → replied a m ≡ call z m k
  unsound_reply k a e bad = ap (λ (x : Answer). replied x m) e ∙ sym (unsound z m bad k)

  -- a look-up: its number and value as they are answered, and no version
  pub unsound_look : (a : ℕ) (n : Answer) (r : Looked) → n ≡ plain 1 → r ≡ looked n.number n.value 0 → sound z m ≡ false → r ≡ look z m a
  unfolding look
  unsound_look a n r is e bad = e ∙ rw is (sym (rw bad))
