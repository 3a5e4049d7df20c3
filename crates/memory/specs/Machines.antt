-- A machine is what answers the calls, the opening and the look-up. The definitions of this crate are one, `ours`. A claim that takes
-- a machine can be asked of any, so that a wrong one can be shown to break it.
use Rattle.std.specs.Prelude.{ℕ, List, [], ◌∷◌}
use Rattle.memory.specs.Pieces.{Sizes, Memory}
use Rattle.memory.specs.Numbers.{Looked, Reply}
use Rattle.memory.specs.Requests.{open_board, look}
use Rattle.memory.specs.Calls.{Call, call}

pub record Machine : Type 0 where
  pub call : Sizes → Memory → Call → Reply
  pub open_board : Sizes → ℕ → Memory → Reply
  pub look : Sizes → Memory → ℕ → Looked

abbrev pub ours : Machine
ours = record { call = call; open_board = open_board; look = look }

module _ (M : Machine) where
  -- what calls, one after the other, leave; and the numbers that they answer
  unfoldable pub leaves : Sizes → Memory → List Call → Memory
  leaves z m [] = m
  leaves z m (c ∷ cs) = leaves z (M.call z m c).after cs

  unfoldable pub numbers : Sizes → Memory → List Call → List ℕ
  numbers z m [] = []
  numbers z m (c ∷ cs) = (M.call z m c).number ∷ numbers z (M.call z m c).after cs
