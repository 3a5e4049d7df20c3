-- The lines of the addresses that `put_board` passed, and what one more address adds to them.
use Prim.Native.Nat.{ℕ, ◌+◌, ◌*◌}
use native.Mathlib.Numerals.{add-one}
use native.Mathlib.Omega.{arith}
use Rattle.memory.specs.declared.Sizes.{Sizes}
use Rattle.memory.specs.Pieces.{Memory}
use Rattle.session_text.specs.declared.Out.{Out}
use Rattle.session_text.specs.Out.{Puts}
use Rattle.session_text.proofs.Laws.{follow, wider}
use Rattle.session_show.specs.Showing.{word_line_room, shown, word_lines}

-- the lines of the addresses that were passed
abbrev pub Passed : Sizes → ℕ → Memory → Out → Out → ℕ → Type 0
Passed z v m old out address = Puts (word_line_room * address) old out (word_lines z v m address)

pub one_more : (z : Sizes) (v : ℕ) (m : Memory) (old out new : Out) (address : ℕ)
    → Passed z v m old out address → Puts word_line_room out new (shown z v m address) → Passed z v m old new (address + 1)
unfolding word_lines
one_more z v m old out new address b p = rw (add-one address) (wider (omega arith) (follow b p))
