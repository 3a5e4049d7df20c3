-- §12.6, the lines of a board: one for each address that is not as it was opened.
use Rattle.std.specs.Prelude.{ℕ, zero, suc, List, [], ◌++◌, ◌&&◌, eqb, if◌then◌else◌}
use Rattle.memory.specs.declared.Sizes.{Sizes}
use Rattle.memory.specs.Pieces.{Memory}
use Rattle.memory.specs.Requests.{look}
use Rattle.session_text.specs.Text.{word_line}

-- the line of an address, or none if it is as it was opened, by the look-up
unfoldable pub shown : Sizes → ℕ → Memory → ℕ → List ℕ
shown z v m a =
    let l = look z m a in
    if eqb l.value 0 && eqb l.version v then [] else word_line a l.value l.version

-- those of the addresses below n, ascending
unfoldable pub word_lines : Sizes → ℕ → Memory → ℕ → List ℕ
word_lines z v m zero = []
word_lines z v m (suc n) = word_lines z v m n ++ shown z v m n

-- how long such a line can be: three numbers of 32 bits, and two bytes more
abbrev pub word_line_room : ℕ
word_line_room = 35
