-- What the contracts of the code cite besides the run itself.
use Rattle.std.specs.Prelude.{ℕ, ◌≡◌}
use Rattle.memory.specs.Pieces.{Memory}
use Rattle.session_text.specs.declared.Out.{Out}
use Rattle.session_text.specs.Out.{Puts}
use Rattle.session_end.specs.Run.{Run, Ran, is_whole}

-- how long a line can be: three numbers of 32 bits
abbrev pub line_room : ℕ
line_room = 33

-- The lines of a run are put, and the run's end and the board are handed on.
pub record Runs (most : ℕ) (r : Run) (old new : Out) (ran : Ran) (m : Memory) : Type 0 where
  pub lines : Puts most old new r.lines
  pub whole : is_whole ran ≡ r.whole
  pub board : m ≡ r.board
