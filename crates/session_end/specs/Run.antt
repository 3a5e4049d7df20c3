-- §12.4, §12.5: what a run of records comes to, and how it ends.
pub use Rattle.session_end.specs.declared.Ran.{Ran}
pub use Rattle.session_end.specs.declared.Ran.TheVariants.{Whole, Stopped}
use Rattle.std.specs.Prelude.{ℕ, Some, None, Ok, Err, List, [], ◌++◌, Bool, true, false, ◌||◌, eqb}
use Rattle.memory.specs.Pieces.{Memory}
use Rattle.session_split.specs.Session.{Split, number_of}
use Rattle.session_text.specs.Text.{line}

-- §12.5: the numbers after which nothing more is printed.
abbrev pub stops : ℕ → Bool
stops n = eqb n 2 || eqb n 10 || eqb n 11 || eqb n 12 || eqb n 14

-- What the records of a session come to: the lines, whether none of them stopped the player, and the board that is left.
pub record Run : Type 0 where
  pub lines : List ℕ
  pub whole : Bool
  pub board : Memory

abbrev pub runs : List ℕ → Bool → Memory → Run
runs l w m = record { lines = l; whole = w; board = m }

abbrev pub after : List ℕ → Run → Run
after l r = runs (l ++ r.lines) r.whole r.board

-- §12.4: a record that is refused has its line too. No session ends at a record (`splits_to_the_end`): that case is there because a
-- definition answers for every case of its type.
abbrev pub over : ℕ → Memory → Split → Run
over i m (Ok (Some k)) = runs [] true m
over i m (Err f) = runs (line i (number_of f) 0) false m
over i m (Ok None) = runs [] true m

-- whether no record stopped the player
abbrev pub is_whole : Ran → Bool
is_whole Whole = true
is_whole Stopped = false
