-- `session_print::run_board` meets its contract: the lines of the records, and of the board if none stopped the player.
use mathlib.Core.Path.{refl}
use native.Mathlib.Omega.{arith}
use Rattle.session_print.proofs.Texts.{with_board, without_board}
use Rattle.session_print.proofs.run_board.Goals as goal

pub returns-in-Whole : goal.returns-in-Whole
returns-in-Whole c =
    with_board _ _ (rw c.in-Whole.is at c.run_records.ensures) (omega (arith, c.requires)) refl c.put_board.ensures

pub returns-in-Stopped : goal.returns-in-Stopped
returns-in-Stopped c = without_board _ _ (rw c.in-Stopped.is at c.run_records.ensures) (omega arith) refl
