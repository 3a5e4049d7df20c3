-- `Out::put_line` meets its contract: its parts are put one after the other.
use Rattle.session_text.specs.Text.{line}
use Rattle.session_text.proofs.Laws.{follow}
use Rattle.session_text.proofs.Out.put_line.Goals as goal

pub returns : goal.returns
unfolding line
returns c =
    follow
    (follow
    (follow (follow (follow c.put_number.ensures c.put_byte.ensures) c.put_number-2.ensures) c.put_byte-2.ensures)
    c.put_number-3.ensures)
    c.put_byte-3.ensures
