-- `Out::put_word_line` meets its contract: its parts are put one after the other.
use Rattle.session_text.specs.Text.{word_line}
use Rattle.session_text.proofs.Laws.{follow}
use Rattle.session_text.proofs.Out.put_word_line.Goals as goal

pub returns : goal.returns
unfolding word_line
returns c = follow (follow c.put_byte.ensures c.put_byte-2.ensures) c.put_line.ensures
