-- `session_show::put_board` meets its contract: the lines of the addresses passed are those of the definition below the address.
use Rattle.session_text.proofs.Laws.{put_none}
use Rattle.session_show.specs.Showing.{word_lines}
use Rattle.session_show.proofs.Passed.{one_more}
use Rattle.session_show.proofs.put_board.Goals as goal

pub loop-address-init : goal.loop-address-init
unfolding word_lines
loop-address-init c = put_none 0 _

pub loop-address-preserved : goal.loop-address-preserved
loop-address-preserved c = one_more _ _ _ _ _ _ _ c.loop-address.invariant c.put_word.ensures
