-- The promises of specs/Claims.antt, kept.
use Rattle.session_print.specs.Print.{sizes_asked, first_asked}
use Rattle.session_play.specs.Claims.{ran, PlayedIsReached, WordLinesAreTheBoard, TextIsShort}
use Rattle.session_play.proofs.Reaches.{played, board_is_sound}
use Rattle.session_play.proofs.Short.{short}
use Rattle.session_show.proofs.Shows.{shows}

pub played_is_reached : PlayedIsReached
played_is_reached = played

pub word_lines_are_the_board : WordLinesAreTheBoard
word_lines_are_the_board bytes whole = shows (sizes_asked bytes) (first_asked bytes) (ran bytes).board (board_is_sound bytes whole)

pub text_is_short : TextIsShort
text_is_short = short
