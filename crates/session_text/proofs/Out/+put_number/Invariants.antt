-- The number that is still to be put becomes smaller.
use Rattle.session_text.proofs.Out.+put_number.Given as goal

abbrev pub decreases-put_number : goal.decreases-put_number
decreases-put_number l = l.n
