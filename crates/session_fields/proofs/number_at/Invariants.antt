-- `session_fields::number_at` meets its contract: byte by byte, from the highest down.
use Rattle.session_fields.proofs.Numbers.{Above}
use Rattle.session_fields.proofs.number_at.Given as goal

abbrev pub invariant-loop-i : goal.invariant-loop-i
invariant-loop-i l = Above l.width l.at l.body l.i l.number
