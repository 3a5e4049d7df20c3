-- `player::room_for_text` meets its contract: the number in the code is the one that is claimed.
use native.Mathlib.Omega.{arith}
use Rattle.player.proofs.room_for_text.Goals as goal

pub returns : goal.returns
returns c = omega (arith, c.room.ensures)
