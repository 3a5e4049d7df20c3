-- `session_fields::number_at` meets its contract: byte by byte, from the highest down.
use Prim.Native.Nat.{◌+◌, ◌*◌, ◌<◌}
use native.Mathlib.Omega.{arith}
use Rattle.session_fields.proofs.Numbers.{none_read, has_room, one_read}
use Rattle.session_fields.proofs.number_at.Goals.{After-from}
use Rattle.session_fields.proofs.number_at.Goals as goal

pub loop-i-init : goal.loop-i-init
loop-i-init c = none_read _ _ _

-- the byte that was read, before the bytes above it
fits : (c : After-from) → c.from.result + 256 * c.loop-i.number < 4294967296
fits c = has_room _ _ _ _ _ _ c.loop-i.invariant c.loop-i-test.true (omega arith) c.requires.0

pub overflow_mul-number : goal.overflow_mul-number
overflow_mul-number c = record { fits = omega (arith, fits c) }

pub overflow_add-number : goal.overflow_add-number
overflow_add-number c = record { fits = fits c }

pub loop-i-preserved : goal.loop-i-preserved
loop-i-preserved c = one_read _ _ _ _ _ _ c.loop-i.invariant c.loop-i-test.true (omega arith) (cc)
