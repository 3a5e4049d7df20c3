-- One more than the quotient fits.
use Rattle.std.proofs.Common.{arith}
use Rattle.table_parts.proofs.Division.{inverse_most}
use Rattle.table_parts.proofs.inverse_of.Goals as goal

pub overflow_add-result : goal.overflow_add-result
overflow_add-result c = omega (arith, inverse_most c.requires.0)
