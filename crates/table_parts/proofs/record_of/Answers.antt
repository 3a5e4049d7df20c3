-- The quotient by the product, and the rest that it leaves, which is the record.
use Rattle.std.proofs.Common.{◌≡◌, ◌+◌, ◌*◌, ◌/◌, ◌%◌, get_or, mod-lt, arith}
use Rattle.memory.specs.Pieces.{entry_of}
use Rattle.table_parts.proofs.Division.{product_most, rest}
use Rattle.table_parts.proofs.record_of.Goals.{Start}
use Rattle.table_parts.proofs.record_of.Goals as goal

pub overflow_mul-quotient : goal.overflow_mul-quotient
unfolding entry_of
overflow_mul-quotient c = let p = c.requires in omega (arith, product_most p.0 p.1 p.2 p.3)

left : (c : Start) → let a = get_or c.args.entry 0 0 in let n = c.args.sizes.records in a * c.args.by / 4294967296 * n + a % n ≡ a
unfolding entry_of
left c = let p = c.requires in rest p.0 p.1 p.2 p.3

pub overflow_mul-result : goal.overflow_mul-result
unfolding entry_of
overflow_mul-result c = omega (arith, left (goal.at.overflow_mul-result c).Start, c.requires.2)

pub overflow_sub-result : goal.overflow_sub-result
overflow_sub-result c = omega (arith, left (goal.at.overflow_sub-result c).Start)

pub returns : goal.returns
unfolding entry_of
returns c = (omega (arith, left (goal.at.returns c).Start), omega (arith, left (goal.at.returns c).Start, mod-lt (get_or c.args.entry 0 0) c.requires.0))
