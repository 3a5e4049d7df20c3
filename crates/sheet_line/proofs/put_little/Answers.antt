-- `sheet_line::put_little` meets its contract: the lowest bytes were put, as many as the field is wide.
use native.Mathlib.Omega.{arith}
use Rattle.sheet_line.proofs.Bytes.{put_lowest}
use Rattle.sheet_line.proofs.put_little.Goals as goal

pub returns : goal.returns
returns c = put_lowest c.args.width c.args.number _ _ c.to_le_bytes.ensures c.requires.1 (omega arith) c.loop-byte.invariant
