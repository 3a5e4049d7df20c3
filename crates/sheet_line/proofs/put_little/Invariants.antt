-- `sheet_line::put_little` meets its contract: the bytes that were passed were put.
use lib.ListN.{take}
use Rattle.session_text.specs.Out.{Puts}
use Rattle.sheet_line.proofs.put_little.Given as goal

abbrev pub invariant-loop-byte : goal.invariant-loop-byte
invariant-loop-byte l = Puts l.byte-index l.initial.out l.out (take l.byte-index l.byte-items)
