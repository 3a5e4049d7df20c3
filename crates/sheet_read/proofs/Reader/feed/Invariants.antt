-- `sheet_read::Reader::feed` meets its contract: at each byte what was read and the rest of the text are the whole text.
use Rattle.sheet_read.specs.Shown.{shown}
use Rattle.sheet_read.proofs.Fed.{Fed}
use Rattle.sheet_read.proofs.Reader.feed.Given as goal

abbrev pub invariant-loop-byte : goal.invariant-loop-byte
invariant-loop-byte l = Fed l.text l.initial.out (shown l.initial.next) l.out (shown l.next) l.byte-index
