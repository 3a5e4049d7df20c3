-- `sheet_read::Reader::feed` meets its contract: at each byte what was read and the rest of the text are the whole text.
use mathlib.Core.Path.{sym, ◌∙◌}
use native.Mathlib.Omega.{arith}
use Rattle.sheet_read.proofs.Fed.{one_more, all_read, stays}
use Rattle.sheet_read.proofs.Reader.feed.Goals as goal

pub loop-byte-preserved : goal.loop-byte-preserved
loop-byte-preserved c =
    let good = sym c.is_some.ensures ∙ c.if-is_some.false in
    one_more _ _ _ _ _ _ c.loop-byte.invariant _ _ _ c.loop-byte-test.true good c.turn-turn.ensures c.act-next.ensures.0 c.act-next.ensures.1

pub returns-then-is_some : goal.returns-then-is_some
returns-then-is_some c = stays _ _ _ _ _ _ c.loop-byte.invariant (sym c.is_some.ensures ∙ c.if-is_some.true)

pub returns : goal.returns
returns c = all_read _ _ _ _ _ _ c.loop-byte.invariant (omega arith)
