-- `sheet_read::Reader::finish` meets its contract: a last line is given its end.
use mathlib.Core.Path.{sym, ◌∙◌}
use Rattle.sheet_read.specs.Shown.{shown}
use Rattle.sheet_read.proofs.Over.{given}
use Rattle.sheet_read.proofs.Reader.finish.Goals as goal

pub returns-in-LineEnds : goal.returns-in-LineEnds
returns-in-LineEnds c =
    let g = given (shown c.args.self) (sym c.is_some.ensures ∙ c.if-is_some.false) (sym c.ending.ensures ∙ c.in-LineEnds.is) in
    rw (← g.0, ← g.1) c.feed.ensures
