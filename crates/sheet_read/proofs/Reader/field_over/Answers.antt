-- `sheet_read::Reader::field_over` meets its contract: the end of a field leaves a reader small.
use Rattle.sheet_text.proofs.Small.{small_field}
use Rattle.sheet_read.specs.Shown.{shown}
use Rattle.sheet_read.proofs.Reader.field_over.Goals as goal

pub invariant_of-result : goal.invariant_of-result
invariant_of-result c =
    let over = c.end_field-line.ensures in
    rw (over.0, over.1.put.after, ← c.requires) record { small = small_field (shown c.args.self) c.args.self.small }
