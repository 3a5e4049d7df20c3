-- `step_meet::version_on` meets its contract: the search finds an entry, since there is one.
use mathlib.Core.Path.{ap, sym, ◌∙◌}
use Rattle.memory.specs.declared.Entry.{Entry}
use Rattle.table_search.proofs.Found.{finds, when_some}
use Rattle.step_meet.proofs.version_on.Goals as goal

pub unwrap-entry-requires : goal.unwrap-entry-requires
unwrap-entry-requires c =
    let f = rw c.run_of-run.ensures at c.find_record.ensures in
    rw (f, finds _ _ c.requires.there)

pub returns : goal.returns
returns c =
    let f = rw c.run_of-run.ensures at c.find_record.ensures in
    ap (λ (e : Entry). e.old.version) (when_some _ _ _ (sym f ∙ c.unwrap-entry.ensures)).1
