-- `task_descriptor::add_entry` meets its contract: a store in the part that was lent is one in the table.
use native.Mathlib.Numerals.{add-one}
use Rattle.memory.specs.Pieces.{row_of_entry, set_place, set_entry}
use Rattle.task_descriptor.proofs.Runs.{part_stored}
use Rattle.task_descriptor.proofs.add_entry.Goals as goal

pub returns : goal.returns
unfolding set_place set_entry
returns c = λ ws rs.
    let count = c.args.place.count in
    let table = c.args.entries.now in
    let stored = part_stored _ _ table _ count (row_of_entry c.args.entry) c.run_start-start.ensures c.requires.fits c.put_entry.ensures in
    cc (stored, add-one count)
