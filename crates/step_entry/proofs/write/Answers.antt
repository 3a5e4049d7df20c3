-- `step_entry::write` meets its contract.
use native.Mathlib.Omega.{arith}
use Rattle.memory.specs.Pieces.{entry}
use Rattle.step_entry.proofs.Parts.{entry_in, few_entries, address_in, write_word}
use Rattle.step_entry.proofs.write.Goals as goal

pub entry_at-entry-requires : goal.entry_at-entry-requires
entry_at-entry-requires c = entry_in c.requires.entered

pub bounds-words-entry : goal.bounds-words-entry
unfolding entry
bounds-words-entry c = rw c.entry_at-entry.ensures (address_in c.requires.entered)

pub overflow_add-result : goal.overflow_add-result
overflow_add-result c = omega (arith, few_entries c.requires.entered)

pub returns : goal.returns
unfolding entry
returns c records places = write_word _ _ _ _ _ c.entry_at-entry.ensures
