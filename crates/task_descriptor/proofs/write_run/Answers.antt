-- `task_descriptor::write_run` meets its contract: what is rewritten in the part that was lent is rewritten in the table.
use Prim.Native.Nat.{◌≤◌}
use mathlib.Core.Path.{subst⁻¹}
use mathlib.Core.List.{[]}
use native.Mathlib.Omega.{arith}
use Rattle.memory.specs.declared.Entry.{Entry}
use Rattle.memory.specs.Pieces.{memory, entry, top_version}
use Rattle.task_descriptor.proofs.Runs.{lent_length, lent-entry, part_rewritten}
use borrow.Author.Rules.{rules}
use Rattle.task_descriptor.proofs.write_run.Goals as goal

pub write_entries-requires : goal.write_entries-requires
unfolding entry
write_entries-requires c =
    let table = memory [] [] [] c.args.entries.now in
    let w = c.requires.0 in (
      omega (arith, lent_length _ table _ _ c.run_start-start.ensures, w.fits),
      search rules,
      λ i h. subst⁻¹ (λ (e : Entry). e.old.version ≤ top_version) (lent-entry _ table _ _ c.run_start-start.ensures i) (w.low i h),
    )

pub returns : goal.returns
returns c = λ ws rs ps.
    part_rewritten _ (memory ws rs ps c.args.entries.now) _ _ _ _ _ c.run_start-start.ensures (omega (arith, c.requires.0.fits)) c.write_entries.ensures
