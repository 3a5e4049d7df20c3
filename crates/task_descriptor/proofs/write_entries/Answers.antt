-- `task_descriptor::write_entries` meets its contract: each row is lent, and the next one is as it was before.
use Prim.Native.Nat.{◌≤◌}
use mathlib.Core.Path.{◌≡◌, ap, ◌∙◌, subst⁻¹}
use lib.ListN.{take-append-drop}
use lib.Seq.{length-take-le}
use native.Mathlib.Omega.{arith}
use borrow.Author.Rules.{rules}
use Rattle.memory.specs.declared.Entry.{Entry}
use Rattle.memory.specs.Pieces.{entry_of, top_version}
use Rattle.memory.specs.Requests.{written}
use Rattle.task_descriptor.specs.Contract.{rewritten}
use Rattle.task_descriptor.proofs.Runs.{next_row, next_more}
use Rattle.task_descriptor.proofs.write_entries.Goals as goal

pub loop-row-init : goal.loop-row-init
unfolding rewritten
loop-row-init c = take-append-drop c.args.n c.args.run.now

pub written-requires : goal.written-requires
written-requires c =
    let long = length-take-le c.args.n c.args.run.now c.requires.0 in
    let bound = c.requires.2 c.loop-row.row-index (omega arith) in
    let same = c.from-entry.ensures ∙ ap entry_of (next_row _ _ _ _ c.loop-row.row-index (omega arith) c.loop-row.invariant) in
    (search rules, subst⁻¹ (λ (e : Entry). e.old.version ≤ top_version) same bound)

pub loop-row-preserved : goal.loop-row-preserved
loop-row-preserved c =
    let entry = c.written.ensures ∙ ap (written _ _ _) c.from-entry.ensures in
    rw c.from.ensures (next_more _ _ _ _ c.loop-row.row-index (omega arith) c.loop-row.invariant _ entry)

pub returns : goal.returns
returns c =
    let long = length-take-le c.args.n c.args.run.now c.requires.0 in
    let all : c.loop-row.row-index ≡ c.args.n = omega arith in
    c.loop-row.invariant ∙ ap (rewritten _ _) all
