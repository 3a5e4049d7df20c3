-- The sets are stored one after the other; those who lead to task k are read before the first is stored.
use mathlib.Core.Path.{ap, ◌∙◌}
use lib.ListN.{get_or}
use native.Mathlib.Omega.{arith}
use Rattle.memory.specs.Pieces.{no_tasks}
use Rattle.table_leads.specs.Contract.{through}
use Rattle.table_leads.proofs.Parts.{part_none, part_next}
use Rattle.table_leads.proofs.pass_all.Goals as goal

pub loop-set-init : goal.loop-set-init
loop-set-init c = part_none _ _

pub loop-set-preserved : goal.loop-set-preserved
loop-set-preserved c =
    let i = c.loop-set.invariant in
    part_next _ _ _ _ _ (omega (arith, i.long)) i (c.passed.ensures ∙ ap (through (get_or c.args.ways.now c.args.k no_tasks) c.args.k) (i.rest _ (omega arith)))

pub returns : goal.returns
returns c = let i = c.loop-set.invariant in record { long = i.long; each = λ t h. i.done t (omega (arith, i.long)) }
