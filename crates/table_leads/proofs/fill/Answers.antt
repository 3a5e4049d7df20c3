-- The sets are stored one after the other.
use native.Mathlib.Omega.{arith}
use Rattle.table_leads.proofs.Parts.{part_none, part_next}
use Rattle.table_leads.proofs.fill.Goals as goal

pub loop-t-init : goal.loop-t-init
loop-t-init c = part_none _ _

pub loop-t-preserved : goal.loop-t-preserved
loop-t-preserved c = let i = c.loop-t.invariant in part_next _ _ _ _ _ (omega (arith, i.long)) i c.from.ensures

pub returns : goal.returns
returns c = let i = c.loop-t.invariant in record { long = i.long; each = λ t h. i.done t (omega arith); rest = λ t h. i.rest t (omega arith) }
