-- After k turns the ways may go through the first k tasks.
use native.Mathlib.Numerals.{add-one}
use native.Mathlib.Omega.{arith}
use Rattle.table_leads.proofs.Closed.{closed_none, closed_next}
use Rattle.table_leads.proofs.close.Goals as goal

pub loop-k-init : goal.loop-k-init
loop-k-init c = closed_none _ _

pub loop-k-preserved : goal.loop-k-preserved
loop-k-preserved c =
    let i = c.loop-k.invariant in
    rw add-one (closed_next _ _ _ _ _ (omega arith) i (rw i.long at c.pass_all.ensures))
