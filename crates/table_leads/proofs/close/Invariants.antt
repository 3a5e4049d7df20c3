-- After k turns the ways may go through the first k tasks.
use lib.ListN.{length}
use Rattle.table_leads.proofs.Closed.{Closed}
use Rattle.table_leads.proofs.close.Given as goal

abbrev pub invariant-loop-k : goal.invariant-loop-k
invariant-loop-k l = Closed (length l.initial.ways) l.initial.ways l.ways l.k
