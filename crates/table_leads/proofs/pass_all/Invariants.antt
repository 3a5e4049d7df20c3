-- The sets are stored one after the other; those who lead to task k are read before the first is stored.
use lib.ListN.{get_or}
use Rattle.memory.specs.Pieces.{no_tasks}
use Rattle.table_leads.specs.Contract.{through}
use Rattle.table_leads.proofs.Parts.{Part}
use Rattle.table_leads.proofs.pass_all.Given as goal

abbrev pub invariant-loop-set : goal.invariant-loop-set
invariant-loop-set l = Part (λ x. through (get_or l.initial.ways l.k no_tasks) l.k (get_or l.initial.ways x no_tasks)) l.initial.ways l.ways l.set-index
