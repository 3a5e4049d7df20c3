-- The sets are filled with those of the places, and then closed.
use Rattle.table_leads.proofs.Closed.{ways_by}
use Rattle.table_leads.proofs.ways.Goals as goal

pub returns : goal.returns
returns c = ways_by _ _ _ _ c.requires.0 c.fill.ensures c.close.ensures.0 c.close.ensures.1
