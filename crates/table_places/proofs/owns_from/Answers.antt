-- The first entry is that of the phase that the row tells.
use Rattle.table_places.specs.Places.{owns_from}
use Rattle.table_places.proofs.owns_from.Goals as goal

pub returns : goal.returns
unfolding owns_from
returns c = cc
