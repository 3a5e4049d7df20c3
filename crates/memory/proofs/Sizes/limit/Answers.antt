-- `Sizes::limit` meets its contract.
use borrow.Author.Rules.{rules}
use Rattle.memory.specs.Pieces.{limit}
use Rattle.memory.proofs.Sizes.limit.Goals as goal

pub returns : goal.returns
unfolding limit
returns c = search rules
