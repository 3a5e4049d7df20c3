-- `table_search::find_address` meets its contract: the rows are searched as the entries are, the newest first.
use Rattle.std.proofs.Common.{rules, ◌≡◌, ◌∙◌}
use borrow.Author.Tests.{tests}
use Rattle.std.proofs.lemmas.Iterator.Adapters.{YieldsList-from_rev_slice}
use Rattle.std.proofs.lemmas.Iterator.Search.{find_from_yields_List}
use Rattle.std.specs.Option.{option_map}
use Rattle.memory.specs.Pieces.{entry_of}
use Rattle.memory.specs.Logical.{index_of}
use Rattle.table_search.proofs.Search.{newest_read}
use Rattle.table_search.proofs.find_address.Goals as goal

pub returns : goal.returns
unfolding index_of entry_of
returns c =
    let read : c.map.result ≡ option_map (λ row. entry_of row.now) c.find-row.result = search rules in
    read ∙ newest_read _ _ _ (find_from_yields_List _ _ _ _ c.find-row.ensures.ran (YieldsList-from_rev_slice c.args.run.now cc) (λ x b q k. search (rules, tests)))
