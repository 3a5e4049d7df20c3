-- The sets fit where each row's does.
use Rattle.std.proofs.Common.{rules, ◌≡◌, ◌∙◌}
use mathlib.Core.List.{[]}
use borrow.Author.Tests.{tests}
use Rattle.std.specs.List.{list_all}
use Rattle.std.proofs.lemmas.Iterator.{YieldsList-from_slice}
use Rattle.std.proofs.lemmas.Iterator.Search.{all_from_yields_List}
use Rattle.memory.specs.Pieces.{place_of}
use Rattle.table_parts.proofs.Tests.{below-list}
use Rattle.table_lists.specs.Contract.{set_fits}
use Rattle.table_lists.proofs.sets_fit.Goals as goal

pub returns : goal.returns
returns c =
    let told : c.all.result ≡ list_all (λ row. set_fits c.args.asleep (place_of row)) c.args.places.now =
    all_from_yields_List _ _ _ _ c.all.ensures.ran (YieldsList-from_slice c.args.places.now cc) (λ x b q k. search (rules, tests)) in
    told ∙ below-list _ [] _
