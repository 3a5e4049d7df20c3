-- Nobody is on a list where each row says so.
use Rattle.std.proofs.Common.{rules, ◌≡◌, ◌∙◌, Bool, eqb, get_or, refl, ℕ, List, Bor}
use mathlib.Core.List.{[]}
use borrow.Author.Tests.{tests}
use Rattle.std.specs.List.{list_all}
use Rattle.std.proofs.lemmas.Fn.{fold_over}
use Rattle.std.proofs.iter.Yields.{fronts}
use Rattle.std.proofs.lemmas.Iterator.{YieldsList-from_slice}
use Rattle.table_parts.proofs.Tests.{all_more, below-list}
use Rattle.table_lists.proofs.nobody_joins.Goals as goal

abbrev nobody : List ℕ → Bool
nobody row = eqb (get_or row 3 0) 0

pub returns : goal.returns
returns c =
    let told : c.fold.result ≡ list_all nobody c.args.places.now =
    fold_over fronts (λ (row : Bor (List ℕ)). row.now) _ (λ rows b. b ≡ list_all nobody rows) _
    (λ ys a x b q j k. (all_more nobody ys x.now j (search (rules, tests)), search (rules, tests)))
    c.iter.result _ _ _ (YieldsList-from_slice {s = c.iter.result} c.args.places.now cc).runs refl c.fold.ensures.ran in
    told ∙ below-list _ [] _
