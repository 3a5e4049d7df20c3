-- The check is the definition, and where nobody is on a list it has nothing to find.
use mathlib.Core.Path.{sym, ◌∙◌}
use Rattle.table_parts.proofs.Tests.{refused, passed, and_then, and-stop}
use Rattle.table_lists.proofs.Lists.{checked, nobody}
use Rattle.table_lists.proofs.lists_ok.Goals as goal

pub returns-then-nobody_joins : goal.returns-then-nobody_joins
returns-then-nobody_joins c =
    let s = c.requires in
    nobody _ _ s.1 s.0 (sym c.nobody_joins.ensures ∙ c.if-nobody_joins.true)

pub returns-then-not-sets_fit : goal.returns-then-not-sets_fit
returns-then-not-sets_fit c =
    let s = c.requires in
    let e = refused c.sets_fit.ensures c.if-not-sets_fit.true in
    and-stop _ e (sym e) ∙ checked _ _ s.1 s.0 _ c.sleepers.ensures

pub returns : goal.returns
returns c =
    let s = c.requires in
    and_then (passed c.sets_fit.ensures c.if-not-sets_fit.false) c.no_way_back.ensures ∙ checked _ _ s.1 s.0 _ c.sleepers.ensures
