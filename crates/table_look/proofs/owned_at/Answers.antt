-- `table_look::owned_at` meets its contract: the two searches tell which rule of the definition holds.
use mathlib.Core.Path.{sym, ◌∙◌}
use Rattle.table_look.proofs.Owner.{with_entry, without_entry, finds_beside}
use Rattle.table_look.proofs.owned_at.Goals as goal

pub returns-in-Some : goal.returns-in-Some
returns-in-Some c = c.shown.ensures ∙ with_entry _ _ _ _ _ _ (sym c.find_address.ensures ∙ c.in-Some.is)

pub unwrap-beside-requires : goal.unwrap-beside-requires
unwrap-beside-requires c = finds_beside _ _ _ _ c.requires.1 c.find_record.ensures

pub returns : goal.returns
returns c =
    without_entry _ _ _ _ _ (sym c.find_address.ensures ∙ c.in_default.is) c.unwrap-beside.result
    (sym c.find_record.ensures ∙ c.unwrap-beside.ensures) _ c.shown-2.ensures
