-- All of a set are in another where nobody is left of it without those.
use Rattle.std.proofs.Common.{◌∙◌}
use Rattle.table_lists.proofs.Within.{inside-by}
use Rattle.table_lists.proofs.is_inside.Goals as goal

pub returns : goal.returns
returns c =
    c.is_none.ensures ∙ inside-by _ _ _ c.without.ensures.left c.without.ensures.short.0 c.without.ensures.short.1
