-- Whether task k is in the set decides.
use mathlib.Core.Path.{sym, ◌∙◌}
use Rattle.table_leads.specs.Contract.{through}
use Rattle.table_leads.proofs.passed.Goals as goal

pub returns-then-has : goal.returns-then-has
unfolding through
returns-then-has c = rw (c.with_all.ensures, sym c.has.ensures ∙ c.if-has.true)

pub returns-else-has : goal.returns-else-has
unfolding through
returns-else-has c = rw (sym c.has.ensures ∙ c.if-has.false)
