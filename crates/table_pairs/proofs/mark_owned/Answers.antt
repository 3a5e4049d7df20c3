-- `table_pairs::mark_owned` meets its contract: too early an entry, another owner, or the task's own record.
use mathlib.Core.Path.{refl}
use mathlib.Core.Logic.{inl, inr}
use Rattle.table_pairs.proofs.mark_owned.Goals as goal

pub returns-then-i-from : goal.returns-then-i-from
returns-then-i-from c = inr (inr (c.if-i-from.true, refl))

pub returns-then-records-record : goal.returns-then-records-record
returns-then-records-record c = inl (c.if-i-from.false, c.if-records-record.true, refl)

pub returns-else-records-record : goal.returns-else-records-record
returns-else-records-record c = inr (inl (c.if-records-record.false, refl))
