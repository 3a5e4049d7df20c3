-- `request_write::write_known` meets its contract: by the entry's old version.
use mathlib.Core.Path.{sym, ap, ◌∙◌}
use Rattle.memory.specs.Numbers.{reply}
use Rattle.request_write.proofs.Stored.{store_8, store_0}
use Rattle.request_write.proofs.write_known.Goals as goal

pub returns-then-at_top : goal.returns-then-at_top
returns-then-at_top c = λ ws rs ps. sym (store_8 _ _ _ _ _ _ _ _ (sym c.at_top.ensures ∙ c.if-at_top.true))

pub returns : goal.returns
returns c = λ ws rs ps. rw c.plain.ensures (ap (reply 0 0) (c.write_run.ensures ws rs ps) ∙ sym (store_0 _ _ _ _ _ _ _ _ (sym c.at_top.ensures ∙ c.if-at_top.false)))
