-- `request_write::write_new` meets its contract: by the entry's old version.
use Prim.Native.Nat.{suc}
use mathlib.Core.Path.{sym, ap, ◌∙◌}
use mathlib.Core.List.{[]}
use native.Mathlib.Omega.{arith}
use Rattle.memory.specs.Pieces.{Memory, set_place, set_entry}
use Rattle.request_write.proofs.Stored.{fewer, store_8, store-grown}
use Rattle.request_write.proofs.write_new.Goals as goal

pub returns-then-at_top : goal.returns-then-at_top
returns-then-at_top c = λ ws rs. sym (store_8 _ _ _ _ _ _ _ _ (sym c.at_top.ensures ∙ c.if-at_top.true))

pub write_run-requires : goal.write_run-requires
unfolding set_place set_entry
write_run-requires c =
    (fewer {n = suc c.args.place.count} (rw (ap (λ (m : Memory). m.entries) (c.add_entry.ensures [] [])) c.requires.0.within) (omega arith), c.requires.1)

pub returns : goal.returns
returns c = λ ws rs.
    rw c.plain.ensures
    (store-grown _ _ _ _ _ _ _ _ _ _ (c.add_entry.ensures ws rs) (c.write_run.ensures ws rs _) (sym c.at_top.ensures ∙ c.if-at_top.false))
