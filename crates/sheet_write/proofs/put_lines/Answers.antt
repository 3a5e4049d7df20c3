-- `sheet_write::put_lines` meets its contract: at each turn the records put and those of what is left are the whole session.
use Rattle.std.specs.Prelude.{Some, Ok}
use Prim.Native.Nat.{◌+◌, ◌≤◌}
use mathlib.Core.Path.{◌≡◌, refl, sym, ap, ◌∙◌}
use lib.Dec.{eqb}
use lib.ListN as lists
use lib.ListN.{take, drop}
use native.Mathlib.Omega.{arith}
use Rattle.session_split.specs.Session.{record_length, split}
use Rattle.session_split.proofs.Cases.{there}
use Rattle.session_split.proofs.Rest.{part, room}
use Rattle.sheet_write.proofs.Under.{begin, near, at_end, at_fault, turn}
use Rattle.sheet_write.proofs.put_lines.Goals.{After-split_off, In-Ok-Some}
use Rattle.sheet_write.proofs.put_lines.Goals as goal

-- what is handed to the splitter is the part of the session that follows
splits : (c : After-split_off)
    → split (eqb c.loop-kind.lines 0) (drop c.loop-kind.from c.args.session.now) ≡ c.split_off.result
splits c = ap (split (eqb c.loop-kind.lines 0)) (sym (part c.args.session.now c.loop-kind.from)) ∙ sym c.split_off.ensures

-- a record is split off
is_record : (c : In-Ok-Some)
    → split (eqb c.loop-kind.lines 0) (drop c.loop-kind.from c.args.session.now) ≡ Ok (Some c.in-Ok-Some.kind)
is_record c = splits (goal.at.In-Ok-Some c).After-split_off ∙ c.in-Ok-Some.is ∙ ap Ok c.in-Ok-Some.field-0-is

-- it ends within the session
inside : (c : In-Ok-Some) → c.loop-kind.from + record_length c.in-Ok-Some.kind ≤ lists.length c.args.session.now
inside c = room c.args.session.now c.loop-kind.from c.loop-kind.lines c.in-Ok-Some.kind (is_record c)

pub loop-kind-init : goal.loop-kind-init
loop-kind-init c = begin _ _

pub returns-in-Ok-None : goal.returns-in-Ok-None
returns-in-Ok-None c =
    let p = at_end _ _ _ _ _ c.loop-kind.invariant refl (splits (goal.at.returns-in-Ok-None c).After-split_off ∙ c.in-Ok-None.is ∙ ap Ok c.in-Ok-None.field-0-is) in
    (p.0, grind (arith, p.1, c.loop-kind.invariant.put.same))

pub returns-in-Err : goal.returns-in-Err
returns-in-Err c =
    let p = at_fault _ _ _ _ _ c.loop-kind.invariant refl _ (splits (goal.at.returns-in-Err c).After-split_off ∙ c.in-Err.is) in
    (p.0, grind (arith, p.1, c.loop-kind.invariant.put.same))

pub put_line-requires : goal.put_line-requires
put_line-requires c =
    (omega (arith, near _ _ _ _ _ c.loop-kind.invariant refl), ap (take 2) (part c.args.session.now c.loop-kind.from) ∙ (there _ _ _ (is_record (goal.at.put_line-requires c).In-Ok-Some)).marks)

pub overflow_add-from : goal.overflow_add-from
overflow_add-from c = omega (arith, c.record_length-from.ensures, inside (goal.at.overflow_add-from c).In-Ok-Some)

pub overflow_add-lines : goal.overflow_add-lines
overflow_add-lines c = omega (arith, inside (goal.at.overflow_add-lines c).In-Ok-Some, c.loop-kind.invariant.behind)

pub loop-kind-smaller : goal.loop-kind-smaller
loop-kind-smaller c = omega (arith, c.record_length-from.ensures, inside (goal.at.loop-kind-smaller c).In-Ok-Some)

pub loop-kind-preserved : goal.loop-kind-preserved
loop-kind-preserved c =
    rw c.record_length-from.ensures
    (turn _ _ _ _ _ c.loop-kind.invariant _ _ (is_record (goal.at.loop-kind-preserved c).In-Ok-Some)
    (rw (part c.args.session.now c.loop-kind.from) at c.put_line.ensures))
