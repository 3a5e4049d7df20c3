-- `session_run::run_records` meets its contract: at each turn the text printed and the run of what is left are the whole run.
use Prim.Native.Nat.{◌+◌, ◌≤◌}
use mathlib.Core.Path.{◌≡◌, sym, ap, ◌∙◌}
use lib.Dec.{eqb}
use lib.ListN.{length, drop}
use native.Mathlib.Omega.{arith}
use Rattle.std.specs.Prelude.{Option, Some, Ok}
use Rattle.session_marks.specs.declared.Kind.{Kind}
use Rattle.session_split.specs.Session.{body, record_length, split}
use Rattle.session_split.proofs.Rest.{part, room}
use Rattle.session_run.proofs.Under.{begin, finish, halt, turn}
use Rattle.session_run.proofs.run_records.Goals.{After-body-body, After-split_off-next, At-loop-kind, In-Ok-Some}
use Rattle.session_run.proofs.run_records.Goals as goal

-- what is handed to the splitter is the part of the session that follows
splits : (c : After-split_off-next)
    → split (eqb c.loop-kind.index 0) (drop c.loop-kind.from c.args.session.now) ≡ c.split_off-next.result
splits c =
    ap (split (eqb c.loop-kind.index 0)) (sym (part c.args.session.now c.loop-kind.from)) ∙ sym c.split_off-next.ensures

-- a record is split off
is_record : (c : In-Ok-Some)
    → split (eqb c.loop-kind.index 0) (drop c.loop-kind.from c.args.session.now) ≡ Ok (Some c.in-Ok-Some.kind)
is_record c = splits (goal.at.In-Ok-Some c).After-split_off-next ∙ c.in-Ok-Some.is ∙ ap (λ (o : Option Kind). Ok o) (rw c.in-Ok-Some.is at c.in-Ok-Some.field-0-is)

inside : (c : In-Ok-Some)
    → c.loop-kind.from + record_length c.in-Ok-Some.kind ≤ length c.args.session.now
inside c =
    room c.args.session.now c.loop-kind.from c.loop-kind.index c.in-Ok-Some.kind (is_record c)

-- its body is that of the session's own bytes
its_body : (c : After-body-body)
    → c.body-body.result.now ≡ body c.in-Ok-Some.kind (drop c.loop-kind.from c.args.session.now)
its_body c = c.body-body.ensures ∙ ap (body c.in-Ok-Some.kind) (part c.args.session.now c.loop-kind.from)

pub loop-kind-init : goal.loop-kind-init
loop-kind-init c = begin _ _ _ _ _

pub returns-in_default : goal.returns-in_default
returns-in_default c =
    finish _ _ _ _ _ _ _ _ _ c.loop-kind.invariant c.requires.0 (splits (goal.at.returns-in_default c).After-split_off-next) (λ k q. grind arith) (c.put_end.ensures _)

pub returns-then-stops : goal.returns-then-stops
returns-then-stops c =
    halt _ _ _ _ _ _ _ _ _ c.loop-kind.invariant c.requires.0 _ (is_record (goal.at.returns-then-stops c).In-Ok-Some) _ (its_body (goal.at.returns-then-stops c).After-body-body) _ _ _ c.ask-answer.ensures
    _ c.put_line.ensures (sym c.stops.ensures ∙ c.if-stops.true)

pub overflow_add-from : goal.overflow_add-from
overflow_add-from c = record { fits = omega (arith, c.requires, c.record_length-from.ensures, inside (goal.at.overflow_add-from c).In-Ok-Some) }

pub loop-kind-smaller : goal.loop-kind-smaller
loop-kind-smaller c = omega (arith, c.record_length-from.ensures, inside (goal.at.loop-kind-smaller c).In-Ok-Some)

pub loop-kind-preserved : goal.loop-kind-preserved
loop-kind-preserved c =
    rw c.record_length-from.ensures
    (turn _ _ _ _ _ _ _ _ _ c.loop-kind.invariant c.requires.0 _ (is_record (goal.at.loop-kind-preserved c).In-Ok-Some) _ (its_body (goal.at.loop-kind-preserved c).After-body-body) _ _ _ c.ask-answer.ensures
    _ c.put_line.ensures (sym c.stops.ensures ∙ c.if-stops.false))
