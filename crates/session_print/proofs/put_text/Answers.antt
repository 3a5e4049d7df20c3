-- `session_print::put_text` meets its contract: a refusal of the first record, or the text on the parts that it asks.
use mathlib.Core.Path.{◌≡◌, sym, ap, ◌∙◌}
use mathlib.Core.Bool.{true}
use lib.Seq.{length-take-le}
use native.Mathlib.Omega.{arith}
use Rattle.std.specs.Prelude.{Option, Some, Ok}
use Rattle.session_marks.specs.declared.Kind.{Kind}
use Rattle.session_fields.specs.Fields.{first_version}
use Rattle.session_split.specs.Session.{split}
use Rattle.session_ask.specs.Asking.{sizes_of}
use Rattle.session_print.proofs.Texts.{refused-text, on_tables, short_enough}
use Rattle.session_print.proofs.Lent.{run_fits, parts_serve}
use Rattle.session_print.proofs.put_text.Goals.{In-Ok-Some}
use Rattle.session_print.proofs.put_text.Goals as goal

-- the first record is split off
opens : (c : In-Ok-Some) → split true c.args.session.now ≡ Ok (Some c.in-Ok-Some.kind)
opens c = sym c.split_off-next.ensures ∙ c.in-Ok-Some.is ∙ ap (λ (o : Option Kind). Ok o) (rw c.in-Ok-Some.is at c.in-Ok-Some.field-0-is)

pub returns-in_default : goal.returns-in_default
returns-in_default c =
    refused-text _ _ (sym c.split_off-next.ensures) (λ k q. grind arith) c.put_end.ensures (omega arith)

pub slice_bounds-run_board-end-7 : goal.slice_bounds-run_board-end-7
slice_bounds-run_board-end-7 c =
    run_fits _ _ _ c.requires.roomy (omega arith) c.run_start-e.ensures

pub slice_bounds-run_board-end-8 : goal.slice_bounds-run_board-end-8
slice_bounds-run_board-end-8 c =
    sym (length-take-le _ _ (run_fits _ _ _ c.requires.roomy (omega arith) c.run_start-e.ensures))

pub run_board-requires : goal.run_board-requires
run_board-requires c = (short_enough _ _ (opens (goal.at.run_board-requires c).In-Ok-Some), c.sizes_of-sizes.ensures.1, c.requires.fresh)

pub returns : goal.returns
returns c =
    on_tables _ _ _ _ _ (opens (goal.at.returns c).In-Ok-Some) (c.sizes_of-sizes.ensures.0 ∙ ap sizes_of c.body-body.ensures)
    (c.first_of-first.ensures ∙ ap first_version c.body-body.ensures)
    (parts_serve _ _ _ _ _ _ _ _ _ c.requires.roomy c.min-w.ensures c.min-r.ensures c.min-t.ensures c.run_start-e.ensures)
    c.run_board.ensures
