-- The check is the definition: sizes, lengths, tables, lists.
use mathlib.Core.Path.{◌≡◌, sym, ◌∙◌}
use mathlib.Core.List.{[]}
use mathlib.Core.Bool.{◌&&◌}
use Rattle.memory.specs.Pieces.{memory}
use Rattle.memory.specs.Sound.{sizes_ok, lengths_ok}
use Rattle.memory.proofs.Tools.{and_0}
use Rattle.table_parts.proofs.Tests.{and_then, and-stop}
use Rattle.table_walk.specs.Walk.{tables_ok}
use Rattle.table_sound.proofs.Whole.{fit, parts}
use Rattle.table_sound.proofs.is_sound.Goals.{Joined-lengths_ok, Joined-sizes_ok, then-sizes_ok, else-sizes_ok, then-lengths_ok, else-lengths_ok}
use Rattle.table_sound.proofs.is_sound.Goals as goal

-- what the first two answers make, and the first three
two : (c : Joined-sizes_ok) → let a = c.args.board in
    c.if-sizes_ok.value ≡ (sizes_ok a.sizes && lengths_ok a.sizes (memory a.words.now a.records.now a.places.now a.entries.now))
two c =
    let e = c.sizes_ok.ensures in
    elim c.if-sizes_ok.branch [
      | then-sizes_ok w ↦ and_then (sym e ∙ w.if-sizes_ok.true) (w.value-is ∙ w.lengths_ok.ensures)
      | else-sizes_ok w ↦ and-stop _ (sym e ∙ w.if-sizes_ok.false) (w.value-is ∙ e)
    ]

three : (c : Joined-lengths_ok) → let a = c.args.board in
    c.if-lengths_ok.value
    ≡ (sizes_ok a.sizes && lengths_ok a.sizes (memory a.words.now a.records.now a.places.now a.entries.now)
    && tables_ok a.sizes (memory [] a.records.now a.places.now a.entries.now))
three c =
    let e = two (goal.at.Joined-lengths_ok c).Joined-sizes_ok in
    elim c.if-lengths_ok.branch [
      | then-lengths_ok w ↦ and_then (sym e ∙ w.if-lengths_ok.true) (w.value-is ∙ w.room_ok.ensures)
      | else-lengths_ok w ↦ and-stop _ (sym e ∙ w.if-lengths_ok.false) (w.value-is ∙ e)
    ]

pub lengths_ok-requires : goal.lengths_ok-requires
lengths_ok-requires c = sym c.sizes_ok.ensures ∙ c.if-sizes_ok.true

pub room_ok-requires : goal.room_ok-requires
room_ok-requires c = fit _ _ _ _ _ (sym (two (goal.at.room_ok-requires c).Joined-sizes_ok) ∙ c.if-lengths_ok.true)

pub lists_ok-requires : goal.lists_ok-requires
lists_ok-requires c =
    let a = c.args.board in
    let f = fit a.sizes a.words.now a.records.now a.places.now a.entries.now (and_0 _ _ (sym (three (goal.at.lists_ok-requires c).Joined-lengths_ok) ∙ c.if-room_ok.true)) in
    (f.places, f.tasks)

pub returns-then-room_ok : goal.returns-then-room_ok
returns-then-room_ok c = and_then (sym (three (goal.at.returns-then-room_ok c).Joined-lengths_ok) ∙ c.if-room_ok.true) c.lists_ok.ensures ∙ parts _ _ _ _ _

pub returns-else-room_ok : goal.returns-else-room_ok
returns-else-room_ok c = and-stop _ (sym (three (goal.at.returns-else-room_ok c).Joined-lengths_ok) ∙ c.if-room_ok.false) (three (goal.at.returns-else-room_ok c).Joined-lengths_ok) ∙ parts _ _ _ _ _
