-- `table_open::open_board` meets its contract: each refusal is the law of that number, and the four fillings make the opened board.
use mathlib.Core.Path.{◌≡◌, sym, ◌∙◌}
use mathlib.Core.Bool.{true}
use Rattle.std.proofs.Common.{rules}
use Rattle.memory.specs.Pieces.{memory, top_version, row_of, row_of_entry}
use Rattle.memory.specs.Logical.{blank}
use Rattle.memory.specs.Sound.{within, sizes_ok}
use Rattle.memory.specs.Numbers.{reply}
use Rattle.table_parts.proofs.Tests.{refused, passed}
use Rattle.table_open.proofs.Opens.{no_size, no_version, no_length, opens}
use Rattle.table_open.proofs.open_board.Goals.{Else-not-in_range, Else-not-sizes_ok}
use Rattle.table_open.proofs.open_board.Goals as goal

sized : (c : Else-not-sizes_ok) → sizes_ok c.args.sizes ≡ true
sized c = passed c.sizes_ok.ensures c.if-not-sizes_ok.false

fits : (c : Else-not-in_range) → within 1 top_version c.args.first ≡ true
fits c = passed c.in_range.ensures c.if-not-in_range.false

pub returns-then-not-sizes_ok : goal.returns-then-not-sizes_ok
returns-then-not-sizes_ok c = rw c.from.ensures (sym (no_size _ _ _ (refused c.sizes_ok.ensures c.if-not-sizes_ok.true)))

pub returns-then-not-in_range : goal.returns-then-not-in_range
returns-then-not-in_range c = rw c.from-then-not-in_range.ensures (sym (no_version _ _ _ (sized (goal.at.returns-then-not-in_range c).Else-not-sizes_ok) (refused c.in_range.ensures c.if-not-in_range.true)))

pub lengths_ok-requires : goal.lengths_ok-requires
lengths_ok-requires c = sized (goal.at.lengths_ok-requires c).Else-not-sizes_ok

pub returns-then-not-lengths_ok : goal.returns-then-not-lengths_ok
returns-then-not-lengths_ok c =
    rw c.from-then-not-lengths_ok.ensures (sym (no_length _ _ _ (sized (goal.at.returns-then-not-lengths_ok c).Else-not-sizes_ok) (fits (goal.at.returns-then-not-lengths_ok c).Else-not-in_range) (refused c.lengths_ok.ensures c.if-not-lengths_ok.true)))

pub returns : goal.returns
unfolding row_of row_of_entry blank
returns c =
    let w = c.fill.ensures.after (λ y k. search rules) in
    let r = c.fill-2.ensures.after (λ y k. search rules) in
    let p = c.fill-3.ensures.after (λ y k. search rules) in
    let e = c.fill-4.ensures.after (λ y k. search rules) in
    rw c.plain.ensures
    ((λ i. reply 0 0 (memory (w i) (r i) (p i) (e i))) ∙ sym (opens _ _ _ (sized (goal.at.returns c).Else-not-sizes_ok) (fits (goal.at.returns c).Else-not-in_range) (passed c.lengths_ok.ensures c.if-not-lengths_ok.false)))
