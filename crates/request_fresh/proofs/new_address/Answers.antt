-- `request_fresh::new_address` meets its contract: what was looked up and found beside it is what the definitions look at.
use Prim.Native.Nat.{◌<◌}
use mathlib.Core.Path.{◌≡◌, sym, ◌∙◌}
use mathlib.Core.Bool.{false}
use lib.Dec.{leb}
use Rattle.std.proofs.lemmas.Bool.{le-leb, lt-leb}
use Rattle.memory.specs.Lent.{lent}
use Rattle.memory.specs.Pieces.{limit}
use Rattle.memory.specs.Requests.{overtaken}
use Rattle.request_fresh.specs.Contract.{new_entry}
use Rattle.request_fresh.proofs.Beside.{overtaken-by, fresh-by}
use Rattle.request_fresh.proofs.new_address.Goals.{After-is_overtaken-overtaken}
use Rattle.request_fresh.proofs.new_address.Goals as goal

not_full : (o : After-is_overtaken-overtaken) → o.args.count < o.limit.result → leb (limit o.args.sound.board.sizes) o.args.count ≡ false
not_full o h = lt-leb _ _ (rw o.limit.ensures at h)

overtakes : (o : After-is_overtaken-overtaken)
    → o.is_overtaken-overtaken.result ≡ overtaken o.args.sound.board.sizes (lent o.args.sound.board) o.args.task o.args.address
overtakes o =
    o.is_overtaken-overtaken.ensures
    ∙ overtaken-by _ (lent o.args.sound.board) _ _ _ o.requires.2 _ o.logical-seen.ensures _ (rw o.run_of-run.ensures at o.entry_beside-beside.ensures)

pub returns-then-full : goal.returns-then-full
unfolding new_entry
returns-then-full c = sym (rw (le-leb (limit c.args.sound.board.sizes) c.args.count (rw c.limit.ensures at c.if-full.true)))

pub returns-then-overtaken : goal.returns-then-overtaken
unfolding new_entry
returns-then-overtaken c =
    let o = (goal.at.returns-then-overtaken c).After-is_overtaken-overtaken in
    sym (rw (not_full o c.if-full.false, ← overtakes o, c.if-overtaken.true))

pub returns : goal.returns
unfolding new_entry
returns c =
    let o = (goal.at.returns c).After-is_overtaken-overtaken in
    let made = c.fresh.ensures ∙ fresh-by _ (lent c.args.sound.board) _ _ _ c.requires.2 _ c.logical-seen.ensures _ (rw c.run_of-run.ensures at c.entry_beside-beside.ensures) in
    sym (rw (not_full o c.if-full.false, ← overtakes o, c.if-overtaken.false, made))
