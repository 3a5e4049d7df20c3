-- `table_pairs::hold_against` meets its contract: no entry on the record yet, an address above `top`, or one that has to be compared.
use mathlib.Core.Path.{refl, ap}
use mathlib.Core.Logic.{inl, inr}
use mathlib.Core.Bool.{not}
use native.Mathlib.Omega.{arith}
use Rattle.memory.specs.Pieces.{entry_of}
use Rattle.table_pairs.proofs.hold_against.Goals as goal

pub returns-then-seen-base : goal.returns-then-seen-base
returns-then-seen-base c = (omega arith, inl record { none = c.if-seen-base.true; good = refl; same = refl })

pub offset_bounds-run-at : goal.offset_bounds-run-at
offset_bounds-run-at c = omega (arith, c.requires.2 c.if-seen-base.false)

pub bounds-run-at : goal.bounds-run-at
bounds-run-at c = omega (arith, c.requires.2 c.if-seen-base.false)

pub returns-then-top-entry : goal.returns-then-top-entry
unfolding entry_of
returns-then-top-entry c = (
  omega arith,
  inr record {
    some = c.if-seen-base.false;
    versions = ap not c.agree-good.ensures;
    raised = omega (arith, c.max-top.ensures);
    covers = omega (arith, c.max-top.ensures);
    pairs = inr c.if-top-entry.true;
  },
)

pub returns : goal.returns
unfolding entry_of
returns c = (
  omega arith,
  inr record {
    some = c.if-seen-base.false;
    versions = ap not c.agree-good.ensures;
    raised = omega (arith, c.max-top.ensures);
    covers = omega (arith, c.max-top.ensures);
    pairs = inl (omega arith);
  },
)
