-- Two entries on one record, number by number.
use Rattle.std.proofs.Common.{not, refl, ap, eq-eqb, ne_eqb}
use Rattle.table_parts.proofs.Tests.{and_then, and-stop}
use Rattle.memory.specs.Pieces.{entry_of}
use Rattle.table_parts.specs.Parts.{agree}
use Rattle.table_parts.proofs.agree.Goals as goal

pub returns-then-entry-other-2 : goal.returns-then-entry-other-2
unfolding agree entry_of
returns-then-entry-other-2 c = and_then (ap not (ne_eqb _ _ c.if-entry-other.true)) (and_then (eq-eqb _ _ c.if-entry-other-2.true) refl)

pub returns-else-entry-other-2 : goal.returns-else-entry-other-2
unfolding agree entry_of
returns-else-entry-other-2 c = and_then (ap not (ne_eqb _ _ c.if-entry-other.true)) (and-stop _ (ne_eqb _ _ c.if-entry-other-2.false) refl)

pub returns-else-entry-other : goal.returns-else-entry-other
unfolding agree entry_of
returns-else-entry-other c = and-stop _ (ap not (eq-eqb _ _ c.if-entry-other.false)) refl
