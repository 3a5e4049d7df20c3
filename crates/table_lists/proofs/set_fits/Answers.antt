-- An empty set fits; another if all in it sleep, by the phase.
use Rattle.std.proofs.Common.{sym, ap, ◌∙◌, eqb, get_or, ◌≡◌}
use Rattle.memory.specs.declared.set.TaskSet.{TaskSet}
use Rattle.memory.specs.Pieces.{place_of}
use Rattle.table_lists.specs.Contract.{set_fits}
use Rattle.table_lists.proofs.set_fits.Goals.{After-is_none}
use Rattle.table_lists.proofs.set_fits.Goals as goal

-- the answer about the row's own set
empty : (c : After-is_none) → c.is_none.result ≡ eqb (get_or c.args.row 3 0) 0
empty c = c.is_none.ensures ∙ ap (λ (s : TaskSet). eqb s.bits 0) c.from-joins.ensures

pub returns-then-is_none : goal.returns-then-is_none
unfolding set_fits place_of
returns-then-is_none c = rw (sym (empty (goal.at.returns-then-is_none c).After-is_none) ∙ c.if-is_none.true) c.if-is_none.true

pub returns-then-is_inside : goal.returns-then-is_inside
unfolding set_fits place_of
returns-then-is_inside c =
    rw (sym (empty (goal.at.returns-then-is_inside c).After-is_none) ∙ c.if-is_none.false, ← c.from-joins.ensures, sym c.is_inside.ensures ∙ c.if-is_inside.true)
    (c.may_join.ensures ∙ rw c.from.ensures)

pub returns-else-is_inside : goal.returns-else-is_inside
unfolding set_fits place_of
returns-else-is_inside c =
    rw (sym (empty (goal.at.returns-else-is_inside c).After-is_none) ∙ c.if-is_none.false, ← c.from-joins.ensures, sym c.is_inside.ensures ∙ c.if-is_inside.false)
    c.if-is_inside.false
