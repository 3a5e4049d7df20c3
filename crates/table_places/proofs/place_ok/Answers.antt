-- A row's tests are those of the definition, one after the other.
use Prim.Native.Nat.{ℕ}
use mathlib.Core.Path.{◌≡◌, refl, sym, ap, ◌∙◌}
use native.Mathlib.Omega.{arith}
use mathlib.Core.Bool as bool
use mathlib.Core.Bool.{Bool, true, not, ◌&&◌, ◌||◌}
use lib.ListN.{length, get_or}
use lib.Dec.{leb, eqb}
use borrow.Author.Rules.{rules}
use borrow.Author.Tests.{eq-eqb, ne_eqb, le-leb, lt-leb}
use Rattle.memory.specs.Pieces.{place_of, position_of, is_idle, limit}
use Rattle.memory.specs.Sound.{place_ok}
use Rattle.memory.proofs.Codes.{is_idle_lem}
use Rattle.table_places.proofs.Rows.{row_ok}
use Rattle.table_places.proofs.place_ok.Goals.{After-code-code, After-is_idle, Else-code-row, Else-limit-count, Else-position-stored, Start, Then-is_idle}
use Rattle.table_places.proofs.place_ok.Goals as goal

four : (c : Start) → length c.args.row ≡ 4
four c = search rules

-- the definition, by what the calls answered
by : (c : After-code-code) {most : ℕ} {idle : Bool} → let a = c.args in let n = get_or a.row 0 0 in let p = c.position-position.result in
    most ≡ limit a.sizes → idle ≡ is_idle c.of-phase.result
    → place_ok a.sizes a.row (place_of a.row)
    ≡ (eqb c.code-code.result (get_or a.row 1 0) && eqb p (get_or a.row 2 0) && leb n most && leb p n && (not idle || eqb n 0))
by c l i =
    let a = c.args in
    row_ok a.sizes a.row (four (goal.at.After-code-code c).Start) refl c.of-phase.ensures
    c.code-code.ensures c.position-position.ensures l i

-- what the tests that were passed say
few : (c : Else-limit-count) → leb (get_or c.args.row 0 0) c.limit.result ≡ true
few c = le-leb _ _ c.if-limit-count.false

same_code : (c : Else-code-row) → eqb c.code-code.result (get_or c.args.row 1 0) ≡ true
same_code c = eq-eqb _ _ c.if-code-row.false

same_position : (c : Else-position-stored) → eqb c.position-position.result (get_or c.args.row 2 0) ≡ true
same_position c = eq-eqb _ _ c.if-position-stored.false

pub returns-then-limit-count : goal.returns-then-limit-count
returns-then-limit-count c = sym (by (goal.at.returns-then-limit-count c).After-code-code c.limit.ensures refl ∙ simp (lt-leb _ _ c.if-limit-count.true, bool.and-false))

pub returns-then-code-row : goal.returns-then-code-row
returns-then-code-row c = sym (by (goal.at.returns-then-code-row c).After-code-code refl refl ∙ simp (ne_eqb _ _ c.if-code-row.true))

pub returns-then-position-stored : goal.returns-then-position-stored
returns-then-position-stored c =
    sym (by (goal.at.returns-then-position-stored c).After-code-code refl refl ∙ simp (same_code (goal.at.returns-then-position-stored c).Else-code-row, ne_eqb _ _ c.if-position-stored.true))

-- the last two tests, by whether the phase is Idle
last : (c : After-is_idle) → place_ok c.args.sizes c.args.row (place_of c.args.row)
    ≡ (leb c.position-position.result (get_or c.args.row 0 0) && (not c.is_idle.result || eqb (get_or c.args.row 0 0) 0))
last c =
    by (goal.at.After-is_idle c).After-code-code c.limit.ensures c.is_idle.ensures ∙ simp (same_code (goal.at.After-is_idle c).Else-code-row, same_position (goal.at.After-is_idle c).Else-position-stored, few (goal.at.After-is_idle c).Else-limit-count)

-- Idle has no position
none : (c : Then-is_idle) → leb c.position-position.result (get_or c.args.row 0 0) ≡ true
none c =
    let e = c.position-position.ensures ∙ ap position_of (is_idle_lem c.of-phase.result (sym c.is_idle.ensures ∙ c.if-is_idle.true)) in
    le-leb c.position-position.result (get_or c.args.row 0 0) (omega (arith, e))

pub returns-then-is_idle : goal.returns-then-is_idle
returns-then-is_idle c = sym (last (goal.at.returns-then-is_idle c).After-is_idle ∙ simp (c.if-is_idle.true, none c))

pub returns : goal.returns
returns c = sym (last (goal.at.returns c).After-is_idle ∙ simp (c.if-is_idle.false, bool.and-true))
