-- `sheet_read::read` meets its contract, by what the first pass learns.
use Prim.Native.Nat.{ℕ}
use mathlib.Core.Path.{◌≡◌, refl, sym, ◌∙◌}
use mathlib.Core.List.{List}
use Rattle.std.proofs.lemmas.Result.{err_from_is_err_and}
use Rattle.sheet_text.specs.Answer.{lent}
use Rattle.sheet_text.specs.Read.{known, read_of, session_of, reading}
use Rattle.sheet_text.proofs.Lent.{faulty, short, fits}
use Rattle.sheet_read.proofs.read.Goals as goal

by_known : (text out : List ℕ) → reading text out ≡ lent (known (read_of text)) (session_of text) out
unfolding reading
by_known text out = refl

pub returns-in_err-known : goal.returns-in_err-known
returns-in_err-known c =
    let p = err_from_is_err_and c.from_residual.result c.from_residual.ensures.1 in
    rw (p.1, p.2) (by_known _ _ ∙ faulty _ _ (sym c.in_err-known.was ∙ c.read_into.ensures.0))

pub returns-then-out-known : goal.returns-then-out-known
returns-then-out-known c = by_known _ _ ∙ short _ _ (sym c.in_ok-known.was ∙ c.read_into.ensures.0) c.if-out-known.true

pub returns : goal.returns
returns c =
    let is = sym c.in_ok-known.was ∙ c.read_into.ensures.0 in
    rw (c.read_into-2.ensures.0, ← is) (by_known _ _ ∙ fits _ _ is c.if-out-known.false c.read_into-2.ensures.1)
