-- `sheet_write::write` meets its contract: the first pass tells how the session ends and how long its text is, the second writes it.
use Rattle.std.specs.Prelude.{None, Some, Ok, Err}
use Prim.Native.Nat.{ℕ}
use mathlib.Core.Path.{◌≡◌, refl, sym, ◌∙◌}
use mathlib.Core.List.{List}
use lib.ListN.{length}
use Rattle.std.proofs.lemmas.Result.{err_from_is_err_and}
use Rattle.session_marks.specs.declared.Kind.{Kind}
use Rattle.session_split.proofs.Promises.{splits_to_the_end}
use Rattle.session_split.specs.Session.{Split, session}
use Rattle.sheet_text.specs.Answer.{lent}
use Rattle.sheet_text.specs.Write.{text_of, writing_as, writing}
use Rattle.sheet_text.proofs.Lent.{faulty, short, fits}
use Rattle.sheet_write.specs.Contract.{known_by, known}
use Rattle.sheet_write.proofs.write.Goals as goal

-- no session ends in a record
by_end : (text out : List ℕ) (n : ℕ) (e : Split) → ((k : Kind) → e ≡ Ok (Some k) → ⊥) → writing_as text out n e ≡ lent (known_by text n e) text out
by_end text out n (Ok (Some k)) none = absurd (none k refl)
by_end text out n (Ok None) none = refl
by_end text out n (Err f) none = refl

by_known : (s out : List ℕ) → writing s out ≡ lent (known s) (text_of (session s).pieces) out
unfolding writing
by_known s out = by_end _ out (length (session s).pieces) (session s).ended (splits_to_the_end s).0

pub returns-in_err-known : goal.returns-in_err-known
returns-in_err-known c =
    let p = err_from_is_err_and c.from_residual.result c.from_residual.ensures.1 in
    rw (p.1, p.2) (by_known _ _ ∙ faulty _ _ (sym c.in_err-known.was ∙ c.put_lines.ensures.0))

pub returns-then-out-known : goal.returns-then-out-known
returns-then-out-known c = by_known _ _ ∙ short _ _ (sym c.in_ok-known.was ∙ c.put_lines.ensures.0) c.if-out-known.true

pub returns : goal.returns
returns c =
    let is = sym c.in_ok-known.was ∙ c.put_lines.ensures.0 in
    rw (c.put_lines-2.ensures.0, ← is) (by_known _ _ ∙ fits _ _ is c.if-out-known.false c.put_lines-2.ensures.1)
