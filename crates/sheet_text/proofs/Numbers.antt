-- Which numbers refuse: what refuses a text or a session is told by neither 0 nor 35; and what refuses rows by the number of the rows.
use Rattle.std.specs.Prelude.{Option, None, Some, if◌then◌else◌}
use Rattle.std.specs.Option.{option_or}
use Prim.Native.Nat.{ℕ, ◌+◌, ◌<◌}
use mathlib.Core.Path.{◌≡◌, refl, ◌∙◌}
use mathlib.Core.List.{List, [], ◌∷◌}
use mathlib.Core.Bool.{Bool, true, false, not}
use lib.Dec.{ltb, eqb}
use lib.ListN.{length}
use native.Mathlib.Omega.{arith}
use borrow.Author.Tests.{ne_eqb}
use Rattle.session_marks.specs.declared.Kind.{Kind}
use Rattle.session_fields.specs.Fields.{widths}
use Rattle.session_split.specs.Session.{most_bytes, encoded}
use Rattle.session_split.specs.Session as split
use Rattle.session_split.specs.declared.Fault.{Fault}
use Rattle.session_split.specs.declared.Fault.TheVariants as fault
use Rattle.sheet_text.specs.Answer.{TextFault, BadQuoting, WrongCount, WrongField, UnknownMark, TooLong, text_number, told}
use Rattle.sheet_text.specs.Rows.{Cell, Row, kind_of_content, contents_fit, asked, row_fault_of, row_fault, pieces_of, rows_fault, row_number_of, row_number, rows_number}

pub of_text : (f : TextFault) → (0 < text_number f) × (text_number f < 35)
of_text BadQuoting = (omega arith, omega arith)
of_text WrongCount = (omega arith, omega arith)
of_text WrongField = (omega arith, omega arith)
of_text UnknownMark = (omega arith, omega arith)
of_text TooLong = (omega arith, omega arith)

pub of_session : (f : Fault) → (0 < split.number_of f) × (split.number_of f < 35)
of_session fault.UnknownMark = (omega arith, omega arith)
of_session fault.CutShort = (omega arith, omega arith)
of_session fault.Misplaced = (omega arith, omega arith)
of_session fault.TooLong = (omega arith, omega arith)

-- Rows -------------------------------------------------------------------------------------------------------------------------------

row-numbered : (m : Option Kind) (cs : List Cell) → told (row_fault_of m cs) ≡ row_number_of m cs
row-numbered None cs = refl
row-numbered (Some k) cs = go (eqb (length cs) (asked k)) (contents_fit (widths k) cs)
  where
    go : (enough fit : Bool)
        → told (if not enough then Some WrongCount else if not fit then Some WrongField else None)
        ≡ (if not enough then 31 else if not fit then 32 else 0)
    go false fit = refl
    go true false = refl
    go true true = refl

pub rows_numbered : (rows : List Row) (n : ℕ) → told (rows_fault n rows) ≡ rows_number n rows
unfolding rows_fault rows_number row_fault row_number
rows_numbered [] n = refl
rows_numbered (r ∷ rs) n = rw (← row-numbered (kind_of_content r.first.content) r.others) (go (row_fault r) (ltb most_bytes m) (rows_numbered rs m))
  where
    m : ℕ
    m = n + length (encoded (pieces_of (r ∷ [])))

    go : (f : Option TextFault) (long : Bool) → told (rows_fault m rs) ≡ rows_number m rs
        → told (option_or f (if long then Some TooLong else rows_fault m rs))
        ≡ (if not (eqb (told f) 0) then told f else if long then 34 else rows_number m rs)
    go (Some f) long later = rw (ne_eqb (text_number f) 0 (λ e. omega (arith, (of_text f).0)))
    go None true later = refl
    go None false later = later

-- rows whose number is 0 are good
pub zero_good : (rows : List Row) → rows_number 0 rows ≡ 0 → rows_fault 0 rows ≡ None
zero_good rows zero = go (rows_fault 0 rows) (rows_numbered rows 0 ∙ zero)
  where
    go : (f : Option TextFault) → told f ≡ 0 → f ≡ None
    go None e = refl
    go (Some f) e = absurd (omega (arith, (of_text f).0))
