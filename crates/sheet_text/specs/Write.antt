-- §18.10: a session written as text, and what writing it answers.
use Rattle.std.specs.Prelude.{ℕ, zero, suc, None, Some, Ok, Err, List, [], ◌∷◌, ◌++◌, eqb, length, if◌then◌else◌}
use Rattle.session_marks.specs.Marks.{mark}
use Rattle.session_marks.specs.declared.Kind.{Kind}
use Rattle.session_fields.specs.Fields.{width, number}
use Rattle.session_split.specs.Session.{Split, Piece, session}
use Rattle.session_text.specs.Text.{digits}
use Rattle.sheet_text.specs.Turn.{comma, return, newline}
use Rattle.sheet_text.specs.Line.{numbers_of}
use Rattle.sheet_text.specs.Answer.{Session, Answer, wrote, refused, lent}

-- a field: its number, or nothing if it is not used
unfoldable pub field_text : Kind → ℕ → List ℕ → List ℕ
field_text k i body = comma ∷ (if eqb (width k i) 0 then [] else digits (number k i body))

unfoldable pub fields_text : Kind → ℕ → List ℕ → List ℕ
fields_text k zero body = []
fields_text k (suc n) body = fields_text k n body ++ field_text k n body

-- the line of a record
unfoldable pub line_text : Piece → List ℕ
line_text p = mark p.kind ++ fields_text p.kind (numbers_of p.kind) p.body ++ (return ∷ newline ∷ [])

unfoldable pub text_of : List Piece → List ℕ
text_of [] = []
text_of (p ∷ ps) = line_text p ++ text_of ps

-- What is answered, and what the buffer holds then. A fault of the session is answered by its number (§11.6).
abbrev pub writing_as : List ℕ → List ℕ → ℕ → Split → Answer × List ℕ
writing_as text out n (Err f) = lent (refused (Session f) n) text out
writing_as text out n (Ok (Some k)) = (wrote 0 n, out)
writing_as text out n (Ok None) = lent (wrote (length text) n) text out

unfoldable pub writing : List ℕ → List ℕ → Answer × List ℕ
writing bytes out = let s = session bytes in writing_as (text_of s.pieces) out (length s.pieces) s.ended
