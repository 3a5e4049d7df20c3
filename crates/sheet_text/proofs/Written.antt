-- What is promised of writing (specs/Claims.antt), proved: the text is rows, it is read back, and it is short.
use Rattle.std.specs.Prelude.{None, Some}
use Prim.Native.Nat.{ℕ, ◌+◌, ◌*◌, ◌≤◌}
use mathlib.Core.Path.{◌≡◌, refl, ap, ◌∙◌}
use mathlib.Core.List.{List, [], ◌∷◌, ◌++◌, map, append_assoc, append-nil}
use mathlib.Core.Bool.{true}
use lib.ListN.{length, take, length-append}
use lib.Seq.{take-length}
use native.Mathlib.Omega.{arith}
use borrow.Author.Tests.{le-ltb, eq-eqb}
use Rattle.memory.proofs.Tools.{and_make}
use Rattle.session_marks.specs.Marks.{mark}
use Rattle.session_marks.specs.declared.Kind.{Kind}
use Rattle.session_marks.proofs.Marks.{known, two_long}
use Rattle.session_fields.specs.Fields.{widths}
use Rattle.session_fields.proofs.Table.{every}
use Rattle.session_split.specs.Session.{Piece, most_bytes, session, encoded}
use Rattle.session_split.proofs.Promises.{split_keeps_the_bytes}
use Rattle.sheet_text.specs.Turn.{return, newline}
use Rattle.sheet_text.specs.Rows.{Row, all_plain, all_bare, row_ok, rows_ok, cell_text, row_text, rows_text, kind_of_content, asked, row_fault, body_of, piece_as, pieces_of, rows_fault}
use Rattle.sheet_text.specs.Write.{line_text, text_of}
use Rattle.sheet_text.specs.Claims.{WrittenIsRows, GoodRowsAreRead, WrittenIsReadBack, WrittenIsShort}
use Rattle.sheet_text.proofs.Asked.{same, as_asked, four_asked, all_asked}
use Rattle.sheet_text.proofs.WrittenCells.{bare, cells, Written, cells_written, cells_length, fields_are}
use Rattle.sheet_text.proofs.Pieces.{Whole, AllWhole, session-whole, ended-whole, ended-fits}

-- the row of a record
abbrev row_of : Piece → Row
row_of p = record { first = bare (mark p.kind); others = cells (take (asked p.kind) (widths p.kind)) p.body }

-- Of every mark, and of every row of the table of widths.
mark-known : (k : Kind) → kind_of_content (mark k) ≡ Some k
unfolding kind_of_content
mark-known k = rw two_long (rw append-nil at (known k []))

mark-plain : (k : Kind) → all_plain (mark k) ≡ true
mark-plain = every (λ k. all_plain (mark k)) refl

asked-length : (k : Kind) → length (take (asked k) (widths k)) ≡ asked k
asked-length = same (λ k. length (take (asked k) (widths k))) asked refl

-- One record.
module _ (p : Piece) (h : Whole p) where
  written : Written (asked p.kind) (widths p.kind) p.body
  written = cells_written (asked p.kind) (widths p.kind) p.body h.bytes (omega (arith, h.length, all_asked p.kind))

  body_back : body_of (widths p.kind) (row_of p).others ≡ p.body
  body_back = written.back ∙ rw (all_asked p.kind, ← h.length) (take-length p.body)

  row_good : row_fault (row_of p) ≡ None
  unfolding row_fault
  row_good =
      let count : length (row_of p).others ≡ asked p.kind =
      cells_length (take (asked p.kind) (widths p.kind)) p.body ∙ asked-length p.kind in
      rw (mark-known p.kind, eq-eqb _ _ count, written.fit)

  row_pieces : piece_as (kind_of_content (mark p.kind)) (row_of p).others ≡ p ∷ []
  row_pieces = rw (mark-known p.kind, body_back)

  row_ok_lem : row_ok (row_of p) ≡ true
  row_ok_lem = and_make (mark-plain p.kind) written.ok

line_row : (p : Piece) → line_text p ≡ row_text (row_of p) ++ (return ∷ newline ∷ [])
unfolding line_text row_text cell_text
line_row p = rw (as_asked p.kind, fields_are p.kind p.body (asked p.kind) (four_asked p.kind))

line_short : (p : Piece) → Whole p → length (line_text p) ≤ 4 * length (mark p.kind ++ p.body)
unfolding row_text cell_text
line_short p h =
    rw (line_row p)
    (simp length-append (omega (arith, two_long p.kind, four_asked p.kind, all_asked p.kind, h.length, (written p h).short)))

-- All records.
abbrev rows_of : List Piece → List Row
rows_of ps = map row_of ps

text_rows : (ps : List Piece) → text_of ps ≡ rows_text (rows_of ps)
unfolding text_of rows_text
text_rows [] = refl
text_rows (p ∷ ps) = rw (line_row p, append_assoc, text_rows ps)

rows_bare : (ps : List Piece) → AllWhole ps → all_bare (rows_of ps) ≡ true
rows_bare [] h = refl
rows_bare (p ∷ ps) h = and_make (written p h.0).bare (rows_bare ps h.1)

rows_ok_lem : (ps : List Piece) → AllWhole ps → rows_ok (rows_of ps) ≡ true
rows_ok_lem [] h = refl
rows_ok_lem (p ∷ ps) h = and_make (row_ok_lem p h.0) (rows_ok_lem ps h.1)

rows_pieces : (ps : List Piece) → AllWhole ps → pieces_of (rows_of ps) ≡ ps
unfolding pieces_of
rows_pieces [] h = refl
rows_pieces (p ∷ ps) h = rw (row_pieces p h.0, rows_pieces ps h.1)

rows_good : (n : ℕ) (ps : List Piece) → AllWhole ps → n + length (encoded ps) ≤ most_bytes → rows_fault n (rows_of ps) ≡ None
unfolding rows_fault
rows_good n [] h fits = refl
rows_good n (p ∷ ps) h fits =
    let longer : ℕ = n + length (encoded (p ∷ [])) in
    let room : longer + length (encoded ps) ≤ most_bytes =
    omega (arith, ap length (append-nil (mark p.kind ++ p.body)), length-append (mark p.kind ++ p.body) (encoded ps)) in
    rw (row_good p h.0, rows_pieces (p ∷ []) (h.0, tt), le-ltb most_bytes longer (omega arith)) (rows_good longer ps h.1 room)

rows_short : (ps : List Piece) → AllWhole ps → length (text_of ps) ≤ 4 * length (encoded ps)
unfolding text_of
rows_short [] h = omega arith
rows_short (p ∷ ps) h =
    rw (length-append (line_text p) (text_of ps), length-append (mark p.kind ++ p.body) (encoded ps))
    (omega (arith, line_short p h.0, rows_short ps h.1))

-- The promises.
pub written_is_short : WrittenIsShort
written_is_short bytes h =
    let s = session bytes in
    omega (arith, rows_short s.pieces (session-whole bytes h), simp length-append at (ap length (split_keeps_the_bytes bytes)))

pub written_is_rows : WrittenIsRows
written_is_rows bytes h e =
    let ps = (session bytes).pieces in
    let all = session-whole bytes h in
    record {
      rows = rows_of ps;
      is = text_rows ps;
      bare = rows_bare ps all;
      ok = rows_ok_lem ps all;
      good = rows_good 0 ps all (omega (arith, ap length (ended-whole bytes e), ended-fits bytes e));
      records = rows_pieces ps all;
    }

pub written_is_read_back : GoodRowsAreRead → WrittenIsReadBack
written_is_read_back read bytes h e =
    let w = written_is_rows bytes h e in
    let r = read w.rows w.ok w.good in
    rw w.is (r.good, r.bytes ∙ rw w.records (ended-whole bytes e))
