-- A text as RFC 4180 tells it: rows of fields, each bare or in quotes; and what a row asks for, by the content of its fields (§18.5 to
-- §18.8). The claims are made of these, and not of the reader.
use Rattle.std.specs.Prelude.{ℕ, ◌+◌, ◌*◌, ◌-◌, ◌^◌, Option, None, Some, List, [], ◌∷◌, ◌++◌, Bool, true, not, ◌&&◌, ◌||◌, ltb, eqb, length, if◌then◌else◌}
use Rattle.std.specs.Option.{option_or}
use Rattle.session_marks.specs.Marks.{kind_at}
use Rattle.session_marks.specs.declared.Kind.{Kind}
use Rattle.session_marks.specs.declared.Kind.TheVariants.{Open, Start, Commit, Abort, Wait, Step, Read, Write}
use Rattle.session_fields.specs.Fields.{widths}
use Rattle.session_split.specs.Session.{Piece, piece, most_bytes, encoded}
use Rattle.sheet_text.specs.Turn.{quote, comma, return, newline}
use Rattle.sheet_text.specs.Line.{little}
use Rattle.sheet_text.specs.Answer.{TextFault, WrongCount, WrongField, UnknownMark, TooLong}

-- How a text is written ------------------------------------------------------------------------------------------------------------

-- a field: its content, and whether it stands in quotes
pub record Cell : Type 0 where
  pub quoted : Bool
  pub content : List ℕ

-- a row: its first field and the others
pub record Row : Type 0 where
  pub first : Cell
  pub others : List Cell

-- neither quote, comma, CR nor LF
abbrev pub plain : ℕ → Bool
plain b = not (eqb b quote) && (not (eqb b comma) && (not (eqb b return) && not (eqb b newline)))

abbrev pub all_plain : List ℕ → Bool
all_plain [] = true
all_plain (b ∷ bs) = plain b && all_plain bs

-- a field without quotes has none of these in it
abbrev pub cell_ok : Cell → Bool
cell_ok c = c.quoted || all_plain c.content

abbrev pub cells_ok : List Cell → Bool
cells_ok [] = true
cells_ok (c ∷ cs) = cell_ok c && cells_ok cs

abbrev pub row_ok : Row → Bool
row_ok r = cell_ok r.first && cells_ok r.others

abbrev pub rows_ok : List Row → Bool
rows_ok [] = true
rows_ok (r ∷ rs) = row_ok r && rows_ok rs

-- no field in quotes
abbrev pub cells_bare : List Cell → Bool
cells_bare [] = true
cells_bare (c ∷ cs) = not c.quoted && cells_bare cs

abbrev pub all_bare : List Row → Bool
all_bare [] = true
all_bare (r ∷ rs) = cells_bare (r.first ∷ r.others) && all_bare rs

-- between quotes a quote stands twice
unfoldable pub doubled : List ℕ → List ℕ
doubled [] = []
doubled (b ∷ bs) = if eqb b quote then quote ∷ quote ∷ doubled bs else b ∷ doubled bs

unfoldable pub cell_text : Cell → List ℕ
cell_text c = if c.quoted then quote ∷ (doubled c.content ++ (quote ∷ [])) else c.content

unfoldable pub others_text : List Cell → List ℕ
others_text [] = []
others_text (c ∷ cs) = comma ∷ (cell_text c ++ others_text cs)

unfoldable pub row_text : Row → List ℕ
row_text r = cell_text r.first ++ others_text r.others

-- rows that each end in CR LF
unfoldable pub rows_text : List Row → List ℕ
rows_text [] = []
rows_text (r ∷ rs) = row_text r ++ (return ∷ newline ∷ rows_text rs)

-- What a row asks for --------------------------------------------------------------------------------------------------------------

-- §18.5: a mark is two bytes, and no more.
unfoldable pub kind_of_content : List ℕ → Option Kind
kind_of_content c = if eqb (length c) 2 then kind_at c else None

-- §18.6: digits alone, at least one; and the number that they write, however long
abbrev pub digit : ℕ → Bool
digit b = ltb 47 b && ltb b 58

abbrev pub all_digits : List ℕ → Bool
all_digits [] = true
all_digits (b ∷ bs) = digit b && all_digits bs

unfoldable pub decimal_from : ℕ → List ℕ → ℕ
decimal_from n [] = n
decimal_from n (b ∷ bs) = decimal_from (10 * n + (b - 48)) bs

abbrev pub decimal : List ℕ → ℕ
decimal c = decimal_from 0 c

-- a field that a number of so many bytes is asked in, or none if that is 0
unfoldable pub content_fits : ℕ → List ℕ → Bool
content_fits w c =
    if eqb w 0 then eqb (length c) 0 else
    not (eqb (length c) 0) && (all_digits c && ltb (decimal c) (256 ^ w))

abbrev pub contents_fit : List ℕ → List Cell → Bool
contents_fit ws [] = true
contents_fit [] (c ∷ cs) = content_fits 0 c.content && contents_fit [] cs
contents_fit (w ∷ ws) (c ∷ cs) = content_fits w c.content && contents_fit ws cs

-- §18.5: how many fields follow the mark
abbrev pub asked : Kind → ℕ
asked Open = 4
asked Start = 3
asked Commit = 3
asked Abort = 3
asked Wait = 3
asked Step = 3
asked Read = 3
asked Write = 3

-- §18.8: what refuses a row, if anything does
abbrev pub row_fault_of : Option Kind → List Cell → Option TextFault
row_fault_of None cs = Some UnknownMark
row_fault_of (Some k) cs =
    if not (eqb (length cs) (asked k)) then Some WrongCount else
    if not (contents_fit (widths k) cs) then Some WrongField else
    None

unfoldable pub row_fault : Row → Option TextFault
row_fault r = row_fault_of (kind_of_content r.first.content) r.others

-- the record that a good row stands for
unfoldable pub body_of : List ℕ → List Cell → List ℕ
body_of ws [] = []
body_of [] (c ∷ cs) = []
body_of (w ∷ ws) (c ∷ cs) = little w (decimal c.content) ++ body_of ws cs

abbrev pub piece_as : Option Kind → List Cell → List Piece
piece_as None cs = []
piece_as (Some k) cs = piece k (body_of (widths k) cs) ∷ []

-- the records that rows stand for
unfoldable pub pieces_of : List Row → List Piece
pieces_of [] = []
pieces_of (r ∷ rs) = piece_as (kind_of_content r.first.content) r.others ++ pieces_of rs

-- What refuses rows after so many bytes of a session: the fault of the first faulty one; or 34, where the session becomes too long.
unfoldable pub rows_fault : ℕ → List Row → Option TextFault
rows_fault n [] = None
rows_fault n (r ∷ rs) =
    let m = n + length (encoded (pieces_of (r ∷ []))) in
    option_or (row_fault r) (if ltb most_bytes m then Some TooLong else rows_fault m rs)

-- The same in the numbers themselves, and not by way of a fault: the number of a row, 0 if it is good; and that of rows.
abbrev pub row_number_of : Option Kind → List Cell → ℕ
row_number_of None cs = 33
row_number_of (Some k) cs =
    if not (eqb (length cs) (asked k)) then 31 else
    if not (contents_fit (widths k) cs) then 32 else
    0

unfoldable pub row_number : Row → ℕ
row_number r = row_number_of (kind_of_content r.first.content) r.others

unfoldable pub rows_number : ℕ → List Row → ℕ
rows_number n [] = 0
rows_number n (r ∷ rs) =
    if not (eqb (row_number r) 0) then row_number r else
    let m = n + length (encoded (pieces_of (r ∷ []))) in
    if ltb most_bytes m then 34 else
    rows_number m rs
