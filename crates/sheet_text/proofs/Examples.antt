-- Texts and sessions small enough to compute, with what they come to.
use mathlib.Core.Path.{◌≡◌, refl}
use mathlib.Core.List.{[], ◌∷◌}
use Rattle.session_text.specs.Text.{digits, last_digits}
use Rattle.session_marks.specs.Marks.{kind_at}
use Rattle.session_fields.specs.Fields.{little_endian, number_at}
use Rattle.session_split.specs.Session.{body, following, placed, split, split_all, session}
use Rattle.sheet_text.specs.Turn.{leave, bare}
use Rattle.sheet_text.specs.Line.{grown, room, little, with_byte, field_bytes, field_ended}
use Rattle.sheet_text.specs.Answer.{told}
use Rattle.sheet_text.specs.Read.{line_ended, step, step_bytes, feed, feed_bytes, finish, finish_bytes, read_of, session_of}
use Rattle.sheet_text.specs.Write.{field_text, fields_text, line_text, text_of}

-- every definition that these texts go through
unfoldable reader : Unit {0}
unfolding leave bare grown room little with_byte field_bytes field_ended line_ended step step_bytes feed feed_bytes finish finish_bytes read_of session_of kind_at
reader = tt

unfoldable writer : Unit {0}
unfolding digits last_digits little_endian number_at body following placed split split_all session field_text fields_text line_text text_of kind_at
writer = tt

-- nothing
an_empty_text : (told (read_of ([])).fault ≡ 0) × (session_of ([]) ≡ [])
unfolding reader
an_empty_text = (refl, refl)

-- `\r\n`
a_blank_line : told (read_of (13 ∷ 10 ∷ [])).fault ≡ 33
unfolding reader
a_blank_line = refl

-- `S"T,0,,\r\n`
a_bare_quote : told (read_of (83 ∷ 34 ∷ 84 ∷ 44 ∷ 48 ∷ 44 ∷ 44 ∷ 13 ∷ 10 ∷ [])).fault ≡ 30
unfolding reader
a_bare_quote = refl

-- `"S""T",0,,\r\n`
a_quoted_mark : told (read_of (34 ∷ 83 ∷ 34 ∷ 34 ∷ 84 ∷ 34 ∷ 44 ∷ 48 ∷ 44 ∷ 44 ∷ 13 ∷ 10 ∷ [])).fault ≡ 33
unfolding reader
a_quoted_mark = refl

-- `"ST","0","",\r\n`
in_quotes : (told (read_of (34 ∷ 83 ∷ 84 ∷ 34 ∷ 44 ∷ 34 ∷ 48 ∷ 34 ∷ 44 ∷ 34 ∷ 34 ∷ 44 ∷ 13 ∷ 10 ∷ [])).fault ≡ 0) × (session_of (34 ∷ 83 ∷ 84 ∷ 34 ∷ 44 ∷ 34 ∷ 48 ∷ 34 ∷ 44 ∷ 34 ∷ 34 ∷ 44 ∷ 13 ∷ 10 ∷ []) ≡ 83 ∷ 84 ∷ 0 ∷ [])
unfolding reader
in_quotes = (refl, refl)

-- `ST,0,,\n`
a_newline_alone : told (read_of (83 ∷ 84 ∷ 44 ∷ 48 ∷ 44 ∷ 44 ∷ 10 ∷ [])).fault ≡ 30
unfolding reader
a_newline_alone = refl

-- `ST,"0,,\r\n`
an_open_quote : told (read_of (83 ∷ 84 ∷ 44 ∷ 34 ∷ 48 ∷ 44 ∷ 44 ∷ 13 ∷ 10 ∷ [])).fault ≡ 30
unfolding reader
an_open_quote = refl

-- `XX\r\n`
no_mark_and_few : told (read_of (88 ∷ 88 ∷ 13 ∷ 10 ∷ [])).fault ≡ 33
unfolding reader
no_mark_and_few = refl

-- `ST,0\r\n`
too_few : told (read_of (83 ∷ 84 ∷ 44 ∷ 48 ∷ 13 ∷ 10 ∷ [])).fault ≡ 31
unfolding reader
too_few = refl

-- `ST,256,,\r\n`
too_large : told (read_of (83 ∷ 84 ∷ 44 ∷ 50 ∷ 53 ∷ 54 ∷ 44 ∷ 44 ∷ 13 ∷ 10 ∷ [])).fault ≡ 32
unfolding reader
too_large = refl

-- `ST,10000000000,,\r\n`
many_digits : told (read_of (83 ∷ 84 ∷ 44 ∷ 49 ∷ 48 ∷ 48 ∷ 48 ∷ 48 ∷ 48 ∷ 48 ∷ 48 ∷ 48 ∷ 48 ∷ 48 ∷ 44 ∷ 44 ∷ 13 ∷ 10 ∷ [])).fault ≡ 32
unfolding reader
many_digits = refl

-- `ST,000255,,`
zeros_in_front : (told (read_of (83 ∷ 84 ∷ 44 ∷ 48 ∷ 48 ∷ 48 ∷ 50 ∷ 53 ∷ 53 ∷ 44 ∷ 44 ∷ [])).fault ≡ 0) × (session_of (83 ∷ 84 ∷ 44 ∷ 48 ∷ 48 ∷ 48 ∷ 50 ∷ 53 ∷ 53 ∷ 44 ∷ 44 ∷ []) ≡ 83 ∷ 84 ∷ 255 ∷ [])
unfolding reader
zeros_in_front = (refl, refl)

-- `ST,0,1,\r\n`
an_unused_field : told (read_of (83 ∷ 84 ∷ 44 ∷ 48 ∷ 44 ∷ 49 ∷ 44 ∷ 13 ∷ 10 ∷ [])).fault ≡ 32
unfolding reader
an_unused_field = refl

-- `XX,,,\r\nST,0,,\n`
the_first_line_decides : told (read_of (88 ∷ 88 ∷ 44 ∷ 44 ∷ 44 ∷ 13 ∷ 10 ∷ 83 ∷ 84 ∷ 44 ∷ 48 ∷ 44 ∷ 44 ∷ 10 ∷ [])).fault ≡ 33
unfolding reader
the_first_line_decides = refl

-- the first three records of the whole case (§12.8)
a_session : text_of (session (66 ∷ 68 ∷ 4 ∷ 0 ∷ 2 ∷ 0 ∷ 2 ∷ 1 ∷ 0 ∷ 0 ∷ 0 ∷ 83 ∷ 84 ∷ 0 ∷ 87 ∷ 82 ∷ 0 ∷ 1 ∷ 0 ∷ 7 ∷ 0 ∷ 0 ∷ 0 ∷ [])).pieces ≡ 66 ∷ 68 ∷ 44 ∷ 52 ∷ 44 ∷ 50 ∷ 44 ∷ 50 ∷ 44 ∷ 49 ∷ 13 ∷ 10 ∷ 83 ∷ 84 ∷ 44 ∷ 48 ∷ 44 ∷ 44 ∷ 13 ∷ 10 ∷ 87 ∷ 82 ∷ 44 ∷ 48 ∷ 44 ∷ 49 ∷ 44 ∷ 55 ∷ 13 ∷ 10 ∷ []
unfolding writer
a_session = refl
