-- What is known of a session at its end; and how far the places in the buffer can go, so that none wraps.
use Rattle.std.specs.Prelude.{ℕ, ◌+◌, ◌*◌, None, Some, Ok, Err, List, length}
use Rattle.session_split.specs.Session.{Split, most_bytes, session}
use Rattle.sheet_text.specs.declared.Cause.TheVariants.{Session}
use Rattle.sheet_text.specs.Answer.{Answer, wrote, refused}
use Rattle.sheet_text.specs.Write.{text_of}

-- what is answered if the buffer has room, by how the session ends; no session ends in a record
abbrev pub known_by : List ℕ → ℕ → Split → Answer
known_by text n (Err f) = refused (Session f) n
known_by text n (Ok (Some k)) = wrote 0 n
known_by text n (Ok None) = wrote (length text) n

abbrev pub known : List ℕ → Answer
known bytes = let s = session bytes in known_by (text_of s.pieces) (length s.pieces) s.ended

-- a comma and a number
abbrev pub field_room : ℕ
field_room = 11

-- a mark, four fields and CR LF
abbrev pub line_room : ℕ
line_room = 4 + 4 * field_room

-- a session has fewer records than bytes
abbrev pub lines_room : ℕ
lines_room = line_room * most_bytes
