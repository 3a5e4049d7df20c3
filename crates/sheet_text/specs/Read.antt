-- §18.4, §18.8 and §18.9: a text read byte by byte, and what reading it answers.
use Rattle.std.specs.Prelude.{ℕ, ◌+◌, ◌*◌, ◌≤◌, Option, None, Some, List, [], ◌∷◌, ◌++◌, ltb, length, if◌then◌else◌}
use Rattle.std.specs.Option.{is_none}
use Rattle.session_marks.specs.declared.Kind.{Kind}
use Rattle.session_split.specs.Session.{most_bytes}
use Rattle.sheet_text.specs.Turn.{Spot, Fresh, Turn, Content, Beside, FieldEnds, LineEnds, Stray, turn, ending}
use Rattle.sheet_text.specs.Line.{Line, blank, with_byte, field_bytes, field_ended, verdict}
use Rattle.sheet_text.specs.Answer.{TextFault, BadQuoting, TooLong, Text, Answer, wrote, refused, lent}

-- A text so far: where the next byte stands, the line that is read, how many bytes of the session there are, how many lines were good,
-- and what refuses the text, if anything does.
pub record Reader : Type 0 where
  pub spot : Spot
  pub line : Line
  pub length : ℕ
  pub lines : ℕ
  pub fault : Option TextFault

abbrev pub reader : Spot → Line → ℕ → ℕ → Option TextFault → Reader
reader s l n i f = record { spot = s; line = l; length = n; lines = i; fault = f }

-- nothing was read yet
abbrev pub begin : Reader
begin = reader Fresh blank 0 0 None

-- §18.8: after a good line the next one begins, unless the session is too long now (34).
abbrev pub ended_by : Option TextFault → Line → ℕ → ℕ → Reader
ended_by (Some f) l n i = reader Fresh l n i (Some f)
ended_by None l n i = if ltb most_bytes n then reader Fresh l n i (Some TooLong) else reader Fresh blank n (i + 1) None

unfoldable pub line_ended : Line → ℕ → ℕ → Reader
line_ended l n i = ended_by (verdict l) l n i

-- the bytes of the session that come with a byte, and the text so far after it
abbrev pub act_bytes : Reader → Turn → List ℕ
act_bytes r (Content s) = []
act_bytes r (Beside s) = []
act_bytes r FieldEnds = field_bytes r.line
act_bytes r LineEnds = field_bytes r.line
act_bytes r Stray = []

abbrev pub act : Reader → Turn → ℕ → Reader
act r (Content s) b = reader s (with_byte r.line b) r.length r.lines r.fault
act r (Beside s) b = reader s r.line r.length r.lines r.fault
act r FieldEnds b = reader Fresh (field_ended r.line) (r.length + length (field_bytes r.line)) r.lines r.fault
act r LineEnds b = line_ended (field_ended r.line) (r.length + length (field_bytes r.line)) r.lines
act r Stray b = reader r.spot r.line r.length r.lines (Some BadQuoting)

-- A text that was refused stays so: the first faulty line decides.
unfoldable pub step : Reader → ℕ → Reader
step r b = if is_none r.fault then act r (turn r.spot b) b else r

unfoldable pub step_bytes : Reader → ℕ → List ℕ
step_bytes r b = if is_none r.fault then act_bytes r (turn r.spot b) else []

unfoldable pub feed : Reader → List ℕ → Reader
feed r [] = r
feed r (b ∷ bs) = feed (step r b) bs

unfoldable pub feed_bytes : Reader → List ℕ → List ℕ
feed_bytes r [] = []
feed_bytes r (b ∷ bs) = step_bytes r b ++ feed_bytes (step r b) bs

-- §18.4: the end of the text
unfoldable pub finish : Reader → Reader
finish r = if is_none r.fault then act r (ending r.spot r.line.fields) 0 else r

unfoldable pub finish_bytes : Reader → List ℕ
finish_bytes r = if is_none r.fault then act_bytes r (ending r.spot r.line.fields) else []

-- a whole text: what is known at its end, and the session that it stands for if it was not refused
unfoldable pub read_of : List ℕ → Reader
read_of text = finish (feed begin text)

unfoldable pub session_of : List ℕ → List ℕ
session_of text = feed_bytes begin text ++ finish_bytes (feed begin text)

-- what is known of a text at its end, and what is answered then if the buffer has room
abbrev pub known_by : Option TextFault → ℕ → ℕ → Answer
known_by None n i = wrote n i
known_by (Some f) n i = refused (Text f) i

abbrev pub known : Reader → Answer
known r = known_by r.fault r.length r.lines

-- §18.9: what is answered, and what the buffer holds then, of any text and any buffer.
unfoldable pub reading : List ℕ → List ℕ → Answer × List ℕ
reading text out = lent (known (read_of text)) (session_of text) out

-- What keeps every number of a reader small: a line has at most four bytes of a session for each field, and a good line has a mark.
abbrev pub marked : Option Kind → ℕ
marked None = 0
marked (Some k) = 2

pub record Small (r : Reader) : Type 0 where
  pub fields : r.line.fields ≤ 6
  pub short : r.length ≤ most_bytes + 4 * r.line.fields
  pub counted : r.lines + marked r.line.kind ≤ r.length
