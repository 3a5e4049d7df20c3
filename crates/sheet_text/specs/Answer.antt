-- §18.8 to §18.10: what reading and writing answer, and the numbers that tell it.
pub use Rattle.sheet_text.specs.declared.TextFault.{TextFault}
pub use Rattle.sheet_text.specs.declared.TextFault.TheVariants.{BadQuoting, WrongCount, WrongField, UnknownMark, TooLong}
pub use Rattle.sheet_text.specs.declared.Cause.{Cause}
pub use Rattle.sheet_text.specs.declared.Cause.TheVariants.{Text, Session, NoRoom}
pub use Rattle.sheet_text.specs.declared.Done.{Done}
pub use Rattle.sheet_text.specs.declared.Refused.{Refused}
use Rattle.std.specs.Prelude.{ℕ, Option, None, Some, Result, Ok, Err, List, length, ltb, if◌then◌else◌}
use Rattle.session_split.specs.Session as split
use Rattle.session_text.specs.Text.{written}

-- §18.8: the numbers that refuse a text
abbrev pub text_number : TextFault → ℕ
text_number BadQuoting = 30
text_number WrongCount = 31
text_number WrongField = 32
text_number UnknownMark = 33
text_number TooLong = 34

-- what is told of a text: the number that refuses it, or 0
abbrev pub told : Option TextFault → ℕ
told None = 0
told (Some f) = text_number f

-- The numbers that refuse a reading or a writing: a session by that of its fault (§11.6), and 35 for a buffer that is too short.
abbrev pub number_of : Cause → ℕ
number_of (Text f) = text_number f
number_of (Session f) = split.number_of f
number_of NoRoom = 35

abbrev pub Answer : Type 0
Answer = Result Done Refused

abbrev pub wrote : ℕ → ℕ → Answer
wrote n i = Ok (record { length = n; lines = i })

abbrev pub refused : Cause → ℕ → Answer
refused c i = Err (record { cause = c; lines = i })

-- §18.9: of the three numbers of an answer the first, 0 or the number that refuses, and the second, how many bytes were written
abbrev pub number : Answer → ℕ
number (Ok w) = 0
number (Err r) = number_of r.cause

abbrev pub length_of : Answer → ℕ
length_of (Ok w) = w.length
length_of (Err r) = 0

-- What is answered where a buffer is lent, and what the buffer holds then, by what is answered where it has room.
abbrev pub lent : Answer → List ℕ → List ℕ → Answer × List ℕ
lent (Err r) made out = (Err r, out)
lent (Ok w) made out = if ltb (length out) w.length then (refused NoRoom w.lines, out) else (Ok w, written out made)
