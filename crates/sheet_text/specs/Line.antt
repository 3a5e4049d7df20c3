-- §18.5 to §18.7: what is known of a line so far, and what it asks for once it has ended.
pub use Rattle.sheet_text.specs.declared.Letters.{Letters}
pub use Rattle.sheet_text.specs.declared.Letters.TheVariants.{NoLetter, One, Two, More}
pub use Rattle.sheet_text.specs.declared.Digits.{Digits}
pub use Rattle.sheet_text.specs.declared.Digits.TheVariants.{NoDigit, Number, Other}
pub use Rattle.sheet_text.specs.declared.Line.{Line}
use Rattle.std.specs.Prelude.{ℕ, zero, suc, Option, None, Some, ◌+◌, ◌*◌, ◌-◌, ◌/◌, ◌%◌, ◌^◌, List, [], ◌∷◌, Bool, false, not, ◌&&◌, ◌||◌, ltb, leb, eqb, if◌then◌else◌}
use Rattle.session_marks.specs.Marks.{kind_at, opens}
use Rattle.session_marks.specs.declared.Kind.{Kind}
use Rattle.session_fields.specs.Fields.{width}
use Rattle.sheet_text.specs.Answer.{TextFault, WrongCount, WrongField, UnknownMark}

-- a byte more of a field's content, as a mark and as a number
abbrev pub add_letter : Letters → ℕ → Letters
add_letter NoLetter b = One b
add_letter (One a) b = Two a b
add_letter (Two a c) b = More
add_letter More b = More

abbrev pub is_digit : ℕ → Bool
is_digit b = leb 48 b && leb b 57

-- One digit more. A number that no field has room for (§18.6) is none, whatever follows.
unfoldable pub grown : ℕ → ℕ → Digits
grown n d = if ltb (10 * n + d) 4294967296 then Number (10 * n + d) else Other

abbrev pub add_digit : Digits → ℕ → Digits
add_digit NoDigit b = if is_digit b then Number (b - 48) else Other
add_digit (Number n) b = if is_digit b then grown n (b - 48) else Other
add_digit Other b = Other

-- §18.5: the mark that the first field is.
abbrev pub kind_of : Letters → Option Kind
kind_of NoLetter = None
kind_of (One a) = None
kind_of (Two a b) = kind_at (a ∷ b ∷ [])
kind_of More = None

abbrev pub letters_of : Letters → List ℕ
letters_of NoLetter = []
letters_of (One a) = []
letters_of (Two a b) = a ∷ b ∷ []
letters_of More = []

abbrev pub value_of : Digits → ℕ
value_of NoDigit = 0
value_of (Number n) = n
value_of Other = 0

-- §18.6: the numbers that a field of so many bytes has room for. One that is not used has room for none.
unfoldable pub room : ℕ → ℕ
room w = if eqb w 0 then 0 else 256 ^ w

-- a field is as asked: empty if it is not used, and else a number that it has room for
abbrev pub fits : ℕ → Digits → Bool
fits w NoDigit = eqb w 0
fits w (Number n) = ltb n (room w)
fits w Other = false

-- §18.5: a BD has four numbers after its mark, every other line three.
abbrev pub numbers_of : Kind → ℕ
numbers_of k = if opens k then 4 else 3

abbrev pub width_at : Option Kind → ℕ → ℕ
width_at None i = 0
width_at (Some k) i = width k i

-- a number in so many bytes, the lowest first (§11.2)
unfoldable pub little : ℕ → ℕ → List ℕ
little zero n = []
little (suc w) n = n % 256 ∷ little w (n / 256)

-- A line at its beginning; with a byte more in its field; and with its field ended.
abbrev pub blank : Line
blank = record { letters = NoLetter; digits = NoDigit; kind = None; fields = 0; wrong = false }

unfoldable pub with_byte : Line → ℕ → Line
with_byte l b = record { letters = add_letter l.letters b; digits = add_digit l.digits b; kind = l.kind; fields = l.fields; wrong = l.wrong }

-- the bytes of the session that the field stands for
unfoldable pub field_bytes : Line → List ℕ
field_bytes l = if eqb l.fields 0 then letters_of l.letters else little (width_at l.kind (l.fields - 1)) (value_of l.digits)

abbrev pub one_more : ℕ → ℕ
one_more n = if ltb n 6 then n + 1 else n

abbrev pub mark_ended : Letters → Line
mark_ended m = record { letters = NoLetter; digits = NoDigit; kind = kind_of m; fields = 1; wrong = false }

unfoldable pub field_ended : Line → Line
field_ended l =
    if eqb l.fields 0 then mark_ended l.letters else
    record {
      letters = NoLetter;
      digits = NoDigit;
      kind = l.kind;
      fields = one_more l.fields;
      wrong = l.wrong || not (fits (width_at l.kind (l.fields - 1)) l.digits);
    }

-- §18.8: what refuses a line whose fields have ended: 33, 31 and 32 come in this order.
abbrev pub verdict_of : Option Kind → ℕ → Bool → Option TextFault
verdict_of None n wrong = Some UnknownMark
verdict_of (Some k) n wrong = if not (eqb n (suc (numbers_of k))) then Some WrongCount else if wrong then Some WrongField else None

abbrev pub verdict : Line → Option TextFault
verdict l = verdict_of l.kind l.fields l.wrong
