-- §11, the session file: how a record is split off the bytes that are left, and the whole session as its records.
pub use Rattle.session_split.specs.declared.Fault.{Fault}
pub use Rattle.session_split.specs.declared.Fault.TheVariants.{UnknownMark, CutShort, Misplaced, TooLong}
use Rattle.std.specs.Prelude.{ℕ, zero, suc, ◌+◌, ◌≡◌, Option, Some, None, Result, Ok, Err, List, [], ◌∷◌, ◌++◌, Bool, true, false, not, ◌&&◌, length, take, drop, ltb, eqb, if◌then◌else◌}
use Rattle.session_marks.specs.Marks.{mark, kind_at, opens}
use Rattle.session_marks.specs.declared.Kind.{Kind}
use Rattle.session_fields.specs.Fields.{body_length}

-- What splitting a record off answers: the record's kind, nothing where the session ends, or why the record is refused.
abbrev pub Split : Type 0
Split = Result (Option Kind) Fault

-- §11.6: the numbers that refuse a record
abbrev pub number_of : Fault → ℕ
number_of UnknownMark = 10
number_of CutShort = 11
number_of Misplaced = 12
number_of TooLong = 14

-- what is told of it: the number that refuses it, or 0
abbrev pub told : Split → ℕ
told (Ok k) = 0
told (Err f) = number_of f

-- §11.1: the longest session.
abbrev pub most_bytes : ℕ
most_bytes = 60000

-- the bytes of a record
abbrev pub record_length : Kind → ℕ
record_length k = 2 + body_length k

-- §11.4: the body of a record, and the bytes that the next one is read from.
unfoldable pub body : Kind → List ℕ → List ℕ
body k bytes = take (body_length k) (drop 2 bytes)

unfoldable pub following : Kind → List ℕ → List ℕ
following k bytes = drop (record_length k) bytes

-- §11.3, §11.6: a BD stands first and nowhere else. The refusals of a record come in the order 11, 10, 12, 11.
abbrev pub misplaced : Bool → Kind → Bool
misplaced first k = if opens k then not first else first

unfoldable pub placed : Bool → ℕ → Kind → Split
placed first n k =
    if misplaced first k then Err Misplaced else
    if ltb n (record_length k) then Err CutShort else
    Ok (Some k)

abbrev pub marked : Bool → ℕ → Option Kind → Split
marked first n None = Err UnknownMark
marked first n (Some k) = placed first n k

-- §11.6: 14 is told at the first record, where the whole session is left.
abbrev pub too_long : Bool → ℕ → Bool
too_long first n = first && ltb most_bytes n

-- §11.5: with nothing left after a record, the session ends. Before the first one, nothing is too little (11).
abbrev pub over : Bool → ℕ → Bool
over first n = not first && eqb n 0

-- a record split off what is left of a session
unfoldable pub split : Bool → List ℕ → Split
split first bytes =
    if too_long first (length bytes) then Err TooLong else
    if over first (length bytes) then Ok None else
    if ltb (length bytes) 2 then Err CutShort else
    marked first (length bytes) (kind_at bytes)

-- The whole session ----------------------------------------------------------------------------------------------------------------

-- a record: its kind and its body
pub record Piece : Type 0 where
  pub kind : Kind
  pub body : List ℕ

abbrev pub piece : Kind → List ℕ → Piece
piece k b = record { kind = k; body = b }

-- a session: its records, how it ended after them, and the bytes that are left there
pub record Session : Type 0 where
  pub pieces : List Piece
  pub ended : Split
  pub left : List ℕ

abbrev pub ending : Split → List ℕ → Session
ending s bytes = record { pieces = []; ended = s; left = bytes }

abbrev pub before : Piece → Session → Session
before p s = record { pieces = p ∷ s.pieces; ended = s.ended; left = s.left }

abbrev pub onward : List ℕ → Split → (Kind → Session) → Session
onward bytes (Ok (Some k)) rest = before (piece k (body k bytes)) (rest k)
onward bytes (Err f) rest = ending (Err f) bytes
onward bytes (Ok None) rest = ending (Ok None) bytes

-- at most so many records
unfoldable pub split_all : ℕ → Bool → List ℕ → Session
split_all zero first bytes = ending (split first bytes) bytes
split_all (suc n) first bytes = onward bytes (split first bytes) (λ k. split_all n false (following k bytes))

-- a session has fewer records than bytes
unfoldable pub session : List ℕ → Session
session bytes = split_all (length bytes) true bytes

-- What is promised -------------------------------------------------------------------------------------------------------------------

abbrev pub encoded : List Piece → List ℕ
encoded [] = []
encoded (p ∷ ps) = (mark p.kind ++ p.body) ++ encoded ps

-- a session that was split is its bytes again: the marks and bodies of its records, and what is left
abbrev pub SplitKeepsTheBytes : Type 0
SplitKeepsTheBytes = (bytes : List ℕ) → encoded (session bytes).pieces ++ (session bytes).left ≡ bytes

-- a session is split until a record is refused or nothing is left
abbrev pub SplitsToTheEnd : Type 0
SplitsToTheEnd =
    (bytes : List ℕ)
    → ((k : Kind) → (session bytes).ended ≡ Ok (Some k) → ⊥)
    × ((session bytes).ended ≡ Ok None → (session bytes).left ≡ [])

-- §11.6, the numbers themselves: a session of nothing is refused by 11, and a whole record where a BD is missing or misplaced by 12
abbrev pub RefusalsAreTold : Type 0
RefusalsAreTold =
    (told (split true []) ≡ 11)
    × ((k : Kind) (b rest : List ℕ) (first : Bool) → length b ≡ body_length k → misplaced first k ≡ true
    → let bytes = (mark k ++ b) ++ rest in too_long first (length bytes) ≡ false → told (split first bytes) ≡ 12)
