-- What is promised of reading and writing: each statement once, under a name. proofs/Promises.antt proves them.
use Rattle.std.specs.Prelude.{ℕ, ◌*◌, ◌<◌, ◌≤◌, ◌≡◌, ◌⊎◌, ◌≢◌, None, Some, Ok, Err, List, [], ◌∷◌, ◌++◌, Bool, true, false, length, drop, if◌then◌else◌}
use Rattle.memory.specs.History.{◌∈◌}
use Rattle.session_split.specs.declared.Fault.TheVariants.{CutShort, Misplaced}
use Rattle.session_split.specs.Session.{Split, Piece, misplaced, session, encoded}
use Rattle.session_split.specs.Session as split
use Rattle.sheet_text.specs.Turn.{return, newline}
use Rattle.sheet_text.specs.Answer.{TextFault, told, Answer, number, length_of}
use Rattle.sheet_text.specs.Read.{read_of, session_of, reading}
use Rattle.sheet_text.specs.Write.{text_of, writing}
use Rattle.sheet_text.specs.Rows.{Row, all_bare, row_ok, rows_ok, row_text, rows_text, rows_fault, rows_number, pieces_of}

abbrev pub Bytes : List ℕ → Type 0
Bytes l = (b : ℕ) → b ∈ l → b < 256

-- What a buffer holds afterwards: as it was with every number but 0; else what was made, and behind it what stood there.
pub record Leaves (out made : List ℕ) (r : Answer × List ℕ) : Type 0 where
  pub refused : number r.0 ≢ 0 → (r.1 ≡ out) × (length_of r.0 ≡ 0)
  pub done : number r.0 ≡ 0 → (length_of r.0 ≡ length made) × (r.1 ≡ made ++ drop (length made) out) × (length r.1 ≡ length out)

abbrev pub BuffersAreLeft : Type 0
BuffersAreLeft =
    (given out : List ℕ)
    → Leaves out (session_of given) (reading given out) × Leaves out (text_of (session given).pieces) (writing given out)

-- 35 is for a buffer that is too short, and for nothing else.
abbrev pub ShortIsTold : Type 0
ShortIsTold =
    (given out : List ℕ)
    → (number (reading given out).0 ≡ 35 → length out < length (session_of given))
    × (number (writing given out).0 ≡ 35 → length out < length (text_of (session given).pieces))

-- Reading ----------------------------------------------------------------------------------------------------------------------------

-- a text was read: nothing refuses it, and it stands for these records, one to a line
pub record Reads (text : List ℕ) (ps : List Piece) : Type 0 where
  pub good : (read_of text).fault ≡ None
  pub lines : (read_of text).lines ≡ length ps
  pub bytes : session_of text ≡ encoded ps

-- Rows that are all good are read, in whatever quotes they stand: the session has the record of each, in their order.
abbrev pub GoodRowsAreRead : Type 0
GoodRowsAreRead = (rows : List Row) → rows_ok rows ≡ true → rows_fault 0 rows ≡ None → Reads (rows_text rows) (pieces_of rows)

-- The last row may lack its CR LF, if anything of it is there.
abbrev pub LastMayLackItsEnd : Type 0
LastMayLackItsEnd =
    (rows : List Row) (r : Row) → rows_ok rows ≡ true → row_ok r ≡ true → row_text r ≢ []
    → ((read_of (rows_text rows ++ row_text r)).fault ≡ (read_of (rows_text (rows ++ (r ∷ [])))).fault)
    × (session_of (rows_text rows ++ row_text r) ≡ session_of (rows_text (rows ++ (r ∷ []))))

-- The first faulty row decides, whatever follows it.
abbrev pub FirstFaultDecides : Type 0
FirstFaultDecides =
    (rows : List Row) (rest : List ℕ) (f : TextFault) → rows_ok rows ≡ true → rows_fault 0 rows ≡ Some f
    → (read_of (rows_text rows ++ rest)).fault ≡ Some f

-- The same of the numbers themselves (§18.8): what is told is the number of the rows, whatever follows them; 0 if nothing follows either.
abbrev pub FirstFaultIsTold : Type 0
FirstFaultIsTold =
    (rows : List Row) (rest : List ℕ) → rows_ok rows ≡ true → (rows_number 0 rows ≢ 0) ⊎ (rest ≡ [])
    → told (read_of (rows_text rows ++ rest)).fault ≡ rows_number 0 rows

-- Nothing else is read: a text that nothing refuses is rows of fields, of which the last may lack its CR LF.
pub record IsRows (text : List ℕ) : Type 0 where
  pub rows : List Row
  pub ok : rows_ok rows ≡ true
  pub is : (text ≡ rows_text rows) ⊎ (text ++ (return ∷ newline ∷ []) ≡ rows_text rows)

abbrev pub OnlyRowsAreRead : Type 0
OnlyRowsAreRead = (text : List ℕ) → (read_of text).fault ≡ None → IsRows text

-- §18.2 to §18.4: a text that begins with a line: a row with CR LF behind it, or the last row, with nothing behind it. An empty text has
-- no line, but is not astray either: here it counts as a last row, of one empty field.
pub record FirstLine (text : List ℕ) : Type 0 where
  pub row : Row
  pub ok : row_ok row ≡ true
  pub is : (text ≡ row_text row) ⊎ ((more : List ℕ) × (text ≡ row_text row ++ (return ∷ newline ∷ more)))

-- there is something, and it begins with no line
abbrev pub Astray : List ℕ → Type 0
Astray text = FirstLine text → ⊥

-- §18.8: behind good rows, what begins with no line is answered 30, whatever else could be said of it.
abbrev pub AstrayIsTold : Type 0
AstrayIsTold =
    (rows : List Row) (rest : List ℕ) → rows_ok rows ≡ true → rows_fault 0 rows ≡ None → Astray rest
    → told (read_of (rows_text rows ++ rest)).fault ≡ 30

-- a row without its CR LF, which may be nothing
abbrev pub LastRow : List ℕ → Type 0
LastRow text = (r : Row) × (row_ok r ≡ true) × (text ≡ row_text r)

-- Every text is rows that each end in CR LF, and behind them a last row without it, or what begins with no line. So the claims settle
-- the number of every text: GoodRowsAreRead, LastMayLackItsEnd and FirstFaultDecides where all is rows, and else FirstFaultDecides if a
-- row has a fault, and AstrayIsTold if none has; and FirstFaultIsTold says which number a row's fault has.
pub record Divided (text : List ℕ) : Type 0 where
  pub rows : List Row
  pub ok : rows_ok rows ≡ true
  pub rest : List ℕ
  pub is : text ≡ rows_text rows ++ rest
  pub ends : LastRow rest ⊎ Astray rest

abbrev pub EveryTextDivides : Type 0
EveryTextDivides = (text : List ℕ) → Divided text

-- What is read splits into the records of the lines, until the splitter's own refusal: a BD that is missing or misplaced (§11.6).
abbrev pub as_far : Bool → List Piece → List Piece
as_far first [] = []
as_far first (p ∷ ps) = if misplaced first p.kind then [] else p ∷ as_far false ps

abbrev pub end_of : Bool → List Piece → Split
end_of first [] = if first then Err CutShort else Ok None
end_of first (p ∷ ps) = if misplaced first p.kind then Err Misplaced else end_of false ps

abbrev pub LinesAreRecords : Type 0
LinesAreRecords =
    (rows : List Row) → rows_fault 0 rows ≡ None
    → ((session (encoded (pieces_of rows))).pieces ≡ as_far true (pieces_of rows))
    × ((session (encoded (pieces_of rows))).ended ≡ end_of true (pieces_of rows))

-- The numbers of that end themselves (§11.6): 11 where there is no record, 12 at a BD that is missing or misplaced, and else 0.
abbrev pub end_number : Bool → List Piece → ℕ
end_number first [] = if first then 11 else 0
end_number first (p ∷ ps) = if misplaced first p.kind then 12 else end_number false ps

abbrev pub EndIsTold : Type 0
EndIsTold =
    (rows : List Row) → rows_number 0 rows ≡ 0
    → split.told (session (encoded (pieces_of rows))).ended ≡ end_number true (pieces_of rows)

-- Writing ----------------------------------------------------------------------------------------------------------------------------

-- A text of these records: rows with no field in quotes, all good, that stand for these records and no others.
pub record WrittenAs (ps : List Piece) (text : List ℕ) : Type 0 where
  pub rows : List Row
  pub is : text ≡ rows_text rows
  pub bare : all_bare rows ≡ true
  pub ok : rows_ok rows ≡ true
  pub good : rows_fault 0 rows ≡ None
  pub records : pieces_of rows ≡ ps

-- Every text that is written is RFC 4180's, with the fields that are asked, and without quotes.
abbrev pub WrittenIsRows : Type 0
WrittenIsRows = (bytes : List ℕ) → Bytes bytes → (session bytes).ended ≡ Ok None → WrittenAs (session bytes).pieces (text_of (session bytes).pieces)

-- What was written and read again is the same session.
abbrev pub WrittenIsReadBack : Type 0
WrittenIsReadBack =
    (bytes : List ℕ) → Bytes bytes → (session bytes).ended ≡ Ok None
    → ((read_of (text_of (session bytes).pieces)).fault ≡ None) × (session_of (text_of (session bytes).pieces) ≡ bytes)

-- No text is longer than four times its session.
abbrev pub WrittenIsShort : Type 0
WrittenIsShort = (bytes : List ℕ) → Bytes bytes → length (text_of (session bytes).pieces) ≤ 4 * length bytes

-- Every claim ------------------------------------------------------------------------------------------------------------------------

pub record EveryClaim : Type 0 where
  pub buffers_are_left : BuffersAreLeft
  pub short_is_told : ShortIsTold
  pub good_rows_are_read : GoodRowsAreRead
  pub last_may_lack_its_end : LastMayLackItsEnd
  pub first_fault_decides : FirstFaultDecides
  pub first_fault_is_told : FirstFaultIsTold
  pub only_rows_are_read : OnlyRowsAreRead
  pub astray_is_told : AstrayIsTold
  pub every_text_divides : EveryTextDivides
  pub lines_are_records : LinesAreRecords
  pub end_is_told : EndIsTold
  pub written_is_rows : WrittenIsRows
  pub written_is_read_back : WrittenIsReadBack
  pub written_is_short : WrittenIsShort
