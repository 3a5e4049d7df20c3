-- A text of rows that is read: the claims that good rows are read, that the last may lack its CR LF, and that the first faulty row
-- decides, and is told by its number.
use Rattle.std.specs.Prelude.{Option, None, Some}
use Prim.Native.Nat.{ℕ, ◌+◌}
use mathlib.Core.Path.{◌≡◌, refl, sym, ap, ◌∙◌}
use mathlib.Core.Logic.{◌⊎◌, inl, inr, ◌≢◌}
use mathlib.Core.List.{List, [], ◌∷◌, ◌++◌, append_assoc, append-nil}
use mathlib.Core.Bool.{Bool, true, false}
use lib.Dec.{ltb}
use lib.ListN.{length, length-append}
use native.Mathlib.Nat.{add-zero, zero-add}
use native.Mathlib.Omega.{arith}
use Rattle.memory.proofs.Tools.{if_cases, and_0, and_1}
use Rattle.session_split.specs.Session.{most_bytes, encoded}
use Rattle.sheet_text.specs.Turn.{Fresh, return, newline}
use Rattle.std.proofs.lemmas.Option.{none-some}
use Rattle.sheet_text.specs.Answer.{TextFault, TooLong, told}
use Rattle.sheet_text.specs.Line.{Line, blank, verdict}
use Rattle.sheet_text.specs.Read.{Reader, reader, begin, ended_by, line_ended, finish, finish_bytes, read_of, session_of}
use Rattle.sheet_text.specs.Rows.{Row, cell_ok, cells_ok, row_ok, rows_ok, row_text, rows_text, row_fault, rows_fault, rows_number, pieces_of}
use Rattle.sheet_text.specs.Claims.{GoodRowsAreRead, LastMayLackItsEnd, FirstFaultDecides, FirstFaultIsTold}
use Rattle.sheet_text.proofs.Feed.{Goes, goes_nowhere, goes_on, Ends, ends_so, ends-after, refused_goes, refused-finish, refused-finish_bytes}
use Rattle.sheet_text.proofs.Numbers.{rows_numbered}
use Rattle.sheet_text.proofs.ReadRow.{cells_bytes, after, cells_go, cells_end}
use Rattle.sheet_text.proofs.Records.{encoded_append}
use Rattle.sheet_text.proofs.RowAsks.{fault_read, record_read}

-- the reader between two lines
abbrev pub start : ℕ → ℕ → Reader
start n i = reader Fresh blank n i None

-- the bytes of a row as the reader takes them, and where it comes to at the row's end
abbrev pub row_bytes : Row → List ℕ
row_bytes r = cells_bytes blank (r.first ∷ r.others)

abbrev pub after_row : ℕ → ℕ → Row → Reader
after_row n i r = after blank n i (r.first ∷ r.others)

module _ (n i : ℕ) (r : Row) (ok : row_ok r ≡ true) where
  pub row_goes : Goes (start n i) (row_text r ++ (return ∷ newline ∷ [])) (after_row n i r) (row_bytes r)
  unfolding row_text
  row_goes =
      rw append_assoc
      (cells_go blank n i r.first r.others (and_0 (cell_ok r.first) (cells_ok r.others) ok) (and_1 (cell_ok r.first) (cells_ok r.others) ok))

  pub row_ends : row_text r ≢ [] → Ends (start n i) (row_text r) (after_row n i r) (row_bytes r)
  unfolding row_text
  row_ends some =
      cells_end blank n i r.first r.others (and_0 (cell_ok r.first) (cells_ok r.others) ok) (and_1 (cell_ok r.first) (cells_ok r.others) ok)
      (inr some)

-- What stands at the end of a row: what refuses the text, or the next line.
abbrev pub row_length : Row → ℕ
row_length r = length (encoded (pieces_of (r ∷ [])))

module _ (n i : ℕ) (r : Row) where
  pub faulty_row : {f : TextFault} → row_fault r ≡ Some f → (after_row n i r).fault ≡ Some f
  unfolding line_ended
  faulty_row h = rw (fault_read r, h)

  pub long_row : row_fault r ≡ None → ltb most_bytes (n + row_length r) ≡ true → (after_row n i r).fault ≡ Some TooLong
  unfolding line_ended
  long_row h long = rw (fault_read r, h, (record_read r h).bytes, long)

  good_row : row_fault r ≡ None → ltb most_bytes (n + row_length r) ≡ false → after_row n i r ≡ start (n + row_length r) (i + 1)
  unfolding line_ended
  good_row h short = rw (fault_read r, h, (record_read r h).bytes, short)

-- the records of rows: those of the first and those of the others
pieces_cons : (r : Row) (rs : List Row) → pieces_of (r ∷ rs) ≡ pieces_of (r ∷ []) ++ pieces_of rs
unfolding pieces_of
pieces_cons r rs = rw append-nil

encoded_cons : (r : Row) (rs : List Row) → encoded (pieces_of (r ∷ rs)) ≡ encoded (pieces_of (r ∷ [])) ++ encoded (pieces_of rs)
encoded_cons r rs = ap encoded (pieces_cons r rs) ∙ encoded_append (pieces_of (r ∷ [])) (pieces_of rs)

longer : (n : ℕ) (r : Row) (rs : List Row) → n + row_length r + length (encoded (pieces_of rs)) ≡ n + length (encoded (pieces_of (r ∷ rs)))
longer n r rs = omega (arith, ap length (encoded_cons r rs), length-append (encoded (pieces_of (r ∷ []))) (encoded (pieces_of rs)))

one_more : (i : ℕ) (r : Row) (rs : List Row) → length (pieces_of (r ∷ [])) ≡ 1 → i + 1 + length (pieces_of rs) ≡ i + length (pieces_of (r ∷ rs))
one_more i r rs one = omega (arith, ap length (pieces_cons r rs), length-append (pieces_of (r ∷ [])) (pieces_of rs))

-- Rows that were read: where the reader stands, with what refuses the rows, and what a good text has given.
pub record Came (n i : ℕ) (rows : List Row) : Type 0 where
  pub at : Reader
  pub bytes : List ℕ
  pub goes : Goes (start n i) (rows_text rows) at bytes
  pub fault : at.fault ≡ rows_fault n rows
  pub good : rows_fault n rows ≡ None → (at ≡ start (n + length (encoded (pieces_of rows))) (i + length (pieces_of rows))) × (bytes ≡ encoded (pieces_of rows))

module _ (n i : ℕ) (r : Row) (rs : List Row) (ok : row_ok r ≡ true) where
  then_rows : {x : Reader} {b : List ℕ} → Goes (after_row n i r) (rows_text rs) x b → Goes (start n i) (rows_text (r ∷ rs)) x (row_bytes r ++ b)
  unfolding rows_text
  then_rows h = rw (append_assoc (row_text r)) at (goes_on (row_goes n i r ok) h)

  -- a row that refuses the text
  refusing : (f : TextFault) → (after_row n i r).fault ≡ Some f → rows_fault n (r ∷ rs) ≡ Some f → Came n i (r ∷ rs)
  refusing f is all =
      record {
        at = after_row n i r;
        bytes = row_bytes r ++ [];
        goes = then_rows (refused_goes (after_row n i r) is (rows_text rs));
        fault = is ∙ sym all;
        good = λ e. absurd (none-some f (sym e ∙ all));
      }

  -- a good row
  passing : row_fault r ≡ None → after_row n i r ≡ start (n + row_length r) (i + 1) → rows_fault n (r ∷ rs) ≡ rows_fault (n + row_length r) rs
      → Came (n + row_length r) (i + 1) rs → Came n i (r ∷ rs)
  passing fine next same later =
      record {
        at = later.at;
        bytes = row_bytes r ++ later.bytes;
        goes = then_rows (rw next later.goes);
        fault = later.fault ∙ sym same;
        good = λ e.
            let h = later.good (sym same ∙ e) in
            (h.0 ∙ rw (longer n r rs, one_more i r rs (record_read r fine).one), rw (encoded_cons r rs, (record_read r fine).bytes, h.1));
      }

pub came : (rows : List Row) (n i : ℕ) → rows_ok rows ≡ true → Came n i rows
unfolding rows_text rows_fault pieces_of
came [] n i ok = record { at = start n i; bytes = []; goes = goes_nowhere _; fault = refl; good = λ e. (rw (add-zero n, add-zero i), refl) }
came (r ∷ rs) n i ok = go (row_fault r) refl (ltb most_bytes (n + row_length r)) refl (came rs (n + row_length r) (i + 1) (and_1 (row_ok r) (rows_ok rs) ok))
  where
    row_ok_lem : row_ok r ≡ true
    row_ok_lem = and_0 (row_ok r) (rows_ok rs) ok

    go : (a : Option TextFault) → row_fault r ≡ a → (b : Bool) → ltb most_bytes (n + row_length r) ≡ b → Came (n + row_length r) (i + 1) rs → Came n i (r ∷ rs)
    go (Some f) p b q later = refusing n i r rs row_ok_lem f (faulty_row n i r p) (rw p)
    go None p true q later = refusing n i r rs row_ok_lem TooLong (long_row n i r p q) (rw (p, q))
    go None p false q later = passing n i r rs row_ok_lem p (good_row n i r p q) (rw (p, q)) later

-- Whole texts --------------------------------------------------------------------------------------------------------------------------

-- Between two lines, and when the text was refused, its end changes nothing.
abbrev Rests : Reader → Type 0
Rests x = (finish x ≡ x) × (finish_bytes x ≡ [])

refused_rests : (x : Reader) {f : TextFault} → x.fault ≡ Some f → Rests x
refused_rests x h = (refused-finish x h, refused-finish_bytes x h)

start_rests : (n i : ℕ) → Rests (start n i)
unfolding finish finish_bytes
start_rests n i = (refl, refl)

line_rests : (l : Line) (n i : ℕ) → Rests (line_ended l n i)
unfolding line_ended
line_rests l n i = go (verdict l)
  where
    go : (v : Option TextFault) → Rests (ended_by v l n i)
    go (Some f) = refused_rests _ refl
    go None = if_cases Rests (ltb most_bytes n) _ _ (λ long. refused_rests _ refl) (λ short. start_rests n (i + 1))

goes_and_rests : {x : Reader} {text bytes : List ℕ} → Goes begin text x bytes → Rests x → Ends begin text x bytes
goes_and_rests g h = rw append-nil at (ends_so g h.0 h.1)

pub good_rows_are_read : GoodRowsAreRead
unfolding read_of session_of
good_rows_are_read rows ok fine =
    let c = came rows 0 0 ok in
    let g = c.good fine in
    let ends = goes_and_rests c.goes (rw g.0 (start_rests _ _)) in
    record {
      good = ap (λ (x : Reader). x.fault) (ends.comes ∙ g.0);
      lines = ap (λ (x : Reader). x.lines) (ends.comes ∙ g.0) ∙ zero-add (length (pieces_of rows));
      bytes = ends.gives ∙ g.1;
    }

alike : {x : Reader} {s t bytes : List ℕ} → Ends begin s x bytes → Ends begin t x bytes → ((read_of s).fault ≡ (read_of t).fault) × (session_of s ≡ session_of t)
unfolding read_of session_of
alike p q = (ap (λ (x : Reader). x.fault) (p.comes ∙ sym q.comes), p.gives ∙ sym q.gives)

pub rows_snoc : (rows : List Row) (r : Row) → rows_text (rows ++ (r ∷ [])) ≡ rows_text rows ++ (row_text r ++ (return ∷ newline ∷ []))
unfolding rows_text
rows_snoc [] r = refl
rows_snoc (q ∷ rows) r = rw (rows_snoc rows r) (sym (append_assoc (row_text q) (return ∷ newline ∷ rows_text rows) (row_text r ++ (return ∷ newline ∷ []))))

-- rows that refuse the text, and whatever follows them
refused-ends : (rows : List Row) (ok : rows_ok rows ≡ true) {f : TextFault} → rows_fault 0 rows ≡ Some f → (rest : List ℕ)
    → Ends begin (rows_text rows ++ rest) (came rows 0 0 ok).at ((came rows 0 0 ok).bytes ++ [])
refused-ends rows ok bad rest =
    let c = came rows 0 0 ok in
    let refused = c.fault ∙ bad in
    goes_and_rests (goes_on c.goes (refused_goes c.at refused rest)) (refused_rests c.at refused)

pub last_may_lack_its_end : LastMayLackItsEnd
last_may_lack_its_end rows r ok row_is_ok some = rw (rows_snoc rows r) (go (rows_fault 0 rows) refl)
  where
    go : (a : Option TextFault) → rows_fault 0 rows ≡ a
        → ((read_of (rows_text rows ++ row_text r)).fault ≡ (read_of (rows_text rows ++ (row_text r ++ (return ∷ newline ∷ [])))).fault)
        × (session_of (rows_text rows ++ row_text r) ≡ session_of (rows_text rows ++ (row_text r ++ (return ∷ newline ∷ []))))
    go None fine =
        let c = came rows 0 0 ok in
        let before = rw (c.good fine).0 at c.goes in
        alike (ends-after before (row_ends _ _ r row_is_ok some)) (goes_and_rests (goes_on before (row_goes _ _ r row_is_ok)) (line_rests _ _ _))
    go (Some f) bad = alike (refused-ends rows ok bad (row_text r)) (refused-ends rows ok bad (row_text r ++ (return ∷ newline ∷ [])))

pub first_fault_decides : FirstFaultDecides
unfolding read_of
first_fault_decides rows rest f ok bad =
    ap (λ (x : Reader). x.fault) (refused-ends rows ok bad rest).comes ∙ ((came rows 0 0 ok).fault ∙ bad)

-- what is told of rows and of what follows them is the number of what refuses the rows
pub first_fault_is_told : FirstFaultIsTold
first_fault_is_told rows rest ok ends = go (rows_fault 0 rows) refl ends ∙ rows_numbered rows 0
  where
    go : (f : Option TextFault) → rows_fault 0 rows ≡ f → (rows_number 0 rows ≢ 0) ⊎ (rest ≡ [])
        → told (read_of (rows_text rows ++ rest)).fault ≡ told (rows_fault 0 rows)
    go (Some f) bad e = rw (first_fault_decides rows rest f ok bad, bad)
    go None fine (inl some) = absurd (some (sym (rows_numbered rows 0) ∙ ap told fine))
    go None fine (inr none) = rw (none, append-nil, (good_rows_are_read rows ok fine).good, fine)
