-- The claims `LinesAreRecords` and `EndIsTold`, kept: good rows stand for whole records, and a session of whole records is split into them.
use Rattle.std.specs.Prelude.{Option, None, Some, Ok, Err, if◌then◌else◌}
use Rattle.std.specs.List.{sum}
use Rattle.std.proofs.lemmas.List.Sums.{sum_by-cons}
use Prim.Native.Nat.{ℕ, zero, suc, ◌+◌, ◌≤◌}
use mathlib.Core.Path.{◌≡◌, refl, sym, ap, ◌∙◌}
use mathlib.Core.List.{List, [], ◌∷◌, ◌++◌, append_assoc, append-nil}
use mathlib.Core.Bool.{Bool, true, false, not}
use lib.Dec.{ltb, eqb}
use lib.ListN.{length, take, length-append}
use native.Mathlib.Omega.{arith}
use borrow.Author.Tests.{ltb-false, eqb-true, not-false, le-ltb}
use Rattle.memory.proofs.Tools.{if_cases}
use Rattle.session_marks.specs.Marks.{mark}
use Rattle.session_marks.specs.declared.Kind.{Kind}
use Rattle.session_fields.specs.Fields.{widths, body_length}
use Rattle.session_split.specs.declared.Fault.TheVariants.{CutShort, Misplaced}
use Rattle.session_split.specs.Session.{Piece, Session, most_bytes, misplaced, too_long, told, split, split_all, session, encoded}
use Rattle.session_split.proofs.Cases.{refused-apart, end_apart}
use Rattle.session_split.proofs.Rest.{nothing-split}
use Rattle.session_split.proofs.Whole as whole
use Rattle.std.specs.Option.{option_or}
use Rattle.std.proofs.lemmas.Option.{none-some}
use Rattle.sheet_text.specs.Answer.{TextFault, WrongCount, WrongField, TooLong}
use Rattle.sheet_text.specs.Line.{little}
use Rattle.sheet_text.specs.Rows.{Cell, Row, kind_of_content, decimal, contents_fit, asked, row_fault_of, row_fault, body_of, piece_as, pieces_of, rows_fault}
use Rattle.sheet_text.specs.Claims.{as_far, end_of, LinesAreRecords, end_number, EndIsTold}
use Rattle.sheet_text.proofs.Asked.{all_asked}
use Rattle.sheet_text.proofs.Little.{length-little}
use Rattle.sheet_text.proofs.Numbers.{zero_good}

-- each record has its whole body
abbrev pub Whole : List Piece → Type 0
Whole [] = Unit {0}
Whole (p ∷ ps) = (length p.body ≡ body_length p.kind) × Whole ps

whole_append : (ps qs : List Piece) → Whole ps → Whole qs → Whole (ps ++ qs)
whole_append [] qs v w = w
whole_append (p ∷ ps) qs v w = (v.0, whole_append ps qs v.1 w)

pub encoded_append : (ps qs : List Piece) → encoded (ps ++ qs) ≡ encoded ps ++ encoded qs
encoded_append [] qs = refl
encoded_append (p ∷ ps) qs =
    ap (λ (l : List ℕ). (mark p.kind ++ p.body) ++ l) (encoded_append ps qs)
    ∙ sym (append_assoc (mark p.kind ++ p.body) (encoded ps) (encoded qs))

-- The records of good rows ---------------------------------------------------------------------------------------------------------

pub body-length : (ws : List ℕ) (cs : List Cell) → length (body_of ws cs) ≡ sum (take (length cs) ws)
unfolding body_of
body-length ws [] = refl
body-length [] (c ∷ cs) = refl
body-length (w ∷ ws) (c ∷ cs) =
    omega (arith, length-append (little w (decimal c.content)) (body_of ws cs), length-little w (decimal c.content), body-length ws cs, sum_by-cons (λ n. n) w (take (length cs) ws))

row-whole : (m : Option Kind) (cs : List Cell) → row_fault_of m cs ≡ None → Whole (piece_as m cs)
row-whole None cs e = tt
row-whole (Some k) cs e =
    if_cases (λ x. x ≡ None → Whole (piece_as (Some k) cs)) (not (eqb (length cs) (asked k))) (Some WrongCount) (if not (contents_fit (widths k) cs) then Some WrongField else None)
    (λ many z. absurd (none-some WrongCount (sym z)))
    (λ right z.
    let n = eqb-true (length cs) (asked k) (not-false (eqb (length cs) (asked k)) right) in
    (body-length (widths k) cs ∙ ap (λ (i : ℕ). sum (take i (widths k))) n ∙ all_asked k, tt))
    e

-- rows after so many bytes of a session: their records are whole, and the session is not too long
pub record Good (n : ℕ) (rows : List Row) : Type 0 where
  pub whole : Whole (pieces_of rows)
  pub fits : n + length (encoded (pieces_of rows)) ≤ most_bytes

pub good : (rows : List Row) (n : ℕ) → n ≤ most_bytes → rows_fault n rows ≡ None → Good n rows
unfolding rows_fault row_fault pieces_of
good [] n h e = record { whole = tt; fits = omega arith }
good (r ∷ rs) n h e = go (row_fault r) refl (good rs (n + size)) e
  where
    size : ℕ
    size = length (encoded (pieces_of (r ∷ [])))

    one_more : row_fault r ≡ None → Good (n + size) rs → Good n (r ∷ rs)
    one_more fine g =
        let its = piece_as (kind_of_content r.first.content) r.others in
        record {
          whole = whole_append its (pieces_of rs) (row-whole (kind_of_content r.first.content) r.others fine) g.whole;
          fits =
              omega (
                arith,
                g.fits,
                ap (λ (ps : List Piece). length (encoded ps)) (append-nil its),
                ap length (encoded_append its (pieces_of rs)),
                length-append (encoded its) (encoded (pieces_of rs)),
              );
        }

    go : (v : Option TextFault) → row_fault r ≡ v → (n + size ≤ most_bytes → rows_fault (n + size) rs ≡ None → Good (n + size) rs)
        → option_or v (if ltb most_bytes (n + size) then Some TooLong else rows_fault (n + size) rs) ≡ None → Good n (r ∷ rs)
    go (Some f) is later = λ z. absurd (none-some f (sym z))
    go None fine later =
        if_cases (λ x. x ≡ None → Good n (r ∷ rs)) (ltb most_bytes (n + size)) (Some TooLong) (rows_fault (n + size) rs)
        (λ long z. absurd (none-some TooLong (sym z)))
        (λ short z. one_more fine (later (ltb-false most_bytes (n + size) short) z))

-- A session of whole records -------------------------------------------------------------------------------------------------------

-- the records as far as they are split off, and the end
abbrev Splits : Bool → List Piece → Session → Type 0
Splits first ps s = (s.pieces ≡ as_far first ps) × (s.ended ≡ end_of first ps)

none_left : (n : ℕ) (first : Bool) → Splits first [] (split_all n first [])
unfolding split
none_left n true = rw (nothing-split n true [] (Err CutShort) refl (refused-apart CutShort)) (refl, refl)
none_left n false = rw (nothing-split n false [] (Ok None) refl end_apart) (refl, refl)

all_split : (ps : List Piece) (n : ℕ) (first : Bool) → Whole ps → too_long first (length (encoded ps)) ≡ false → length (encoded ps) ≤ n
    → Splits first ps (split_all n first (encoded ps))
unfolding split_all
all_split [] n first w fits h = none_left n first
all_split (p ∷ ps) zero first w fits h = absurd (omega (arith, whole.its_length p.kind p.body (encoded ps) w.0))
all_split (p ∷ ps) (suc n) first w fits h =
    go (misplaced first k) refl (all_split ps n false w.1 refl (omega (arith, whole.its_length k p.body (encoded ps) w.0)))
  where
    k : Kind
    k = p.kind

    splits : split first (encoded (p ∷ ps)) ≡ (if misplaced first k then Err Misplaced else Ok (Some k))
    splits = whole.splits_off k p.body (encoded ps) w.0 first fits

    go : (m : Bool) → misplaced first k ≡ m → Splits false ps (split_all n false (encoded ps)) → Splits first (p ∷ ps) (split_all (suc n) first (encoded (p ∷ ps)))
    go true m rest = rw (nothing-split (suc n) first (encoded (p ∷ ps)) (Err Misplaced) (rw m at splits) (refused-apart Misplaced), m) (refl, refl)
    go false m rest =
        rw (splits, m, whole.its_body k p.body (encoded ps) w.0, whole.its_rest k p.body (encoded ps) w.0)
        (ap (λ (l : List Piece). p ∷ l) rest.0, rest.1)

pub lines_are_records : LinesAreRecords
unfolding session
lines_are_records rows e =
    let g = good rows 0 (omega arith) e in
    all_split (pieces_of rows) (length (encoded (pieces_of rows))) true g.whole (le-ltb most_bytes (length (encoded (pieces_of rows))) (omega (arith, g.fits))) (omega arith)

-- the same end by its number
end-numbered : (first : Bool) (ps : List Piece) → told (end_of first ps) ≡ end_number first ps
end-numbered true [] = refl
end-numbered false [] = refl
end-numbered first (p ∷ ps) = go (misplaced first p.kind) (end-numbered false ps)
  where
    go : (m : Bool) → told (end_of false ps) ≡ end_number false ps
        → told (if m then Err Misplaced else end_of false ps) ≡ (if m then 12 else end_number false ps)
    go true later = refl
    go false later = later

pub end_is_told : EndIsTold
end_is_told rows fine = rw (lines_are_records rows (zero_good rows fine)).1 (end-numbered true (pieces_of rows))
