-- What a row comes to: the reader refuses it for what the row's own definition says (§18.8), and the bytes of a good row are its record's.
use Rattle.std.specs.Prelude.{Option, None, Some, if◌then◌else◌}
use Prim.Native.Nat.{ℕ, suc, ◌+◌, ◌-◌, ◌≤◌, ◌<◌}
use mathlib.Core.Path.{◌≡◌, refl, sym, ap, ◌∙◌}
use mathlib.Core.List.{List, [], ◌∷◌, ◌++◌, append-nil}
use mathlib.Core.Bool.{Bool, true, false, not, ◌&&◌, ◌||◌, or-false}
use lib.Dec.{ltb, eqb, leb-suc-suc, eqb-suc-suc}
use lib.ListN.{length, drop}
use lib.Seq.{drop-cons}
use native.Mathlib.Nat.{add-zero, zero-add}
use native.Mathlib.Omega.{arith}
use borrow.Author.Tests.{eqb-true, ne_eqb, lt-ltb, ltb-false}
use Rattle.memory.proofs.Tools.{and_0, and_1}
use Rattle.session_marks.specs.declared.Kind.{Kind}
use Rattle.session_fields.specs.Fields.{widths, width}
use Rattle.session_fields.proofs.Table.{at_most_four}
use Rattle.session_split.specs.Session.{encoded}
use Rattle.std.proofs.lemmas.Option.{none-some}
use Rattle.sheet_text.specs.Answer.{TextFault, WrongCount, WrongField, UnknownMark}
use Rattle.sheet_text.specs.Line.{NoLetter, NoDigit, Line, blank, with_byte, field_bytes, field_ended, one_more, width_at, fits, little, value_of, letters_of, verdict}
use Rattle.sheet_text.specs.Rows.{Cell, Row, kind_of_content, content_fits, contents_fit, asked, row_fault_of, row_fault, decimal, body_of, pieces_of}
use Rattle.sheet_text.proofs.Asked.{four_widths, as_asked, four_asked}
use Rattle.sheet_text.proofs.Content.{letters_from, digits_from, kind_read, mark-read, fits_read, bytes_read}
use Rattle.sheet_text.proofs.ReadCell.{filled}
use Rattle.sheet_text.proofs.ReadRow.{cells_line, cells_bytes}

-- between two fields of a line
abbrev pub between : Option Kind → ℕ → Bool → Line
between m n wrong = record { letters = NoLetter; digits = NoDigit; kind = m; fields = n; wrong = wrong }

filled_is : (c : List ℕ) (l : Line)
    → filled l c ≡ record { letters = letters_from l.letters c; digits = digits_from l.digits c; kind = l.kind; fields = l.fields; wrong = l.wrong }
unfolding with_byte
filled_is [] l = refl
filled_is (b ∷ bs) l = filled_is bs (with_byte l b)

mark-ended : (c : List ℕ) → field_ended (filled blank c) ≡ between (kind_of_content c) 1 false
unfolding field_ended
mark-ended c = rw (filled_is c blank, kind_read c)

mark_bytes : (c : List ℕ) → field_bytes (filled blank c) ≡ letters_of (letters_from NoLetter c)
unfolding field_bytes
mark_bytes c = rw (filled_is c blank)

one_less : (j : ℕ) → suc j - 1 ≡ j
one_less j = omega arith

-- one number more; five stand for more
abbrev more : ℕ → ℕ
more j = if ltb j 5 then suc j else j

more_is : (j : ℕ) → one_more (suc j) ≡ suc (more j)
more_is j = rw (leb-suc-suc (suc j) 5) (go (ltb j 5))
  where
    go : (b : Bool) → (if b then suc j + 1 else suc j) ≡ suc (if b then suc j else j)
    go true = omega arith
    go false = refl

module _ (m : Option Kind) (j : ℕ) (w : Bool) (c : List ℕ) where
  number-ended : field_ended (filled (between m (suc j) w) c) ≡ between m (suc (more j)) (w || not (fits (width_at m j) (digits_from NoDigit c)))
  unfolding field_ended
  number-ended = rw (filled_is c (between m (suc j) w), ne_eqb (suc j) 0 (λ e. omega arith), one_less j, more_is j)

  number_bytes : field_bytes (filled (between m (suc j) w) c) ≡ little (width_at m j) (value_of (digits_from NoDigit c))
  unfolding field_bytes
  number_bytes = rw (filled_is c (between m (suc j) w), ne_eqb (suc j) 0 (λ e. omega arith), one_less j)

module _ (m : Option Kind) where
  kind_stays : (cs : List Cell) (j : ℕ) (w : Bool) → (cells_line (between m (suc j) w) cs).kind ≡ m
  kind_stays [] j w = refl
  kind_stays (c ∷ cs) j w = ap (λ l. (cells_line l cs).kind) (number-ended m j w c.content) ∙ kind_stays cs (more j) _

  -- there are as many numbers as were asked, or there are not
  counted : (a : ℕ) → a ≤ 4 → (cs : List Cell) (j : ℕ) (w : Bool) → eqb (cells_line (between m (suc j) w) cs).fields (suc a) ≡ eqb (j + length cs) a
  counted a h [] j w = rw (eqb-suc-suc j a, add-zero)
  counted a h (c ∷ cs) j w =
      ap (λ l. eqb (cells_line l cs).fields (suc a)) (number-ended m j w c.content) ∙ counted a h cs (more j) _ ∙ go (ltb j 5) refl
    where
      go : (b : Bool) → ltb j 5 ≡ b → eqb ((if b then suc j else j) + length cs) a ≡ eqb (j + suc (length cs)) a
      go true e = ap (λ n. eqb n a) (omega arith)
      go false e =
          let far = ltb-false j 5 e in
          ne_eqb (j + length cs) a (λ q. omega arith) ∙ sym (ne_eqb (j + suc (length cs)) a (λ q. omega arith))

de_morgan : (w a b : Bool) → ((w || not a) || not b) ≡ (w || not (a && b))
de_morgan true a b = refl
de_morgan false true b = refl
de_morgan false false b = refl

-- The numbers of a row that has as many as its mark asks for, from one of them on.
module _ (k : Kind) where
  widths-from : (j : ℕ) → j < 4 → drop j (widths k) ≡ width k j ∷ drop (suc j) (widths k)
  widths-from j h = drop-cons (widths k) j 0 (omega (arith, four_widths k))

  next-ended : (j : ℕ) (w : Bool) (c : List ℕ) → j < 4
      → field_ended (filled (between (Some k) (suc j) w) c) ≡ between (Some k) (suc (suc j)) (w || not (content_fits (width k j) c))
  next-ended j w c h = number-ended (Some k) j w c ∙ rw (lt-ltb j 5 (omega arith), fits_read (width k j) c (at_most_four k j))

  wrong_read : (cs : List Cell) (j : ℕ) (w : Bool) → j + length cs ≤ 4
      → (cells_line (between (Some k) (suc j) w) cs).wrong ≡ (w || not (contents_fit (drop j (widths k)) cs))
  wrong_read [] j w h = sym (or-false w)
  wrong_read (c ∷ cs) j w h =
      ap (λ l. (cells_line l cs).wrong) (next-ended j w c.content (omega arith))
      ∙ rw (widths-from j (omega arith))
      (wrong_read cs (suc j) (w || not (content_fits (width k j) c.content)) (omega arith)
      ∙ de_morgan w (content_fits (width k j) c.content) (contents_fit (drop (suc j) (widths k)) cs))

  body-read : (cs : List Cell) (j : ℕ) (w : Bool) → j + length cs ≤ 4 → contents_fit (drop j (widths k)) cs ≡ true
      → cells_bytes (between (Some k) (suc j) w) cs ≡ body_of (drop j (widths k)) cs
  unfolding body_of
  body-read [] j w h e = refl
  body-read (c ∷ cs) j w h e =
      let here : j < 4 = omega arith in
      let fit : (content_fits (width k j) c.content && contents_fit (drop (suc j) (widths k)) cs) ≡ true = rw (widths-from j here) at e in
      let one = and_0 (content_fits (width k j) c.content) _ fit in
      let rest = and_1 (content_fits (width k j) c.content) (contents_fit (drop (suc j) (widths k)) cs) fit in
      rw (next-ended j w c.content here, number_bytes (Some k) j w c.content, bytes_read (width k j) c.content (at_most_four k j) one, widths-from j here)
      (ap (λ l. little (width k j) (decimal c.content) ++ l) (body-read cs (suc j) _ (omega arith) rest))

-- The whole row ------------------------------------------------------------------------------------------------------------------------

-- what refuses a row with a mark, by whether it has as many numbers as are asked, and whether one of them is wrong
abbrev of_marked : Bool → Bool → Option TextFault
of_marked enough wrong = if not enough then Some WrongCount else if wrong then Some WrongField else None

fault_of : (m : Option Kind) (cs : List Cell) → verdict (cells_line (between m 1 false) cs) ≡ row_fault_of m cs
fault_of None cs = rw (kind_stays None cs 0 false)
fault_of (Some k) cs =
    rw (kind_stays (Some k) cs 0 false, as_asked k, counted (Some k) (asked k) (four_asked k) cs 0 false, zero-add) (go (eqb (length cs) (asked k)) refl)
  where
    go : (b : Bool) → eqb (length cs) (asked k) ≡ b
        → of_marked b (cells_line (between (Some k) 1 false) cs).wrong ≡ of_marked b (not (contents_fit (widths k) cs))
    go true e =
        let as_many : length cs ≡ asked k = eqb-true (length cs) (asked k) e in
        ap (of_marked true) (wrong_read k cs 0 false (omega (arith, four_asked k)))
    go false e = refl

-- what refuses the row, by the reader
pub fault_read : (r : Row) → verdict (cells_line blank (r.first ∷ r.others)) ≡ row_fault r
unfolding row_fault
fault_read r = ap (λ l. verdict (cells_line l r.others)) (mark-ended r.first.content) ∙ fault_of (kind_of_content r.first.content) r.others

-- a good row has all that is asked
record Good (k : Kind) (cs : List Cell) : Type 0 where
  count : length cs ≡ asked k
  fit : contents_fit (widths k) cs ≡ true

good : (k : Kind) (cs : List Cell) → row_fault_of (Some k) cs ≡ None → Good k cs
good k cs = go (eqb (length cs) (asked k)) refl (contents_fit (widths k) cs) refl
  where
    go : (a : Bool) → eqb (length cs) (asked k) ≡ a → (b : Bool) → contents_fit (widths k) cs ≡ b
        → of_marked a (not b) ≡ None → Good k cs
    go false p b q e = absurd (none-some WrongCount (sym e))
    go true p false q e = absurd (none-some WrongField (sym e))
    go true p true q e = record { count = eqb-true (length cs) (asked k) p; fit = q }

-- the bytes of a good row are those of its one record
pub record OneRecord (r : Row) : Type 0 where
  pub bytes : cells_bytes blank (r.first ∷ r.others) ≡ encoded (pieces_of (r ∷ []))
  pub one : length (pieces_of (r ∷ [])) ≡ 1

pub record_read : (r : Row) → row_fault r ≡ None → OneRecord r
unfolding row_fault pieces_of
record_read r = go (kind_of_content r.first.content) refl
  where
    go : (m : Option Kind) → kind_of_content r.first.content ≡ m → row_fault_of m r.others ≡ None → OneRecord r
    go None e q = absurd (none-some UnknownMark (sym q))
    go (Some k) e q =
        let g = good k r.others q in
        record {
          bytes =
              rw (
                mark_bytes r.first.content,
                mark-ended r.first.content,
                e,
                mark-read r.first.content k e,
                body-read k r.others 0 false (omega (arith, g.count, four_asked k)) g.fit,
                append-nil,
              );
          one = rw e;
        }
