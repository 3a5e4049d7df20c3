-- Every text is rows and then a last row or a line that is none; such a line is answered 30; and so nothing is read but rows.
use Rattle.std.specs.Prelude.{Option, None, Some}
use Prim.Native.Nat.{ℕ, zero, suc, ◌+◌, ◌<◌}
use mathlib.Core.Path.{◌≡◌, refl, sym, ap, ◌∙◌}
use mathlib.Core.Logic.{◌⊎◌, inl, inr, ◌≢◌, ⊎_elim, ⊎_map}
use mathlib.Core.List.{List, [], ◌∷◌, ◌++◌, append_assoc}
use mathlib.Core.Bool.{true, not}
use lib.Dec.{eqb}
use lib.ListN.{length, length-append}
use native.Mathlib.Omega.{arith}
use borrow.Author.Tests.{lt-ltb}
use Rattle.memory.proofs.Tools.{if_cases, and_0, and_1, and_make}
use Rattle.session_marks.specs.declared.Kind.{Kind}
use Rattle.session_fields.specs.Fields.{widths}
use Rattle.session_split.specs.Session.{most_bytes}
use Rattle.std.proofs.lemmas.Option.{none-some}
use Rattle.sheet_text.specs.Answer.{TextFault, BadQuoting, TooLong, told}
use Rattle.sheet_text.specs.Turn.{return, newline}
use Rattle.sheet_text.specs.Read.{Reader, begin, feed, finish, read_of}
use Rattle.sheet_text.specs.Rows.{Cell, Row, row_ok, rows_ok, row_text, rows_text, asked, contents_fit, kind_of_content, row_fault_of, row_fault, rows_fault}
use Rattle.sheet_text.specs.Claims.{IsRows, OnlyRowsAreRead, FirstLine, Astray, AstrayIsTold, LastRow, Divided, EveryTextDivides}
use Rattle.sheet_text.proofs.Feed.{feed_append, refused_stays}
use Rattle.sheet_text.proofs.FirstLine.{Is30, first_line}
use Rattle.sheet_text.proofs.ReadRows.{start, after_row, row_length, row_goes, row_ends, faulty_row, long_row, came, rows_snoc, first_fault_decides}

pub astray_is_told : AstrayIsTold
unfolding read_of
astray_is_told rows rest ok fine astray =
    let c = came rows 0 0 ok in
    rw (feed_append begin (rows_text rows) rest, c.goes.comes, (c.good fine).0)
    (⊎_elim (λ l. absurd (astray l)) (λ e. ap told e) (first_line rest _ _))

-- Is there a line? ---------------------------------------------------------------------------------------------------------------------

-- A reader that has more bytes than a session may have refuses at the first line's end, and not with 30: so it tells a line from none.
abbrev full : Reader
full = start (suc most_bytes) 0

not_30 : (m : Option Kind) (cs : List Cell) → row_fault_of m cs ≢ Some BadQuoting
not_30 None cs = λ e. cc
not_30 (Some k) cs =
    if_cases (λ (v : Option TextFault). v ≢ Some BadQuoting) (not (eqb (length cs) (asked k))) _ _ (λ h e. cc) (λ h.
    if_cases (λ (v : Option TextFault). v ≢ Some BadQuoting) (not (contents_fit (widths k) cs)) _ _ (λ h e. cc) (λ h e. cc))

-- something refuses, and not with 30
record Other (v : Option TextFault) : Type 0 where
  fault : TextFault
  is : v ≡ Some fault
  not_30 : v ≢ Some BadQuoting

row-refused : (r : Row) → Other (after_row (suc most_bytes) 0 r).fault
unfolding row_fault
row-refused r = go (row_fault r) refl
  where
    go : (v : Option TextFault) → row_fault r ≡ v → Other (after_row (suc most_bytes) 0 r).fault
    go None fine =
        let long : most_bytes < suc most_bytes + row_length r = omega arith in
        rw (long_row (suc most_bytes) 0 r fine (lt-ltb _ _ long)) (record { fault = TooLong; is = refl; not_30 = λ e. cc })
    go (Some f) bad =
        rw (faulty_row (suc most_bytes) 0 r bad)
        (record { fault = f; is = refl; not_30 = rw bad at (not_30 (kind_of_content r.first.content) r.others) })

-- A line by itself, and with its end and more behind it, is not answered 30.
module _ (r : Row) (ok : row_ok r ≡ true) where
  last_not_30 : Is30 full (row_text r) → ⊥
  unfolding feed finish
  last_not_30 e = by (row_text r) refl
    where
      by : (t : List ℕ) → row_text r ≡ t → ⊥
      by [] none = none-some BadQuoting (rw none at e)
      by (b ∷ t) some =
          let ends = row_ends (suc most_bytes) 0 r ok (λ none. let z : ◌≡◌ {A = ℕ} 0 1 = cc in omega arith) in
          (row-refused r).not_30 (rw ends.comes at e)

  line_not_30 : (more : List ℕ) → Is30 full (row_text r ++ (return ∷ newline ∷ more)) → ⊥
  line_not_30 more e =
      let f : Is30 full ((row_text r ++ (return ∷ newline ∷ [])) ++ more) = rw append_assoc e in
      let ended = refused_stays (after_row (suc most_bytes) 0 r) (row-refused r).is more in
      (row-refused r).not_30 (rw (feed_append, (row_goes (suc most_bytes) 0 r ok).comes, ended) at f)

line? : (text : List ℕ) → FirstLine text ⊎ Astray text
line? text =
    ⊎_map (λ l. l)
    (λ e l. ⊎_elim (λ is. last_not_30 l.row l.ok (rw is at e)) (λ m. line_not_30 l.row l.ok m.0 (rw m.1 at e)) l.is)
    (first_line text (suc most_bytes) 0)

-- The whole text -----------------------------------------------------------------------------------------------------------------------

module _ {text : List ℕ} where
  -- no line with its end is left
  at_last : LastRow text ⊎ Astray text → Divided text
  unfolding rows_text
  at_last e = record { rows = []; ok = refl; rest = text; is = refl; ends = e }

  -- a line with its end, and what is behind it
  module _ (r : Row) (more : List ℕ) (is : text ≡ row_text r ++ (return ∷ newline ∷ more)) where
    shorter : length more < length text
    shorter = omega (arith, ap length is, length-append (row_text r) (return ∷ newline ∷ more))

    line_before : row_ok r ≡ true → Divided more → Divided text
    unfolding rows_text
    line_before ok d =
        record {
          rows = r ∷ d.rows;
          ok = and_make ok d.ok;
          rest = d.rest;
          is = is ∙ rw (append_assoc, ← d.is);
          ends = d.ends;
        }

  by-line : FirstLine text → ((more : List ℕ) → length more < length text → Divided more) → Divided text
  by-line l later =
      ⊎_elim (λ is. at_last (inl (l.row, l.ok, is)))
      (λ m. line_before l.row m.0 m.1 l.ok (later m.0 (shorter l.row m.0 m.1)))
      l.is

-- a text of fewer bytes than that
divide : (most : ℕ) (text : List ℕ) → length text < most → Divided text
divide zero text short = absurd (omega arith)
divide (suc most) text short =
    ⊎_elim (λ l. by-line l (λ more fewer. divide most more (omega arith))) (λ astray. at_last (inr astray)) (line? text)

pub every_text_divides : EveryTextDivides
every_text_divides text = divide (suc (length text)) text (omega arith)

-- rows, and a row more
rows_ok_snoc : (rows : List Row) (r : Row) → rows_ok rows ≡ true → row_ok r ≡ true → rows_ok (rows ++ (r ∷ [])) ≡ true
rows_ok_snoc [] r ok row_is_ok = and_make row_is_ok refl
rows_ok_snoc (q ∷ rows) r ok row_is_ok = and_make (and_0 (row_ok q) (rows_ok rows) ok) (rows_ok_snoc rows r (and_1 (row_ok q) (rows_ok rows) ok) row_is_ok)

module _ (text : List ℕ) (e : (read_of text).fault ≡ None) (d : Divided text) where
  read_so : (read_of (rows_text d.rows ++ d.rest)).fault ≡ None
  read_so = rw d.is at e

  not_astray : Astray d.rest → (v : Option TextFault) → rows_fault 0 d.rows ≡ v → ⊥
  not_astray astray None fine =
      let z : ◌≡◌ {A = ℕ} 30 0 = sym (astray_is_told d.rows d.rest d.ok fine astray) ∙ ap told read_so in omega arith
  not_astray astray (Some f) bad = none-some f (sym read_so ∙ first_fault_decides d.rows d.rest f d.ok bad)

  rows_of : LastRow d.rest ⊎ Astray d.rest → IsRows text
  rows_of (inl (r, row_is_ok, is)) =
      let ends = return ∷ newline ∷ [] in
      record {
        rows = d.rows ++ (r ∷ []);
        ok = rows_ok_snoc d.rows r d.ok row_is_ok;
        is = inr (ap (λ (t : List ℕ). t ++ ends) d.is ∙ rw (is, append_assoc, rows_snoc d.rows r));
      }
  rows_of (inr astray) = absurd (not_astray astray (rows_fault 0 d.rows) refl)

pub only_rows_are_read : OnlyRowsAreRead
only_rows_are_read text e = let d = every_text_divides text in rows_of text e d d.ends
