-- The fields that are written of a record's body, by the widths of its numbers: what they hold, stand for, and how long they are.
use Rattle.std.specs.Prelude.{if◌then◌else◌}
use Rattle.std.specs.List.{sum}
use Rattle.std.proofs.lemmas.List.Sums.{sum_by-cons}
use Prim.Native.Nat.{ℕ, zero, suc, ◌+◌, ◌*◌, ◌^◌, ◌<◌, ◌≤◌}
use mathlib.Core.Path.{◌≡◌, refl, sym, ap, subst}
use mathlib.Core.List.{List, [], ◌∷◌, ◌++◌, append_assoc, append-nil}
use mathlib.Core.Bool.{true, false}
use lib.Dec.{eqb}
use lib.ListN.{length, take, drop, length-append, length-drop}
use lib.Seq.{length-take-le, take-add, take-suc, drop-drop}
use native.Mathlib.Nat.{lt_of_lt_of_le}
use native.Mathlib.Omega.{arith}
use borrow.Author.Tests.{lt-ltb, ne_eqb}
use Rattle.memory.proofs.Tools.{and_make}
use Rattle.session_marks.specs.declared.Kind.{Kind}
use Rattle.session_fields.specs.Fields.{little_endian, number_at, widths}
use Rattle.session_text.specs.Text.{digits}
use Rattle.session_text.proofs.Laws.{digits-length}
use Rattle.sheet_text.specs.Line.{little}
use Rattle.sheet_text.specs.Rows.{Cell, all_plain, all_digits, decimal_from, decimal, cells_ok, cells_bare, cell_text, others_text, content_fits, contents_fit, body_of}
use Rattle.sheet_text.specs.Write.{field_text, fields_text}
use Rattle.sheet_text.specs.Claims.{Bytes}
use Rattle.sheet_text.proofs.Asked.{four_widths}
use Rattle.sheet_text.proofs.Decimal.{Writes, digits-write, digits-plain}
use Rattle.sheet_text.proofs.Little.{bytes_taken, bytes_dropped, little_back, little-fits, three_digits}

abbrev pub bare : List ℕ → Cell
bare c = record { quoted = false; content = c }

-- what is written of a number in so many bytes
abbrev pub content_of : ℕ → List ℕ → List ℕ
content_of w l = if eqb w 0 then [] else digits (little_endian l)

abbrev pub cells : List ℕ → List ℕ → List Cell
cells [] b = []
cells (w ∷ ws) b = bare (content_of w (take w b)) ∷ cells ws (drop w b)

-- One field, of so many bytes.
record Good (w : ℕ) (l c : List ℕ) : Type 0 where
  plain : all_plain c ≡ true
  fits : content_fits w c ≡ true
  back : little w (decimal c) ≡ l
  short : length c ≤ 3 * w

number_fits : (w : ℕ) (c : List ℕ) → 0 < w → 0 < length c → all_digits c ≡ true → decimal c < 256 ^ w → content_fits w c ≡ true
unfolding content_fits
number_fits w c wide some digits small =
    rw (ne_eqb w 0 (λ e. omega arith), ne_eqb (length c) 0 (λ e. omega arith))
    (and_make digits (lt-ltb (decimal c) (256 ^ w) small))

number_short : (k n : ℕ) → 0 < k → n < 10 ^ k → length (digits n) ≤ k
number_short zero n some h = absurd (omega arith)
number_short (suc k) n some h = digits-length k n h

number_good : (l : List ℕ) → Bytes l → 0 < length l → Good (length l) l (digits (little_endian l))
number_good l h some =
    let n = little_endian l in
    let w : Writes n (digits n) = digits-write n in
    let small : n < 256 ^ length l = little-fits l h in
    record {
      plain = digits-plain (digits n) w.digits;
      fits = number_fits (length l) (digits n) some w.some w.digits (rw w.is small);
      back = rw w.is (little_back l h);
      short = number_short (3 * length l) n (omega arith) (lt_of_lt_of_le small (three_digits (length l)));
    }

content_good : (l : List ℕ) → Bytes l → Good (length l) l (content_of (length l) l)
unfolding content_fits little decimal_from
content_good [] h = record { plain = refl; fits = refl; back = refl; short = omega arith }
content_good (b ∷ l) h = rw (ne_eqb (suc (length l)) 0 (λ e. omega arith)) (number_good (b ∷ l) h (omega arith))

part_good : (w : ℕ) (l : List ℕ) → length l ≡ w → Bytes l → Good w l (content_of w l)
part_good w l e h = subst (λ (v : ℕ). Good v l (content_of v l)) e (content_good l h)

-- The first so many fields of a body that has the bytes of these.
pub record Written (n : ℕ) (ws b : List ℕ) : Type 0 where
  pub ok : cells_ok (cells (take n ws) b) ≡ true
  pub bare : cells_bare (cells (take n ws) b) ≡ true
  pub fit : contents_fit ws (cells (take n ws) b) ≡ true
  pub back : body_of ws (cells (take n ws) b) ≡ take (sum (take n ws)) b
  pub short : length (others_text (cells (take n ws) b)) ≤ n + 3 * sum (take n ws)

pub cells_written : (n : ℕ) (ws b : List ℕ) → Bytes b → sum (take n ws) ≤ length b → Written n ws b
unfolding body_of others_text cell_text
cells_written zero ws b h whole = record { ok = refl; bare = refl; fit = refl; back = refl; short = omega arith }
cells_written (suc n) [] b h whole = record { ok = refl; bare = refl; fit = refl; back = refl; short = omega arith }
cells_written (suc n) (w ∷ ws) b h whole =
    let more = sum_by-cons (λ i. i) w (take n ws) in
    let one = part_good w (take w b) (length-take-le w b (omega (arith, more))) (bytes_taken w h) in
    let rest = cells_written n ws (drop w b) (bytes_dropped w h) (rw length-drop (omega (arith, more))) in
    record {
      ok = and_make one.plain rest.ok;
      bare = rest.bare;
      fit = and_make one.fits rest.fit;
      back = rw (one.back, rest.back, more) (sym (take-add w (sum (take n ws)) b));
      short = omega (arith, more, one.short, rest.short, length-append (content_of w (take w b)) (others_text (cells (take n ws) (drop w b))));
    }

-- The same fields from the first to the last.
pub cells_length : (ws b : List ℕ) → length (cells ws b) ≡ length ws
cells_length [] b = refl
cells_length (w ∷ ws) b = ap suc (cells_length ws (drop w b))

cells_more : (ws : List ℕ) (w : ℕ) (b : List ℕ)
    → cells (ws ++ (w ∷ [])) b ≡ cells ws b ++ (bare (content_of w (take w (drop (sum ws) b))) ∷ [])
cells_more [] w b = refl
cells_more (u ∷ ws) w b = rw (sum_by-cons (λ i. i) u ws, ← drop-drop (sum ws) u b, cells_more ws w (drop u b))

others_append : (cs ds : List Cell) → others_text (cs ++ ds) ≡ others_text cs ++ others_text ds
unfolding others_text
others_append [] ds = refl
others_append (c ∷ cs) ds = rw (others_append cs ds, append_assoc)

pub fields_are : (k : Kind) (b : List ℕ) (n : ℕ) → n ≤ 4 → fields_text k n b ≡ others_text (cells (take n (widths k)) b)
unfolding fields_text field_text number_at others_text cell_text
fields_are k b zero h = refl
fields_are k b (suc n) h =
    rw (take-suc (widths k) n 0 (omega (arith, four_widths k)), cells_more, others_append, append-nil, ← fields_are k b n (omega arith))
