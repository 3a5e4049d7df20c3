-- A row that is read: its fields go into the line one by one, and CR LF or the end of the text ends it (§18.3, §18.4).
use Rattle.std.specs.Prelude.{None}
use Prim.Native.Nat.{ℕ, ◌+◌}
use mathlib.Core.Path.{◌≡◌}
use mathlib.Core.Logic.{◌⊎◌, inl, ◌≢◌}
use mathlib.Core.List.{List, [], ◌∷◌, ◌++◌, append_assoc, append-nil}
use mathlib.Core.Bool.{true}
use lib.Dec.{ltb, eqb}
use lib.ListN.{length, length-append}
use lib.Seq.{append_snoc}
use native.Mathlib.Omega.{arith}
use borrow.Author.Tests.{eqb-false}
use Rattle.memory.proofs.Tools.{if_cases, and_0, and_1}
use Rattle.sheet_text.specs.Turn.{Fresh, comma, return, newline}
use Rattle.sheet_text.specs.Line.{Line, field_bytes, field_ended}
use Rattle.sheet_text.specs.Read.{Reader, reader, line_ended}
use Rattle.sheet_text.specs.Rows.{Cell, cell_ok, cells_ok, cell_text, others_text}
use Rattle.sheet_text.proofs.Feed.{Goes, goes_on, Ends, ends-after}
use Rattle.sheet_text.proofs.ReadCell.{filled, comma_goes, line_goes, end_goes}

-- The fields of a line as the reader takes them: the line after them all, and their bytes.
abbrev pub cells_line : Line → List Cell → Line
cells_line l [] = l
cells_line l (c ∷ cs) = cells_line (field_ended (filled l c.content)) cs

abbrev pub cells_bytes : Line → List Cell → List ℕ
cells_bytes l [] = []
cells_bytes l (c ∷ cs) = field_bytes (filled l c.content) ++ cells_bytes (field_ended (filled l c.content)) cs

-- a field has ended
some-ended : (l : Line) → (field_ended l).fields ≢ 0
unfolding field_ended
some-ended l = if_cases (λ (l : Line). l.fields ≢ 0) (eqb l.fields 0) _ _ (λ e. one_not_none)
    (λ e. if_cases (λ n. n ≢ 0) (ltb l.fields 6) _ _ (λ f (q : l.fields + 1 ≡ 0). omega arith) (λ f. eqb-false l.fields 0 e))
  where
    one_not_none : ◌≡◌ {A = ℕ} 1 0 → ⊥
    one_not_none q = omega arith

-- Feeding a row ----------------------------------------------------------------------------------------------------------------------

-- the reader at the end of a line, which had so many bytes before it
abbrev pub after : Line → ℕ → ℕ → List Cell → Reader
after l n i cs = line_ended (cells_line l cs) (n + length (cells_bytes l cs)) i

grouped : (n : ℕ) (a b : List ℕ) → n + length a + length b ≡ n + length (a ++ b)
grouped n a b = omega (arith, length-append a b)

-- a row with its CR LF
pub cells_go : (l : Line) (n i : ℕ) (c : Cell) (cs : List Cell) → cell_ok c ≡ true → cells_ok cs ≡ true
    → Goes (reader Fresh l n i None) (cell_text c ++ (others_text cs ++ (return ∷ newline ∷ []))) (after l n i (c ∷ cs)) (cells_bytes l (c ∷ cs))
unfolding others_text
cells_go l n i c [] p q = rw append-nil (line_goes l n i c p)
cells_go l n i c (d ∷ cs) p q =
    let full = filled l c.content in
    rw (
      ← append_snoc (cell_text c) comma _,
      append_assoc (cell_text d) (others_text cs) (return ∷ newline ∷ []),
      ← grouped n (field_bytes full) (cells_bytes (field_ended full) (d ∷ cs)),
    )
    (goes_on (comma_goes l n i c p)
    (cells_go (field_ended full) (n + length (field_bytes full)) i d cs (and_0 (cell_ok d) (cells_ok cs) q) (and_1 (cell_ok d) (cells_ok cs) q)))

-- a row that the text ends with
pub cells_end : (l : Line) (n i : ℕ) (c : Cell) (cs : List Cell) → cell_ok c ≡ true → cells_ok cs ≡ true
    → (l.fields ≢ 0) ⊎ (cell_text c ++ others_text cs ≢ [])
    → Ends (reader Fresh l n i None) (cell_text c ++ others_text cs) (after l n i (c ∷ cs)) (cells_bytes l (c ∷ cs))
unfolding others_text
cells_end l n i c [] p q some = rw (append-nil (cell_text c), append-nil) (end_goes l n i c p (rw append-nil at some))
cells_end l n i c (d ∷ cs) p q some =
    let full = filled l c.content in
    rw (← append_snoc (cell_text c) comma _, ← grouped n (field_bytes full) (cells_bytes (field_ended full) (d ∷ cs)))
    (ends-after (comma_goes l n i c p)
    (cells_end (field_ended full) (n + length (field_bytes full)) i d cs (and_0 (cell_ok d) (cells_ok cs) q) (and_1 (cell_ok d) (cells_ok cs) q)
    (inl (some-ended full))))
