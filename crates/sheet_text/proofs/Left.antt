-- What may be left of a line of RFC 4180 where a byte stands; and what a byte before it makes of that.
use Prim.Native.Nat.{ℕ}
use mathlib.Core.Path.{◌≡◌, refl, sym, ap, ◌∙◌}
use mathlib.Core.Logic.{◌⊎◌, ⊎_map}
use mathlib.Core.List.{List, [], ◌∷◌, ◌++◌, append_assoc, append-nil}
use mathlib.Core.Bool.{Bool, true, false, not, ◌&&◌, ◌||◌, false≢true}
use lib.Dec.{eqb}
use Rattle.memory.proofs.Tools.{and_make}
use Rattle.sheet_text.specs.Turn.{Spot, Fresh, Bare, Quoted, Closed, Return, quote, comma, return, newline, special}
use Rattle.sheet_text.specs.Rows.{Cell, Row, all_plain, cell_ok, cells_ok, doubled, cell_text, others_text, row_text}
use Rattle.sheet_text.specs.Claims.{FirstLine}

-- What may be left -------------------------------------------------------------------------------------------------------------------

-- what stands behind a row: the end of the text, or CR LF and anything
abbrev pub After : List ℕ → Type 0
After rest = (rest ≡ []) ⊎ ((more : List ℕ) × (rest ≡ return ∷ newline ∷ more))

-- what stands behind a field: the other fields of its row, and what is behind the row
pub record Behind : Type 0 where
  pub cells : List Cell
  pub cells_ok_lem : cells_ok cells ≡ true
  pub rest : List ℕ
  pub after : After rest

abbrev pub behind_text : Behind → List ℕ
behind_text k = others_text k.cells ++ k.rest

-- a text whose front is such a part of a field
pub record Left (Part : List ℕ → Type 0) (text : List ℕ) : Type 0 where
  pub front : List ℕ
  pub part : Part front
  pub behind : Behind
  pub is : text ≡ front ++ behind_text behind

-- What may still be there of a field: nothing, bare content, content with its closing quote, or the field as a whole.
abbrev pub Nothing : List ℕ → Type 0
Nothing front = front ≡ []

abbrev pub Plain : List ℕ → Type 0
Plain front = all_plain front ≡ true

abbrev pub InQuotes : List ℕ → Type 0
InQuotes front = (content : List ℕ) × (front ≡ doubled content ++ (quote ∷ []))

abbrev pub Whole : List ℕ → Type 0
Whole front = (c : Cell) × (cell_ok c ≡ true) × (front ≡ cell_text c)

-- What is left where the next byte stands at a spot. A quote between quotes may be the first of two, and a CR is one with the LF behind
-- it: these two are told with what is left.
abbrev pub LeftAt : Spot → List ℕ → Type 0
LeftAt Fresh text = Left Whole text
LeftAt Bare text = Left Plain text
LeftAt Quoted text = Left InQuotes text
LeftAt Closed text = Left InQuotes (quote ∷ text)
LeftAt Return text = Left Nothing (return ∷ text)

-- Bytes before what is left ------------------------------------------------------------------------------------------------------------

-- the front is another part too, or becomes one by a byte before it
module _ {F G : List ℕ → Type 0} {text : List ℕ} where
  pub seen : ((front : List ℕ) → F front → G front) → Left F text → Left G text
  seen f l = record { front = l.front; part = f l.front l.part; behind = l.behind; is = l.is }

  pub more : (b : ℕ) → ((front : List ℕ) → F front → G (b ∷ front)) → Left F text → Left G (b ∷ text)
  more b f l = record { front = b ∷ l.front; part = f l.front l.part; behind = l.behind; is = ap (λ (t : List ℕ). b ∷ t) l.is }

-- the end of a row
pub row-ended : {text : List ℕ} → After text → Left Nothing text
unfolding others_text
row-ended {text} a = record { front = []; part = refl; behind = record { cells = []; cells_ok_lem = refl; rest = text; after = a }; is = refl }

-- a comma before a field
pub before_field : {text : List ℕ} → Left Whole text → Left Nothing (comma ∷ text)
unfolding others_text
before_field l =
    let k = l.behind in
    record {
      front = [];
      part = refl;
      behind =
          record {
            cells = l.part.0 ∷ k.cells;
            cells_ok_lem = and_make l.part.1 k.cells_ok_lem;
            rest = k.rest;
            after = k.after;
          };
      is = ap (λ (t : List ℕ). comma ∷ t) (l.is ∙ rw (l.part.2, append_assoc));
    }

-- a line from its first field on
pub line_of : {text : List ℕ} → Left Whole text → FirstLine text
unfolding row_text
line_of {text} l =
    record { row = row; ok = and_make l.part.1 l.behind.cells_ok_lem; is = ⊎_map (λ e. by e ∙ append-nil _) (λ m. (m.0, by m.1)) l.behind.after }
  where
    row : Row
    row = record { first = l.part.0; others = l.behind.cells }

    by : {rest : List ℕ} → l.behind.rest ≡ rest → text ≡ row_text row ++ rest
    by e = l.is ∙ rw (l.part.2, append_assoc, e)

-- The parts of a field -----------------------------------------------------------------------------------------------------------------

pub nothing-plain : (front : List ℕ) → Nothing front → Plain front
nothing-plain front e = rw e

pub plain-whole : (front : List ℕ) → Plain front → Whole front
unfolding cell_text
plain-whole front e = (record { quoted = false; content = front }, e, refl)

pub quoted_whole : (front : List ℕ) → InQuotes front → Whole (quote ∷ front)
unfolding cell_text
quoted_whole front (content, e) = (record { quoted = true; content = content }, refl, rw e)

pub closing : (front : List ℕ) → Nothing front → InQuotes (quote ∷ front)
unfolding doubled
closing front e = ([], rw e)

pub quoted_byte : (b : ℕ) → eqb b quote ≡ false → (front : List ℕ) → InQuotes front → InQuotes (b ∷ front)
unfolding doubled
quoted_byte b other front (content, e) = (b ∷ content, rw (other, e))

-- two quotes between quotes are one
pub two_quotes : {text : List ℕ} → Left InQuotes text → Left InQuotes (quote ∷ quote ∷ text)
unfolding doubled
two_quotes l =
    record {
      front = quote ∷ quote ∷ l.front;
      part = (quote ∷ l.part.0, rw l.part.1);
      behind = l.behind;
      is = ap (λ (t : List ℕ). quote ∷ quote ∷ t) l.is;
    }

none_of_four : (a b c d : Bool) → (a || (b || (c || d))) ≡ false → (not a && (not b && (not c && not d))) ≡ true
none_of_four true b c d e = absurd (false≢true (sym e))
none_of_four false true c d e = absurd (false≢true (sym e))
none_of_four false false true d e = absurd (false≢true (sym e))
none_of_four false false false true e = absurd (false≢true (sym e))
none_of_four false false false false e = refl

pub plain_byte : (b : ℕ) → special b ≡ false → (front : List ℕ) → Plain front → Plain (b ∷ front)
plain_byte b e front p = and_make (none_of_four (eqb b quote) (eqb b comma) (eqb b return) (eqb b newline) e) p
