-- A field that is read (§18.3): its content goes into the line, in quotes or without, and no byte of the session comes of it yet.
use Rattle.std.specs.Prelude.{None, if◌then◌else◌}
use Prim.Native.Nat.{ℕ, ◌+◌}
use mathlib.Core.Path.{◌≡◌, refl, subst}
use mathlib.Core.Logic.{◌⊎◌, inl, inr, ◌≢◌}
use mathlib.Core.List.{List, [], ◌∷◌, ◌++◌, append-nil}
use mathlib.Core.Bool.{Bool, true, false, not, ◌&&◌, ◌||◌}
use lib.Dec.{eqb}
use lib.ListN.{length}
use borrow.Author.Tests.{eqb-true, not-true, ne_eqb}
use Rattle.memory.proofs.Tools.{if_cases, and_0, and_1}
use Rattle.sheet_text.specs.Turn.{Spot, Fresh, Bare, Quoted, Closed, Return, Turn, Content, LineEnds, FieldEnds, Beside, turn, quote, comma, return, newline, leave, bare, ending}
use Rattle.sheet_text.specs.Line.{Line, with_byte, field_bytes, field_ended}
use Rattle.sheet_text.specs.Read.{Reader, reader, line_ended, act, act_bytes, step, step_bytes, finish, finish_bytes}
use Rattle.sheet_text.specs.Rows.{Cell, plain, all_plain, cell_ok, doubled, cell_text}
use Rattle.sheet_text.proofs.Feed.{Goes, goes_nowhere, goes_on, goes_step, Ends, ends_so}

-- a line with some bytes more in its field
abbrev pub filled : Line → List ℕ → Line
filled l [] = l
filled l (b ∷ bs) = filled (with_byte l b) bs

-- where the next byte stands behind a field
abbrev pub bare_spot : List ℕ → Spot
bare_spot [] = Fresh
bare_spot (b ∷ bs) = Bare

abbrev pub behind : Cell → Spot
behind c = if c.quoted then Closed else bare_spot c.content

module _ (b : ℕ) (h : plain b ≡ true) where
  no_quote : eqb b quote ≡ false
  no_quote = not-true (eqb b quote) (and_0 (not (eqb b quote)) _ h)

  plain_content : bare b ≡ Content Bare
  unfolding bare
  plain_content =
      let past-quote = and_1 (not (eqb b quote)) (not (eqb b comma) && (not (eqb b return) && not (eqb b newline))) h in
      let past-comma = and_1 (not (eqb b comma)) (not (eqb b return) && not (eqb b newline)) past-quote in
      rw (
        no_quote,
        not-true (eqb b comma) (and_0 (not (eqb b comma)) _ past-quote),
        not-true (eqb b return) (and_0 (not (eqb b return)) _ past-comma),
        not-true (eqb b newline) (and_1 (not (eqb b return)) (not (eqb b newline)) past-comma),
      )

-- the byte that is read next, by what it is where it stands
pub goes_turn : (s : Spot) (l : Line) (n i x : ℕ) (t : Turn) → turn s x ≡ t → {text : List ℕ} {r : Reader} {bytes : List ℕ}
    → Goes (act (reader s l n i None) t x) text r bytes → Goes (reader s l n i None) (x ∷ text) r (act_bytes (reader s l n i None) t ++ bytes)
unfolding step step_bytes
goes_turn s l n i x t e {text} {r} {bytes} =
    subst (λ t. Goes (act (reader s l n i None) t x) text r bytes → Goes (reader s l n i None) (x ∷ text) r (act_bytes (reader s l n i None) t ++ bytes)) e
    goes_step

module _ (n i : ℕ) where
  bare_goes : (l : Line) (c : List ℕ) → all_plain c ≡ true → Goes (reader Bare l n i None) c (reader Bare (filled l c) n i None) []
  bare_goes l [] h = goes_nowhere _
  bare_goes l (b ∷ bs) h =
      goes_turn Bare l n i b (Content Bare) (plain_content b (and_0 (plain b) (all_plain bs) h))
      (bare_goes (with_byte l b) bs (and_1 (plain b) (all_plain bs) h))

  fresh_goes : (l : Line) (c : List ℕ) → all_plain c ≡ true → Goes (reader Fresh l n i None) c (reader (bare_spot c) (filled l c) n i None) []
  fresh_goes l [] h = goes_nowhere _
  fresh_goes l (b ∷ bs) h =
      let p = and_0 (plain b) (all_plain bs) h in
      goes_turn Fresh l n i b (Content Bare) (rw (no_quote b p) (plain_content b p))
      (bare_goes (with_byte l b) bs (and_1 (plain b) (all_plain bs) h))

  -- between quotes, up to the last one
  quoted_goes : (l : Line) (c : List ℕ) → Goes (reader Quoted l n i None) (doubled c ++ (quote ∷ [])) (reader Closed (filled l c) n i None) []
  unfolding doubled
  quoted_goes l [] = goes_turn Quoted l n i quote (Beside Closed) refl (goes_nowhere _)
  quoted_goes l (b ∷ bs) = go (eqb b quote) refl (quoted_goes (with_byte l b) bs)
    where
      go : (x : Bool) → eqb b quote ≡ x → Goes (reader Quoted (with_byte l b) n i None) (doubled bs ++ (quote ∷ [])) (reader Closed (filled (with_byte l b) bs) n i None) []
          → Goes (reader Quoted l n i None) ((if x then quote ∷ quote ∷ doubled bs else b ∷ doubled bs) ++ (quote ∷ [])) (reader Closed (filled (with_byte l b) bs) n i None) []
      go true e h =
          goes_turn Quoted l n i quote (Beside Closed) refl
          (goes_turn Closed l n i quote (Content Quoted) refl
          (subst
          (λ x. Goes (reader Quoted (with_byte l x) n i None) (doubled bs ++ (quote ∷ [])) (reader Closed (filled (with_byte l b) bs) n i None) [])
          (eqb-true b quote e) h))
      go false e h = goes_turn Quoted l n i b (Content Quoted) (rw e) h

  pub cell_goes : (l : Line) (c : Cell) → cell_ok c ≡ true → Goes (reader Fresh l n i None) (cell_text c) (reader (behind c) (filled l c.content) n i None) []
  unfolding cell_text
  cell_goes l c = go c.quoted
    where
      go : (q : Bool) → (q || all_plain c.content) ≡ true
          → Goes (reader Fresh l n i None) (if q then quote ∷ (doubled c.content ++ (quote ∷ [])) else c.content)
          (reader (if q then Closed else bare_spot c.content) (filled l c.content) n i None) []
      go true h = goes_turn Fresh l n i quote (Beside Quoted) refl (quoted_goes l c.content)
      go false h = fresh_goes l c.content h

-- What ends a field: a comma, CR LF, or the end of the text ---------------------------------------------------------------------------

behind_all : (P : Spot → Type 0) → P Fresh → P Bare → P Closed → (c : Cell) → P (behind c)
behind_all P fresh bare closed c = if_cases P c.quoted _ _ (λ e. closed) (λ e. go c.content)
  where
    go : (l : List ℕ) → P (bare_spot l)
    go [] = fresh
    go (b ∷ bs) = bare

comma-ends : (c : Cell) → turn (behind c) comma ≡ FieldEnds
unfolding bare leave
comma-ends = behind_all (λ s. turn s comma ≡ FieldEnds) refl refl refl

return_follows : (c : Cell) → turn (behind c) return ≡ Beside Return
unfolding bare leave
return_follows = behind_all (λ s. turn s return ≡ Beside Return) refl refl refl

line-ends : (c : Cell) (n : ℕ) → (n ≢ 0) ⊎ (cell_text c ≢ []) → ending (behind c) n ≡ LineEnds
unfolding cell_text
line-ends c n h = go c.quoted c.content h
  where
    go : (q : Bool) (l : List ℕ) → (n ≢ 0) ⊎ ((if q then quote ∷ (doubled l ++ (quote ∷ [])) else l) ≢ [])
        → ending (if q then Closed else bare_spot l) n ≡ LineEnds
    go true l h = refl
    go false [] (inl some) = rw (ne_eqb n 0 some)
    go false [] (inr none) = absurd (none refl)
    go false (b ∷ bs) h = refl

fields_stay : (l : Line) (c : List ℕ) → (filled l c).fields ≡ l.fields
unfolding with_byte
fields_stay l [] = refl
fields_stay l (b ∷ bs) = fields_stay (with_byte l b) bs

-- a field that ends at a comma, or with its line
module _ (l : Line) (n i : ℕ) (c : Cell) (ok : cell_ok c ≡ true) where
  abbrev full : Line
  full = filled l c.content

  pub comma_goes : Goes (reader Fresh l n i None) (cell_text c ++ (comma ∷ [])) (reader Fresh (field_ended full) (n + length (field_bytes full)) i None) (field_bytes full)
  comma_goes = rw append-nil at (goes_on (cell_goes n i l c ok) (goes_turn (behind c) full n i comma FieldEnds (comma-ends c) (goes_nowhere _)))

  pub line_goes : Goes (reader Fresh l n i None) (cell_text c ++ (return ∷ newline ∷ [])) (line_ended (field_ended full) (n + length (field_bytes full)) i) (field_bytes full)
  line_goes =
      rw append-nil at
      (goes_on (cell_goes n i l c ok)
      (goes_turn (behind c) full n i return (Beside Return) (return_follows c) (goes_turn Return full n i newline LineEnds refl (goes_nowhere _))))

  -- and with the text, if anything of the line is there: a field that has ended, or something of this one
  pub end_goes : (l.fields ≢ 0) ⊎ (cell_text c ≢ [])
      → Ends (reader Fresh l n i None) (cell_text c) (line_ended (field_ended full) (n + length (field_bytes full)) i) (field_bytes full)
  unfolding finish finish_bytes
  end_goes some = ends_so (cell_goes n i l c ok) (rw (line-ends c full.fields (also some))) (rw (line-ends c full.fields (also some)))
    where
      also : (l.fields ≢ 0) ⊎ (cell_text c ≢ []) → (full.fields ≢ 0) ⊎ (cell_text c ≢ [])
      also (inl h) = inl (rw (fields_stay l c.content) h)
      also (inr h) = inr h
