-- The first line that a reader comes to is a row of RFC 4180, or the text is answered 30: by what is left of the line, from its end to
-- its beginning.
use Rattle.std.specs.Prelude.{None, Some}
use Prim.Native.Nat.{ℕ}
use mathlib.Core.Path.{◌≡◌, refl, ap, ◌∙◌}
use mathlib.Core.Logic.{◌⊎◌, inl, inr, ⊎_map}
use mathlib.Core.List.{List, [], ◌∷◌}
use lib.Dec.{eqb}
use borrow.Author.Tests.{eqb-true}
use Rattle.memory.proofs.Tools.{if_cases}
use Rattle.sheet_text.specs.Turn.{Spot, Fresh, Bare, Quoted, Closed, Return, Turn, Content, Beside, FieldEnds, LineEnds, Stray, quote, comma, return, newline, special, leave, bare, turn, ending}
use Rattle.sheet_text.specs.Answer.{BadQuoting}
use Rattle.sheet_text.specs.Line.{blank}
use Rattle.sheet_text.specs.Read.{Reader, reader, act, step, feed, finish}
use Rattle.sheet_text.specs.Claims.{FirstLine}
use Rattle.sheet_text.proofs.Feed.{refused_stays}
use Rattle.sheet_text.proofs.Left.{Left, Nothing, Plain, Whole, LeftAt, seen, more, row-ended, before_field, line_of, nothing-plain, plain-whole, quoted_whole, closing, quoted_byte, two_quotes, plain_byte}

-- Each byte ----------------------------------------------------------------------------------------------------------------------------

-- what is left behind a byte, by what the byte is; behind a line anything may stand
abbrev LeftBy : Turn → List ℕ → Type 0
LeftBy (Content s) text = LeftAt s text
LeftBy (Beside s) text = LeftAt s text
LeftBy FieldEnds text = Left Whole text
LeftBy LineEnds text = Unit {0}
LeftBy Stray text = ⊥

module _ (b : ℕ) (text : List ℕ) where
  -- what is left behind the byte tells this of the byte and what is left
  abbrev Tells : Type 0 → Turn → Type 0
  Tells Fact t = LeftBy t text → Fact

  behind_field : Tells (Left Nothing (b ∷ text)) (leave b)
  unfolding leave
  behind_field =
      if_cases (Tells (Left Nothing (b ∷ text))) (eqb b comma) _ _ (λ e l. rw (eqb-true b comma e) (before_field l)) (λ e.
      if_cases (Tells (Left Nothing (b ∷ text))) (eqb b return) _ _ (λ e l. rw (eqb-true b return e) l) (λ e l. absurd l))

  in_bare : Tells (Left Plain (b ∷ text)) (bare b)
  unfolding bare
  in_bare =
      if_cases (Tells (Left Plain (b ∷ text))) (special b) _ _ (λ e l. seen nothing-plain (behind_field l))
      (λ e. more b (plain_byte b e))

  at_spot : (s : Spot) → Tells (LeftAt s (b ∷ text)) (turn s b)
  at_spot Fresh =
      if_cases (Tells (LeftAt Fresh (b ∷ text))) (eqb b quote) _ _
      (λ e l. rw (eqb-true b quote e) (more quote quoted_whole l))
      (λ e l. seen plain-whole (in_bare l))
  at_spot Bare = in_bare
  at_spot Quoted =
      if_cases (Tells (LeftAt Quoted (b ∷ text))) (eqb b quote) _ _ (λ e l. rw (eqb-true b quote e) l) (λ e. more b (quoted_byte b e))
  at_spot Closed =
      if_cases (Tells (LeftAt Closed (b ∷ text))) (eqb b quote) _ _
      (λ e l. rw (eqb-true b quote e) (two_quotes l))
      (λ e l. more quote closing (behind_field l))
  at_spot Return =
      if_cases (Tells (LeftAt Return (b ∷ text))) (eqb b newline) _ _
      (λ e l. rw (eqb-true b newline e) (row-ended (inr (text, refl))))
      (λ e l. absurd l)

-- The whole line -----------------------------------------------------------------------------------------------------------------------

-- a text and its end, read from there, are answered 30
abbrev pub Is30 : Reader → List ℕ → Type 0
Is30 r text = (finish (feed r text)).fault ≡ Some BadQuoting

-- a byte, and the end of the text, at a reader that has not refused
step_acts : (r : Reader) (b : ℕ) → r.fault ≡ None → step r b ≡ act r (turn r.spot b) b
unfolding step
step_acts r b z = rw z

finish_acts : (r : Reader) → r.fault ≡ None → finish r ≡ act r (ending r.spot r.line.fields) 0
unfolding finish
finish_acts r z = rw z

-- what is known of a text by a reader at any spot
abbrev Told : List ℕ → Type 0
Told text = (r : Reader) → r.fault ≡ None → LeftAt r.spot text ⊎ Is30 r text

by_turn : (text : List ℕ) → Told text → (r : Reader) → r.fault ≡ None → (t : Turn) (b : ℕ) → LeftBy t text ⊎ Is30 (act r t b) text
by_turn text told r z (Content s) b = told (act r (Content s) b) z
by_turn text told r z (Beside s) b = told (act r (Beside s) b) z
by_turn text told r z FieldEnds b = told (act r FieldEnds b) z
by_turn text told r z LineEnds b = inl tt
by_turn text told r z Stray b = inr (ap (λ (x : Reader). x.fault) (refused_stays (act r Stray b) refl text))

-- §18.4: the end of the text
at_end : (s : Spot) (n : ℕ) → LeftAt s [] ⊎ (ending s n ≡ Stray)
at_end Fresh n = inl (seen (λ front p. plain-whole front (nothing-plain front p)) (row-ended (inl refl)))
at_end Bare n = inl (seen nothing-plain (row-ended (inl refl)))
at_end Quoted n = inr refl
at_end Closed n = inl (more quote closing (row-ended (inl refl)))
at_end Return n = inr refl

told : (text : List ℕ) → Told text
unfolding feed
told [] r z =
    ⊎_map (λ l. l) (λ stray. ap (λ (x : Reader). x.fault) (finish_acts r z ∙ ap (λ (t : Turn). act r t 0) stray))
    (at_end r.spot r.line.fields)
told (b ∷ text) r z =
    rw (step_acts r b z) (⊎_map (at_spot b text r.spot) (λ e. e) (by_turn text (told text) r z (turn r.spot b) b))

pub first_line : (text : List ℕ) (n i : ℕ) → FirstLine text ⊎ Is30 (reader Fresh blank n i None) text
first_line text n i = ⊎_map line_of (λ e. e) (told text (reader Fresh blank n i None) refl)
