-- What reading and writing leave in a buffer, and that 35 is told of a short one alone.
use Rattle.std.specs.Prelude.{Option, None, Some, Ok, Err}
use Prim.Native.Nat.{ℕ, ◌<◌, ◌≤◌}
use mathlib.Core.Path.{◌≡◌, refl}
use mathlib.Core.List.{List}
use lib.Dec.{ltb}
use lib.ListN.{length, length-append, length-drop}
use lib.Seq.{take_all}
use native.Mathlib.Omega.{arith}
use borrow.Author.Tests.{ltb-true, ltb-false}
use Rattle.memory.proofs.Tools.{if_cases}
use Rattle.session_marks.specs.declared.Kind.{Kind}
use Rattle.session_split.specs.Session.{Split, session}
use Rattle.session_split.proofs.Promises.{splits_to_the_end}
use Rattle.session_text.specs.Text.{written}
use Rattle.sheet_text.specs.Answer.{TextFault, Cause, Text, Session, NoRoom, number_of, Answer, wrote, refused, number, lent}
use Rattle.sheet_text.specs.Read.{known_by, read_of, session_of, reading}
use Rattle.sheet_text.specs.Write.{text_of, writing_as, writing}
use Rattle.sheet_text.specs.Claims.{Leaves, BuffersAreLeft, ShortIsTold}
use Rattle.sheet_text.proofs.Lengths.{length-read}
use Rattle.sheet_text.proofs.Numbers.{of_text, of_session}

module _ (out made : List ℕ) where
  -- both claims of one answer
  abbrev Fair : Answer × List ℕ → Type 0
  Fair r = Leaves out made r × (number r.0 ≡ 35 → length out < length made)

  fair_refused : (c : Cause) (i : ℕ) → (0 < number_of c) × (number_of c < 35) → Fair (refused c i, out)
  fair_refused c i low =
      (record { refused = λ _. (refl, refl); done = λ e. absurd (omega (arith, low.0)) }, λ e. absurd (omega (arith, low.1)))

  fair_short : (i : ℕ) → length out < length made → Fair (refused NoRoom i, out)
  fair_short i less = (record { refused = λ _. (refl, refl); done = λ e. absurd (omega arith) }, λ e. less)

  fair_done : (i : ℕ) → length made ≤ length out → Fair (wrote (length made) i, written out made)
  fair_done i enough =
      let all = take_all (length out) made enough in (
        record {
          refused = λ some. absurd (some refl);
          done = λ _. (refl, rw all, rw all (simp (length-append, length-drop) (omega arith)));
        },
        λ e. absurd (omega arith),
      )

  -- the buffer is too short for what was made, or has it
  fair_made : (n i : ℕ) → n ≡ length made → Fair (lent (wrote n i) made out)
  fair_made n i e =
      rw e
      (if_cases Fair (ltb (length out) (length made)) _ _
      (λ less. fair_short i (ltb-true (length out) (length made) less))
      (λ enough. fair_done i (ltb-false (length out) (length made) enough)))

  fair_known : (f : Option TextFault) (n i : ℕ) → n ≡ length made → Fair (lent (known_by f n i) made out)
  fair_known None n i e = fair_made n i e
  fair_known (Some f) n i e = fair_refused (Text f) i (of_text f)

fair_reading : (given out : List ℕ) → Fair out (session_of given) (reading given out)
unfolding reading
fair_reading given out =
    let r = read_of given in
    fair_known out (session_of given) r.fault r.length r.lines (length-read given)

fair_writing_as : (text out : List ℕ) (n : ℕ) (s : Split)
    → ((k : Kind) → s ≡ Ok (Some k) → ⊥) → Fair out text (writing_as text out n s)
fair_writing_as text out n (Ok (Some k)) ended = absurd (ended k refl)
fair_writing_as text out n (Err f) ended = fair_refused out text (Session f) n (of_session f)
fair_writing_as text out n (Ok None) ended = fair_made out text (length text) n refl

fair_writing : (given out : List ℕ) → Fair out (text_of (session given).pieces) (writing given out)
unfolding writing
fair_writing given out =
    let s = session given in
    fair_writing_as (text_of s.pieces) out (length s.pieces) s.ended (splits_to_the_end given).0

pub buffers_are_left : BuffersAreLeft
buffers_are_left given out = ((fair_reading given out).0, (fair_writing given out).0)

pub short_is_told : ShortIsTold
short_is_told given out = ((fair_reading given out).1, (fair_writing given out).1)
