-- What keeps the numbers of a reader small: `Small` lasts, whatever is read.
use Rattle.std.specs.Prelude.{Option, None, Some}
use Prim.Native.Nat.{ℕ, ◌+◌, ◌*◌, ◌-◌, ◌≤◌}
use mathlib.Core.Path.{◌≡◌, refl, sym}
use mathlib.Core.Logic.{◌≢◌}
use mathlib.Core.List.{List, [], ◌∷◌}
use mathlib.Core.Bool.{Bool}
use lib.Dec.{ltb, eqb}
use lib.ListN.{length}
use native.Mathlib.Omega.{arith}
use borrow.Author.Tests.{ltb-true, ltb-false, eqb-true, eqb-false}
use Rattle.std.proofs.lemmas.Option.{none-some}
use Rattle.memory.proofs.Tools.{if_cases}
use Rattle.session_marks.specs.Marks.{kind_at}
use Rattle.session_marks.specs.declared.Kind.{Kind}
use Rattle.session_fields.proofs.Table.{at_most_four, none_behind}
use Rattle.session_split.specs.Session.{most_bytes}
use Rattle.sheet_text.specs.Answer.{TextFault, UnknownMark}
use Rattle.sheet_text.specs.Turn.{Turn, Content, Beside, FieldEnds, LineEnds, Stray}
use Rattle.sheet_text.specs.Line.{Line, Letters, NoLetter, One, Two, More, kind_of, letters_of, width_at, value_of, one_more, with_byte, field_ended, field_bytes, verdict, verdict_of}
use Rattle.sheet_text.specs.Read.{Reader, Small, marked, begin, ended_by, line_ended, act, step}
use Rattle.sheet_text.proofs.Lasts.{lasts-step}
use Rattle.sheet_text.proofs.Lengths.{if_both}
use Rattle.sheet_text.proofs.Little.{length-little}

width_at_most : (m : Option Kind) (i : ℕ) → width_at m i ≤ 4
width_at_most None i = omega arith
width_at_most (Some k) i = at_most_four k i

no_fifth : (m : Option Kind) (i : ℕ) → 4 ≤ i → width_at m i ≡ 0
no_fifth None i h = refl
no_fifth (Some k) i h = none_behind k i h

marked_at_most : (m : Option Kind) → marked m ≤ 2
marked_at_most None = omega arith
marked_at_most (Some k) = omega arith

-- a mark is there with its letters
paid_mark : (m : Letters) → (marked (kind_of m) ≤ length (letters_of m)) × (length (letters_of m) ≤ 4)
paid_mark NoLetter = (omega arith, omega arith)
paid_mark (One a) = (omega arith, omega arith)
paid_mark (Two a b) = (omega (arith, marked_at_most (kind_at (a ∷ b ∷ []))), omega arith)
paid_mark More = (omega arith, omega arith)

-- What the end of a field leaves: no more than six fields, room for its bytes, and a mark that they pay for.
record Ended (l after : Line) (bytes : List ℕ) : Type 0 where
  fields : after.fields ≤ 6
  room : 4 * l.fields + length bytes ≤ 4 * after.fields
  paid : marked after.kind ≤ marked l.kind + length bytes

one_more_lem : (m : Option Kind) (n : ℕ) → n ≤ 6 → n ≢ 0 → (one_more n ≤ 6) × (4 * n + width_at m (n - 1) ≤ 4 * one_more n)
one_more_lem m n h some =
    if_cases (λ k. (k ≤ 6) × (4 * n + width_at m (n - 1) ≤ 4 * k)) (ltb n 6) (n + 1) n
    (λ e. (omega (arith, ltb-true n 6 e), omega (arith, width_at_most m (n - 1))))
    (λ e. (h, omega (arith, no_fifth m (n - 1) (omega (arith, ltb-false n 6 e)))))

ended : (l : Line) → l.fields ≤ 6 → Ended l (field_ended l) (field_bytes l)
unfolding field_ended field_bytes
ended l h =
    if_both (Ended l) (eqb l.fields 0) _ _ _ _
    (λ e.
    let p = paid_mark l.letters in
    record {
      fields = omega arith;
      room = omega (arith, eqb-true l.fields 0 e, p.1);
      paid = omega (arith, p.0);
    })
    (λ e.
    let w = length-little (width_at l.kind (l.fields - 1)) (value_of l.digits) in
    let m = one_more_lem l.kind l.fields h (eqb-false l.fields 0 e) in
    record { fields = m.0; room = omega (arith, m.1, w); paid = omega arith })

-- a field has ended
pub small_field : (r : Reader) → Small r → Small (act r FieldEnds 0)
small_field r k =
    let e = ended r.line k.fields in
    record { fields = e.fields; short = omega (arith, k.short, e.room); counted = omega (arith, k.counted, e.paid) }

-- a line that nothing refuses has a mark
known : (m : Option Kind) (n : ℕ) (wrong : Bool) → verdict_of m n wrong ≡ None → marked m ≡ 2
known None n wrong e = absurd (none-some UnknownMark (sym e))
known (Some k) n wrong e = refl

small-line_ended : (l : Line) (n i : ℕ)
    → l.fields ≤ 6 → n ≤ most_bytes + 4 * l.fields → i + marked l.kind ≤ n → Small (line_ended l n i)
unfolding line_ended
small-line_ended l n i few short counted = go (verdict l) refl
  where
    go : (v : Option TextFault) → verdict l ≡ v → Small (ended_by v l n i)
    go (Some f) e = record { fields = few; short = short; counted = counted }
    go None e =
        if_cases Small (ltb most_bytes n) _ _
        (λ _. record { fields = few; short = short; counted = counted })
        (λ s.
        let v = known l.kind l.fields l.wrong e in
        record {
          fields = omega arith;
          short = omega (arith, ltb-false most_bytes n s);
          counted = omega (arith, v);
        })

-- whatever one byte does
pub small-act : (r : Reader) (t : Turn) (b : ℕ) → Small r → Small (act r t b)
unfolding with_byte
small-act r (Content s) b k = record { fields = k.fields; short = k.short; counted = k.counted }
small-act r (Beside s) b k = record { fields = k.fields; short = k.short; counted = k.counted }
small-act r FieldEnds b k = small_field r k
small-act r LineEnds b k =
    let e = small_field r k in
    small-line_ended (field_ended r.line) (r.length + length (field_bytes r.line)) r.lines e.fields e.short e.counted
small-act r Stray b k = record { fields = k.fields; short = k.short; counted = k.counted }

pub small-begin : Small begin
small-begin = record { fields = omega arith; short = omega arith; counted = omega arith }

pub small-step : (r : Reader) (b : ℕ) → Small r → Small (step r b)
small-step = lasts-step Small small-act
