-- `sheet_write::put_line` meets its contract: the mark, a field for each number of the kind, and CR LF.
use Prim.Native.Nat.{ℕ, ◌*◌}
use mathlib.Core.Path.{◌≡◌, ap}
use mathlib.Core.List.{List, [], ◌∷◌}
use lib.ListN.{length, get_or, take}
use native.Mathlib.Omega.{arith}
use Rattle.session_marks.specs.Marks.{mark}
use Rattle.session_marks.specs.declared.Kind.{Kind}
use Rattle.session_marks.proofs.Marks.{two_long}
use Rattle.session_split.specs.Session as split
use Rattle.session_split.specs.Session.{piece}
use Rattle.session_text.specs.declared.Out.{Out}
use Rattle.session_text.specs.Out.{Puts}
use Rattle.session_text.proofs.Laws.{follow, put_none, wider}
use Rattle.sheet_text.specs.Turn.{return, newline}
use Rattle.sheet_text.specs.Line.{numbers_of}
use Rattle.sheet_text.specs.Write.{fields_text, line_text}
use Rattle.sheet_write.specs.Contract.{field_room, line_room}
use Rattle.sheet_write.proofs.Fields.{few, one_more}
use Rattle.sheet_write.proofs.put_line.Goals as goal

-- a mark is the first two bytes
first_two : (k : Kind) (rest : List ℕ) → take 2 rest ≡ mark k → get_or rest 0 0 ∷ get_or rest 1 0 ∷ [] ≡ mark k
first_two k [] e = absurd (omega (arith, ap length e, two_long k))
first_two k (a ∷ []) e = absurd (omega (arith, ap length e, two_long k))
first_two k (a ∷ b ∷ rest) e = e

-- mark, fields and end of a line, one after the other
whole-line : (k : Kind) (rest its : List ℕ) (n : ℕ) {a b c left : Out}
    → take 2 rest ≡ mark k → its ≡ split.body k rest → n ≡ numbers_of k
    → Puts 2 a b (get_or rest 0 0 ∷ get_or rest 1 0 ∷ []) → Puts (field_room * n) b c (fields_text k n its)
    → Puts 2 c left (return ∷ newline ∷ []) → Puts line_room a left (line_text (piece k (split.body k rest)))
unfolding line_text
whole-line k rest its n marks is count p q r =
    rw (← is, ← count, ← first_two k rest marks) (wider (omega (arith, count, few k)) (follow (follow p q) r))

pub loop-field-init : goal.loop-field-init
unfolding fields_text
loop-field-init c = record { put = put_none 0 _; up_to = omega arith }

pub loop-field-preserved : goal.loop-field-preserved
loop-field-preserved c = one_more _ _ _ _ _ _ c.loop-field.invariant _ c.loop-field-test.true c.put_field.ensures

pub returns : goal.returns
returns c =
    whole-line _ _ _ _ c.requires.1 c.body-body.ensures
    (omega (arith, c.loop-field-test.false, c.loop-field.invariant.up_to, c.numbers_of-field-end.ensures))
    (rw (← c.byte_at.ensures, ← c.byte_at-2.ensures) (follow c.put_byte.ensures c.put_byte-2.ensures))
    c.loop-field.invariant.put
    (follow c.put_byte-3.ensures c.put_byte-4.ensures)
