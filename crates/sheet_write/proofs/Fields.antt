-- The fields of a line that were passed, behind the mark: what was put for them, and one field more.
use Prim.Native.Nat.{ℕ, ◌+◌, ◌*◌, ◌<◌, ◌≤◌}
use mathlib.Core.List.{List}
use native.Mathlib.Numerals.{add-one}
use native.Mathlib.Omega.{arith}
use Rattle.memory.proofs.Tools.{if_cases}
use Rattle.session_marks.specs.Marks.{opens}
use Rattle.session_marks.specs.declared.Kind.{Kind}
use Rattle.session_text.specs.declared.Out.{Out}
use Rattle.session_text.specs.Out.{Puts}
use Rattle.session_text.proofs.Laws.{follow, wider}
use Rattle.sheet_text.specs.Line.{numbers_of}
use Rattle.sheet_text.specs.Write.{field_text, fields_text}
use Rattle.sheet_write.specs.Contract.{field_room}

-- no kind has more than four numbers
pub few : (k : Kind) → numbers_of k ≤ 4
few k = if_cases (λ n. n ≤ 4) (opens k) 4 3 (λ e. omega arith) (λ e. omega arith)

pub record Fields (k : Kind) (body : List ℕ) (out₀ : Out) (end : ℕ) (out : Out) (field : ℕ) : Type 0 where
  pub put : Puts (field_room * field) out₀ out (fields_text k field body)
  pub up_to : field ≤ end

module _ (k : Kind) (body : List ℕ) (out₀ : Out) (end : ℕ) (out : Out) (field : ℕ) (f : Fields k body out₀ end out field) where
  pub one_more : (left : Out) → field < end → Puts field_room out left (field_text k field body) → Fields k body out₀ end left (field + 1)
  unfolding fields_text
  one_more left h p =
      record {
        put = rw (add-one field) (wider (omega arith) (follow f.put p));
        up_to = omega arith;
      }
