-- A whole record before whatever follows: what is split off, its body, and what is left.
use Rattle.std.specs.Prelude.{Some, Ok, Err, if◌then◌else◌}
use Prim.Native.Nat.{ℕ, ◌+◌, ◌≤◌}
use mathlib.Core.Path.{◌≡◌, ap, ◌∙◌}
use mathlib.Core.List.{List, ◌++◌, append_assoc}
use mathlib.Core.Bool.{Bool, false, not, ◌&&◌, and-false}
use lib.ListN.{length, length-append}
use lib.Seq.{take_at, drop_at}
use native.Mathlib.Omega.{arith}
use borrow.Author.Tests.{le-ltb, ne_eqb}
use Rattle.session_marks.specs.Marks.{mark, kind_at}
use Rattle.session_marks.specs.declared.Kind.{Kind}
use Rattle.session_marks.proofs.Marks.{known, two_long}
use Rattle.session_fields.specs.Fields.{body_length}
use Rattle.session_split.specs.Session.{Misplaced, record_length, body, following, misplaced, placed, too_long, over, split}

module _ (k : Kind) (b rest : List ℕ) (whole : length b ≡ body_length k) where
  -- the record and what follows it
  abbrev pub bytes : List ℕ
  bytes = (mark k ++ b) ++ rest

  pub its_length : length bytes ≡ record_length k + length rest
  its_length = omega (arith, length-append (mark k ++ b) rest, length-append (mark k) b, two_long k)

  pub its_body : body k bytes ≡ b
  unfolding body
  its_body = rw (append_assoc, drop_at (mark k) (b ++ rest) 2 (two_long k)) (take_at b rest (body_length k) whole)

  pub its_rest : following k bytes ≡ rest
  unfolding following
  its_rest = drop_at (mark k ++ b) rest (record_length k) (omega (arith, length-append (mark k) b, two_long k))

  pub splits_off : (first : Bool) → too_long first (length bytes) ≡ false → split first bytes ≡ (if misplaced first k then Err Misplaced else Ok (Some k))
  unfolding split placed
  splits_off first fits = rw (fits, not-over, le-ltb (length bytes) 2 two, kind_is, le-ltb (length bytes) (record_length k) all)
    where
      two : 2 ≤ length bytes
      two = omega (arith, its_length)

      all : record_length k ≤ length bytes
      all = omega (arith, its_length)

      not-over : over first (length bytes) ≡ false
      not-over = ap (λ (x : Bool). not first && x) (ne_eqb (length bytes) 0 (λ e. omega (arith, two))) ∙ and-false (not first)

      kind_is : kind_at bytes ≡ Some k
      kind_is = rw append_assoc (known k (b ++ rest))
