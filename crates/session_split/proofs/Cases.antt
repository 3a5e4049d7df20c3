-- What splitting a record off can answer, and what is known then of the bytes.
use Rattle.std.specs.Prelude.{Option, Some, None, Ok, Err}
use Rattle.std.proofs.lemmas.List.{nil_from_length}
use Prim.Native.Nat.{ℕ, zero, suc, ◌≤◌}
use mathlib.Core.Path.{◌≡◌, refl, sym, subst}
use mathlib.Core.List.{List, []}
use mathlib.Core.Bool.{Bool, true, false, not, false≢true}
use lib.Dec.{ltb, eqb}
use lib.ListN.{length, take}
use native.Mathlib.Omega.{arith}
use borrow.Author.Tests.{ltb-false, eqb-true, not-true}
use Rattle.memory.proofs.Tools.{if_cases, and_0, and_1}
use Rattle.session_marks.specs.Marks.{mark, kinds, kind_at}
use Rattle.session_marks.specs.declared.Kind.{Kind}
use Rattle.session_marks.specs.declared.Kind.TheVariants.{Open, Start, Commit, Abort, Wait, Step, Read, Write}
use Rattle.session_marks.proofs.Marks.{found}
use Rattle.session_split.specs.Session.{Fault, UnknownMark, CutShort, Misplaced, TooLong, Split, record_length, body, following, misplaced, placed, marked, too_long, over, split, piece, Session, ending, before, onward, split_all, session}

-- the first record opens a board, and no later one does
pub first_opens : (k : Kind) → misplaced true k ≡ false → k ≡ Open
first_opens Open e = refl
first_opens Start e = absurd (false≢true (sym e))
first_opens Commit e = absurd (false≢true (sym e))
first_opens Abort e = absurd (false≢true (sym e))
first_opens Wait e = absurd (false≢true (sym e))
first_opens Step e = absurd (false≢true (sym e))
first_opens Read e = absurd (false≢true (sym e))
first_opens Write e = absurd (false≢true (sym e))

-- a record that is split off: its mark and its whole body stand there, in its right place of a session that is not too long
pub record There (first : Bool) (bytes : List ℕ) (k : Kind) : Type 0 where
  pub marks : take 2 bytes ≡ mark k
  pub placed : misplaced first k ≡ false
  pub whole : record_length k ≤ length bytes
  pub fits : too_long first (length bytes) ≡ false

-- What splitting answers: a refusal; after a first record the end, and then nothing is left; or a record.
module _ (first : Bool) (bytes : List ℕ) (P : Split → Type 0) (refuses : (f : Fault) → P (Err f))
    (ends : first ≡ false → bytes ≡ [] → P (Ok None)) (splits : (k : Kind) → There first bytes k → P (Ok (Some k))) where
  with_mark : too_long first (length bytes) ≡ false → (m : Option Kind) → kind_at bytes ≡ m → P (marked first (length bytes) m)
  unfolding kind_at placed
  with_mark fits None e = refuses UnknownMark
  with_mark fits (Some k) e =
      if_cases P (misplaced first k) _ _ (λ wrong. refuses Misplaced) (λ right.
      if_cases P (ltb (length bytes) (record_length k)) _ _ (λ short. refuses CutShort) (λ long.
      splits k
      (record {
        marks = found kinds bytes k e;
        placed = right;
        whole = ltb-false (length bytes) (record_length k) long;
        fits = fits;
      })))

  pub split_cases : P (split first bytes)
  unfolding split
  split_cases =
      if_cases P (too_long first (length bytes)) _ _ (λ long. refuses TooLong) (λ fits.
      if_cases P (over first (length bytes)) _ _
      (λ none. ends (not-true first (and_0 (not first) (eqb (length bytes) 0) none))
      (nil_from_length bytes (eqb-true (length bytes) 0 (and_1 (not first) (eqb (length bytes) 0) none)))) (λ some.
      if_cases P (ltb (length bytes) 2) _ _ (λ one. refuses CutShort) (λ two.
      with_mark fits (kind_at bytes) refl)))

pub refused-apart : (f : Fault) (k : Kind) → ◌≡◌ {A = Split} (Err f) (Ok (Some k)) → ⊥
refused-apart f k e = cc

pub end_apart : (k : Kind) → ◌≡◌ {A = Split} (Ok None) (Ok (Some k)) → ⊥
end_apart k e = cc

-- of a record that was split off
pub there : (first : Bool) (bytes : List ℕ) (k : Kind) → split first bytes ≡ Ok (Some k) → There first bytes k
there first bytes k =
    split_cases first bytes (λ s. s ≡ Ok (Some k) → There first bytes k)
    (λ f e. absurd (refused-apart f k e))
    (λ later none e. absurd (end_apart k e))
    (λ j is-there e. let same : j ≡ k = cc in subst (There first bytes) same is-there)

-- A whole session: its first record is refused, or it is an opening, with whatever follows.
pub session_cases : (bytes : List ℕ) (P : Session → Type 0) → ((f : Fault) (l : List ℕ) → P (ending (Err f) l))
    → ((rest : Session) → P (before (piece Open (body Open bytes)) rest)) → P (session bytes)
unfolding session split_all
session_cases bytes P refuses opens = go (length bytes) refl
  where
    go : (n : ℕ) → length bytes ≡ n → P (split_all n true bytes)
    go zero e =
        split_cases true bytes (λ s. P (ending s bytes)) (λ f. refuses f bytes) (λ later none. absurd (false≢true (sym later)))
        (λ k is-there. absurd (omega (arith, is-there.whole)))
    go (suc n) e =
        split_cases true bytes (λ s. P (onward bytes s (λ k. split_all n false (following k bytes))))
        (λ f. refuses f bytes) (λ later none. absurd (false≢true (sym later)))
        (λ k is-there. rw (first_opens k is-there.placed) (opens (split_all n false (following Open bytes))))
