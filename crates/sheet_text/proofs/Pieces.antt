-- The records of a session: each has a whole body, of bytes; and they are all of it where it ended.
use Rattle.std.specs.Prelude.{None, Ok, Err}
use Prim.Native.Nat.{ℕ, zero, suc, ◌≤◌}
use mathlib.Core.Path.{◌≡◌, refl, sym, ◌∙◌}
use mathlib.Core.List.{List, [], ◌∷◌, append-nil}
use mathlib.Core.Bool.{Bool, true, false, false≢true}
use lib.ListN.{length, length-drop}
use lib.Seq.{length-take-le}
use native.Mathlib.Omega.{arith}
use borrow.Author.Tests.{ltb-false}
use Rattle.session_marks.specs.declared.Kind.{Kind}
use Rattle.session_fields.specs.Fields.{body_length}
use Rattle.session_split.specs.declared.Fault.{Fault}
use Rattle.session_split.specs.Session.{Split, Piece, piece, most_bytes, record_length, body, following, onward, split_all, session, encoded}
use Rattle.session_split.proofs.Cases.{split_cases}
use Rattle.session_split.proofs.Promises.{split_keeps_the_bytes, splits_to_the_end}
use Rattle.sheet_text.specs.Claims.{Bytes}
use Rattle.sheet_text.proofs.Little.{bytes_taken, bytes_dropped}

pub record Whole (p : Piece) : Type 0 where
  pub length : length p.body ≡ body_length p.kind
  pub bytes : Bytes p.body

abbrev pub AllWhole : List Piece → Type 0
AllWhole [] = Unit {0}
AllWhole (p ∷ ps) = Whole p × AllWhole ps

body-length : (k : Kind) (bytes : List ℕ) → record_length k ≤ length bytes → length (body k bytes) ≡ body_length k
unfolding body
body-length k bytes h = length-take-le (body_length k) _ (rw length-drop (omega arith))

body_bytes : (k : Kind) {bytes : List ℕ} → Bytes bytes → Bytes (body k bytes)
unfolding body
body_bytes k h = bytes_taken (body_length k) (bytes_dropped 2 h)

following_bytes : (k : Kind) {bytes : List ℕ} → Bytes bytes → Bytes (following k bytes)
unfolding following
following_bytes k h = bytes_dropped (record_length k) h

all_whole : (n : ℕ) (first : Bool) (bytes : List ℕ) → Bytes bytes → AllWhole (split_all n first bytes).pieces
unfolding split_all
all_whole zero first bytes h = tt
all_whole (suc n) first bytes h =
    split_cases first bytes (λ s. AllWhole (onward bytes s (λ k. split_all n false (following k bytes))).pieces)
    (λ r. tt)
    (λ later none. tt)
    (λ k is-there.
    let one : Whole (piece k (body k bytes)) = record { length = body-length k bytes is-there.whole; bytes = body_bytes k h } in
    (one, all_whole n false (following k bytes) (following_bytes k h)))

pub session-whole : (bytes : List ℕ) → Bytes bytes → AllWhole (session bytes).pieces
unfolding session
session-whole bytes h = all_whole (length bytes) true bytes h

-- A session that ended is its records and no more, and not too long.
pub ended-whole : (bytes : List ℕ) → (session bytes).ended ≡ Ok None → encoded (session bytes).pieces ≡ bytes
ended-whole bytes e = sym (append-nil _) ∙ rw (← (splits_to_the_end bytes).1 e) (split_keeps_the_bytes bytes)

pub ended-fits : (bytes : List ℕ) → (session bytes).ended ≡ Ok None → length bytes ≤ most_bytes
unfolding session split_all
ended-fits bytes = go (length bytes) refl
  where
    refused : (f : Fault) → ◌≡◌ {A = Split} (Err f) (Ok None) → length bytes ≤ most_bytes
    refused f e = cc

    go : (n : ℕ) → length bytes ≡ n → (split_all n true bytes).ended ≡ Ok None → length bytes ≤ most_bytes
    go zero e = λ ended. omega arith
    go (suc n) e =
        split_cases true bytes (λ s. (onward bytes s (λ k. split_all n false (following k bytes))).ended ≡ Ok None → length bytes ≤ most_bytes)
        refused
        (λ later none. absurd (false≢true (sym later)))
        (λ k is-there ended. ltb-false most_bytes (length bytes) is-there.fits)
