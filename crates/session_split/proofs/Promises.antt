-- The promises of specs/Session.antt, kept.
use Rattle.std.specs.Prelude.{Some, None, Ok, Err}
use Prim.Native.Nat.{ℕ, zero, suc, ◌≤◌}
use mathlib.Core.Path.{◌≡◌, refl, ◌∙◌}
use mathlib.Core.List.{List, [], ◌++◌, append_assoc}
use mathlib.Core.Bool.{Bool, true, false}
use lib.ListN.{length, take, length-drop, take-append-drop}
use lib.Seq.{drop-drop}
use native.Mathlib.Omega.{arith}
use Rattle.session_marks.specs.Marks.{mark}
use Rattle.session_marks.specs.declared.Kind.{Kind}
use Rattle.session_fields.specs.Fields.{body_length}
use Rattle.session_split.specs.Session.{Fault, Split, record_length, body, following, split, Session, encoded, onward, split_all, session, SplitKeepsTheBytes, SplitsToTheEnd, RefusalsAreTold}
use Rattle.session_split.proofs.Cases.{split_cases, refused-apart, end_apart}
use Rattle.session_split.proofs.Whole as whole

-- a record's mark and body, and what follows it
one_record : (k : Kind) (bytes : List ℕ) → take 2 bytes ≡ mark k → (mark k ++ body k bytes) ++ following k bytes ≡ bytes
unfolding body following
one_record k bytes there =
    rw (← there, append_assoc, ← drop-drop (body_length k) 2 bytes, take-append-drop, take-append-drop)

-- what is split after the first record
abbrev later : ℕ → List ℕ → Kind → Session
later n bytes k = split_all n false (following k bytes)

all_kept : (n : ℕ) (first : Bool) (bytes : List ℕ) → encoded (split_all n first bytes).pieces ++ (split_all n first bytes).left ≡ bytes
unfolding split_all
all_kept zero first bytes = refl
all_kept (suc n) first bytes =
    split_cases first bytes
    (λ s. encoded (onward bytes s (later n bytes)).pieces ++ (onward bytes s (later n bytes)).left ≡ bytes)
    (λ f. refl)
    (λ later none. refl)
    (λ k is-there. append_assoc (mark k ++ body k bytes) _ _ ∙ rw (all_kept n false (following k bytes)) (one_record k bytes is-there.marks))

pub split_keeps_the_bytes : SplitKeepsTheBytes
unfolding session
split_keeps_the_bytes bytes = all_kept (length bytes) true bytes

-- neither in the middle of the session nor before its end
abbrev Ended : Session → Type 0
Ended s = ((k : Kind) → s.ended ≡ Ok (Some k) → ⊥) × (s.ended ≡ Ok None → s.left ≡ [])

refused_no_end : (f : Fault) → ◌≡◌ {A = Split} (Err f) (Ok None) → ⊥
refused_no_end f e = cc

shorter : (n : ℕ) (k : Kind) (bytes : List ℕ) → length bytes ≤ suc n → record_length k ≤ length bytes → length (following k bytes) ≤ n
unfolding following
shorter n k bytes h whole = omega (arith, length-drop (record_length k) bytes)

all_split : (n : ℕ) (first : Bool) (bytes : List ℕ) → length bytes ≤ n → Ended (split_all n first bytes)
unfolding split_all
all_split zero first bytes h =
    split_cases first bytes (λ s. ((k : Kind) → s ≡ Ok (Some k) → ⊥) × (s ≡ Ok None → bytes ≡ []))
    (λ f. (λ k. refused-apart f k, λ e. absurd (refused_no_end f e)))
    (λ later none. (λ k. end_apart k, λ e. none))
    (λ k is-there. absurd (omega (arith, is-there.whole)))
all_split (suc n) first bytes h =
    split_cases first bytes (λ s. Ended (onward bytes s (later n bytes)))
    (λ f. (λ k. refused-apart f k, λ e. absurd (refused_no_end f e)))
    (λ later none. (λ k. end_apart k, λ e. none))
    (λ k is-there. all_split n false (following k bytes) (shorter n k bytes h is-there.whole))

pub splits_to_the_end : SplitsToTheEnd
unfolding session
splits_to_the_end bytes = all_split (length bytes) true bytes (omega arith)

pub refusals_are_told : RefusalsAreTold
unfolding split
refusals_are_told = (refl, λ k b rest first all wrong fits. rw (whole.splits_off k b rest all first fits, wrong) refl)
