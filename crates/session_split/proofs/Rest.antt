-- What is left of a session from one of its places on, told by what is split off there: one record more, or the end.
use Rattle.std.specs.Prelude.{Some, None, Ok, Err}
use Prim.Native.Nat.{ℕ, zero, suc, ◌+◌, ◌-◌, ◌<◌, ◌≤◌}
use mathlib.Core.Path.{◌≡◌, refl, ap}
use mathlib.Core.List.{List}
use mathlib.Core.Bool.{Bool}
use lib.Dec.{eqb}
use lib.ListN.{length, take, drop, length-drop}
use lib.Seq.{drop-drop, take_all}
use native.Mathlib.Nat.{sub-zero}
use native.Mathlib.Omega.{arith}
use borrow.Author.Tests.{ne_eqb}
use Rattle.session_marks.specs.declared.Kind.{Kind}
use Rattle.session_split.specs.Session.{Split, Session, body, record_length, following, split, piece, before, onward, ending, split_all, session}
use Rattle.session_split.proofs.Cases.{there}

-- the records from a place on, at an index
unfoldable pub rest_of : List ℕ → ℕ → ℕ → Session
rest_of s i from = split_all (length s - i) (eqb i 0) (drop from s)

pub all_of_it : (s : List ℕ) → rest_of s 0 0 ≡ session s
unfolding rest_of session
all_of_it s = rw (sub-zero (length s))

-- no record is split off: the session ends here
no_more : (bytes : List ℕ) (f : Kind → Session) (e : Split) → ((k : Kind) → e ≡ Ok (Some k) → ⊥) → onward bytes e f ≡ ending e bytes
no_more bytes f (Ok (Some k)) none = absurd (none k refl)
no_more bytes f (Err n) none = refl
no_more bytes f (Ok None) none = refl

pub nothing-split : (n : ℕ) (first : Bool) (bytes : List ℕ) (e : Split) → split first bytes ≡ e → ((k : Kind) → e ≡ Ok (Some k) → ⊥) → split_all n first bytes ≡ ending e bytes
unfolding split_all
nothing-split zero first bytes e q none = ap (λ (x : Split). ending x bytes) q
nothing-split (suc n) first bytes e q none = rw q (no_more bytes _ e none)

pub ends_here : (s : List ℕ) (i from : ℕ) (e : Split) → split (eqb i 0) (drop from s) ≡ e → ((k : Kind) → e ≡ Ok (Some k) → ⊥)
    → rest_of s i from ≡ ending e (drop from s)
unfolding rest_of
ends_here s i from e q none = nothing-split (length s - i) (eqb i 0) (drop from s) e q none

-- a record is split off: it, and the records from the part that follows
pub one_split : (s : List ℕ) (i from : ℕ) (k : Kind) → i < length s → split (eqb i 0) (drop from s) ≡ Ok (Some k)
    → rest_of s i from ≡ before (piece k (body k (drop from s))) (rest_of s (suc i) (from + record_length k))
unfolding rest_of split_all following
one_split s i from k h q =
    let one : length s - i ≡ suc (length s - suc i) = omega arith in
    rw (one, q, ne_eqb (suc i) 0 (λ e. omega arith), drop-drop (record_length k) from s)

-- it is inside the session
pub room : (s : List ℕ) (from i : ℕ) (k : Kind) → split (eqb i 0) (drop from s) ≡ Ok (Some k) → from + record_length k ≤ length s
room s from i k is = omega (arith, (there (eqb i 0) (drop from s) k is).whole, length-drop from s)

-- a part to the end of the session
pub part : (s : List ℕ) (from : ℕ) → take (length s - from) (drop from s) ≡ drop from s
part s from = take_all (length s - from) (drop from s) (omega (arith, length-drop from s))
