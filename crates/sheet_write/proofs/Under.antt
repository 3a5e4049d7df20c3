-- A session under way to its text: the records that were put, and what is left of it.
use Rattle.std.specs.Prelude.{None, Some, Ok, Err}
use Prim.Native.Nat.{ℕ, ◌+◌, ◌*◌, ◌≤◌}
use mathlib.Core.Path.{◌≡◌, refl, sym, ap, ◌∙◌}
use mathlib.Core.Logic.{◌⊎◌, inl, inr}
use mathlib.Core.List.{List, [], ◌∷◌, ◌++◌, append_assoc, append-nil}
use mathlib.Core.Bool.{true}
use lib.Dec.{eqb}
use lib.ListN.{length, drop, length-append}
use native.Mathlib.Numerals.{add-one}
use native.Mathlib.Omega.{arith}
use borrow.Author.Tests.{ltb-false}
use Rattle.session_marks.specs.declared.Kind.{Kind}
use Rattle.session_split.specs.Session.{Split, Piece, piece, most_bytes, body, record_length, split, session}
use Rattle.session_split.specs.declared.Fault.{Fault}
use Rattle.session_split.proofs.Cases.{refused-apart, end_apart, there}
use Rattle.session_split.proofs.Rest.{rest_of, all_of_it, ends_here, one_split, room}
use Rattle.session_text.specs.Text.{stored}
use Rattle.session_text.specs.declared.Out.{Out}
use Rattle.session_text.specs.Out.{Puts}
use Rattle.session_text.proofs.Laws.{follow, put_none, wider}
use Rattle.sheet_text.specs.declared.Cause.TheVariants.{Session}
use Rattle.sheet_text.specs.Answer.{wrote, refused}
use Rattle.sheet_text.specs.Write.{line_text, text_of}
use Rattle.sheet_write.specs.Contract.{line_room, lines_room, known}

-- a record more in the text
text_more : (ps : List Piece) (p : Piece) → text_of (ps ++ (p ∷ [])) ≡ text_of ps ++ line_text p
unfolding text_of
text_more [] p = append-nil (line_text p)
text_more (q ∷ ps) p = ap (λ (l : List ℕ). line_text q ++ l) (text_more ps p) ∙ sym (append_assoc (line_text q) (text_of ps) (line_text p))

module _ (s : List ℕ) where
  -- At the first record nothing is known of the length; one that was split off is of a session that is not too long.
  abbrev pub Short : ℕ → ℕ → Type 0
  Short i from = ((i ≡ 0) × (from ≡ 0)) ⊎ (length s ≤ most_bytes)

  pub short_now : (i from : ℕ) (k : Kind) → Short i from → split (eqb i 0) (drop from s) ≡ Ok (Some k) → length s ≤ most_bytes
  short_now i from k (inl (z, o)) is = ltb-false most_bytes (length s) (there true s k (rw (z, o) at is)).fits
  short_now i from k (inr h) is = h

  few : (i from : ℕ) → Short i from → i ≤ from → from ≤ length s → line_room * i ≤ lines_room
  few i from (inl (z, o)) behind inside = omega arith
  few i from (inr h) behind inside = omega arith

  module _ (out₀ : Out) where
    pub record Under (out : Out) (from i : ℕ) : Type 0 where
      pub passed : List Piece
      pub put : Puts (line_room * i) out₀ out (text_of passed)
      pub counted : i ≡ length passed
      pub pieces : passed ++ (rest_of s i from).pieces ≡ (session s).pieces
      pub ended : (rest_of s i from).ended ≡ (session s).ended
      pub behind : i ≤ from
      pub inside : from ≤ length s
      pub short : Short i from

module _ (s : List ℕ) (out₀ : Out) where
  pub begin : Under s out₀ out₀ 0 0
  unfolding text_of
  begin =
      record {
        passed = [];
        put = put_none 0 out₀;
        counted = refl;
        pieces = rw (all_of_it s);
        ended = rw (all_of_it s);
        behind = omega arith;
        inside = omega arith;
        short = inl (refl, refl);
      }

  module _ (out : Out) (from i : ℕ) (u : Under s out₀ out from i) where
    pub near : out₀.at ≡ 0 → out.at ≤ lines_room
    near front = omega (arith, u.put.put.near, few s i from u.short u.behind u.inside)

    -- no record is split off
    pub finish : (e : Split) → split (eqb i 0) (drop from s) ≡ e → ((k : Kind) → e ≡ Ok (Some k) → ⊥)
        → (e ≡ (session s).ended) × (i ≡ length (session s).pieces) × Puts lines_room out₀ out (text_of (session s).pieces)
    finish e q none =
        let here = ends_here s i from e q none in
        let all : u.passed ≡ (session s).pieces = sym (append-nil u.passed) ∙ rw here at u.pieces in
        (rw here at u.ended, u.counted ∙ ap length all, rw (← all) (wider (few s i from u.short u.behind u.inside) u.put))

    -- the session ends here, or is refused
    pub at_end : out₀.at ≡ 0 → split (eqb i 0) (drop from s) ≡ Ok None
        → (wrote out.at i ≡ known s) × (out.buffer.now ≡ stored out₀.buffer.now 0 (text_of (session s).pieces))
    at_end front q =
        let (ended, count, puts) = finish (Ok None) q end_apart in
        (rw (← ended, ← count) (ap (λ (n : ℕ). wrote n i) (omega (arith, front, puts.put.after))), rw front at puts.put.holds)

    pub at_fault : out₀.at ≡ 0 → (f : Fault) → split (eqb i 0) (drop from s) ≡ Err f
        → (refused (Session f) i ≡ known s) × (out.buffer.now ≡ stored out₀.buffer.now 0 (text_of (session s).pieces))
    at_fault front f q =
        let (ended, count, puts) = finish (Err f) q (refused-apart f) in
        (rw (← ended, ← count), rw front at puts.put.holds)

    -- a record is split off, and its line is put
    pub turn : (k : Kind) (left : Out) → split (eqb i 0) (drop from s) ≡ Ok (Some k)
        → Puts line_room out left (line_text (piece k (body k (drop from s)))) → Under s out₀ left (from + record_length k) (i + 1)
    turn k left is p =
        let one = piece k (body k (drop from s)) in
        let inside = room s from i k is in
        let more = one_split s i from k (omega (arith, u.behind)) is in
        record {
          passed = u.passed ++ (one ∷ []);
          put = rw (text_more u.passed one) (wider (omega arith) (follow u.put p));
          counted = omega (arith, u.counted, length-append u.passed (one ∷ []));
          pieces = rw (add-one i, append_assoc) (rw more at u.pieces);
          ended = rw (add-one i) (rw more at u.ended);
          behind = omega (arith, u.behind);
          inside = inside;
          short = inr (short_now s i from k u.short is);
        }
