-- The content of a field, read byte by byte as a mark and as a number, is what the rows say of it at once (§18.5, §18.6).
use Rattle.std.specs.Prelude.{Some, if◌then◌else◌}
use Prim.Native.Nat.{ℕ, ◌+◌, ◌*◌, ◌-◌, ◌^◌, ◌≤◌, ◌<◌}
use mathlib.Core.Path.{◌≡◌, refl, sym, ap, ◌∙◌}
use mathlib.Core.Logic.{◌⊎◌, inl, inr, ◌≢◌}
use mathlib.Core.List.{List, [], ◌∷◌}
use mathlib.Core.Bool.{Bool, true, false, ◌&&◌, and-false, false≢true}
use lib.Dec.{ltb, leb, leb-suc-suc, eqb-suc-zero}
use lib.ListN.{length}
use native.Mathlib.Nat.{pow-le-pow_right}
use native.Mathlib.Omega.{arith}
use borrow.Author.Tests.{ltb-false, lt-ltb, le-ltb, leb-true, ne_eqb}
use Rattle.memory.proofs.Tools.{if_cases, and_1, same?}
use Rattle.session_marks.specs.Marks.{mark, kinds, kind_at}
use Rattle.session_marks.specs.declared.Kind.{Kind}
use Rattle.std.proofs.lemmas.Option.{none-some}
use Rattle.session_marks.proofs.Marks.{found}
use Rattle.sheet_text.specs.Line.{Letters, NoLetter, More, Digits, NoDigit, Number, Other, add_letter, add_digit, is_digit, grown, kind_of, letters_of, value_of, room, fits, little}
use Rattle.sheet_text.specs.Rows.{kind_of_content, digit, all_digits, decimal_from, decimal, content_fits}

-- some bytes more of a field's content
abbrev pub letters_from : Letters → List ℕ → Letters
letters_from m [] = m
letters_from m (b ∷ bs) = letters_from (add_letter m b) bs

abbrev pub digits_from : Digits → List ℕ → Digits
digits_from d [] = d
digits_from d (b ∷ bs) = digits_from (add_digit d b) bs

-- As a mark --------------------------------------------------------------------------------------------------------------------------

stays_more : (c : List ℕ) → letters_from More c ≡ More
stays_more [] = refl
stays_more (b ∷ bs) = stays_more bs

pub kind_read : (c : List ℕ) → kind_of (letters_from NoLetter c) ≡ kind_of_content c
unfolding kind_of_content
kind_read [] = refl
kind_read (a ∷ []) = refl
kind_read (a ∷ b ∷ []) = refl
kind_read (a ∷ b ∷ d ∷ bs) = rw (stays_more bs, ne_eqb (length (a ∷ b ∷ d ∷ bs)) 2 (λ e. omega arith))

-- the letters of a mark are its bytes
pub mark-read : (c : List ℕ) (k : Kind) → kind_of_content c ≡ Some k → letters_of (letters_from NoLetter c) ≡ mark k
unfolding kind_of_content kind_at
mark-read [] k e = absurd (none-some k e)
mark-read (a ∷ []) k e = absurd (none-some k e)
mark-read (a ∷ b ∷ []) k e = found kinds (a ∷ b ∷ []) k e
mark-read (a ∷ b ∷ d ∷ bs) k e =
    absurd (none-some k (rw (ne_eqb (length (a ∷ b ∷ d ∷ bs)) 2 (λ q. omega arith)) at e))

-- As a number ------------------------------------------------------------------------------------------------------------------------

stays_other : (c : List ℕ) → digits_from Other c ≡ Other
stays_other [] = refl
stays_other (b ∷ bs) = stays_other bs

same_digits : (b : ℕ) → is_digit b ≡ digit b
same_digits b = ap (λ (x : Bool). leb 48 b && x) (sym (leb-suc-suc b 57))

abbrev most : ℕ
most = 4294967296

-- a number does not fall with more digits
not_less : (c : List ℕ) (n : ℕ) → n ≤ decimal_from n c
unfolding decimal_from
not_less [] n = omega arith
not_less (b ∷ bs) n = omega (arith, not_less bs (10 * n + (b - 48)))

module _ (w : ℕ) (four : w ≤ 4) (some : w ≢ 0) where
  no_room : 256 ^ w ≤ most
  no_room = pow-le-pow_right {n = 256} (omega arith) four

  room-is : room w ≡ 256 ^ w
  unfolding room
  room-is = rw (ne_eqb w 0 some)

  -- digits alone, and not too large
  abbrev asked : List ℕ → ℕ → Bool
  asked c n = all_digits c && ltb (decimal_from n c) (256 ^ w)

  too_large : (c : List ℕ) (n : ℕ) → most ≤ n → asked c n ≡ false
  too_large c n h = rw (le-ltb (decimal_from n c) (256 ^ w) (omega (arith, not_less c n, no_room)), and-false (all_digits c))

  number_fits : (c : List ℕ) (n : ℕ) → fits w (digits_from (Number n) c) ≡ asked c n
  unfolding decimal_from grown
  number_fits [] n = rw room-is
  number_fits (b ∷ bs) n =
      let m = 10 * n + (b - 48) in
      rw (← same_digits b)
      (if_cases (λ x. fits w (digits_from x bs) ≡ ((is_digit b && all_digits bs) && ltb (decimal_from m bs) (256 ^ w))) (is_digit b) _ _
      (λ is. rw is (if_cases (λ x. fits w (digits_from x bs) ≡ asked bs m) (ltb m most) _ _
      (λ small. number_fits bs m)
      (λ large. rw (stays_other bs) (sym (too_large bs m (ltb-false m most large))))))
      (λ no. rw (no, stays_other bs)))

  number-value : (c : List ℕ) (n : ℕ) → fits w (digits_from (Number n) c) ≡ true → value_of (digits_from (Number n) c) ≡ decimal_from n c
  unfolding decimal_from grown
  number-value [] n = λ e. refl
  number-value (b ∷ bs) n =
      let m = 10 * n + (b - 48) in
      let Goes : Digits → Type 0 = λ x. fits w (digits_from x bs) ≡ true → value_of (digits_from x bs) ≡ decimal_from m bs in
      let other : Goes Other = λ e. absurd (false≢true (rw (stays_other bs) at e)) in
      if_cases Goes (is_digit b) _ _ (λ is. if_cases Goes (ltb m most) _ _ (λ small. number-value bs m) (λ large. other)) (λ no. other)

-- The whole field --------------------------------------------------------------------------------------------------------------------

-- a field that is not used has room for nothing that was begun
begun : (d : Digits) → fits 0 d ≡ false → (b : ℕ) → fits 0 (add_digit d b) ≡ false
unfolding room grown
begun NoDigit e b = absurd (false≢true (sym e))
begun (Number n) e b =
    let m = 10 * n + (b - 48) in
    if_cases (λ d. fits 0 d ≡ false) (is_digit b) _ _
    (λ is. if_cases (λ d. fits 0 d ≡ false) (ltb m most) _ _ (λ small. le-ltb m 0 (omega arith)) (λ large. refl))
    (λ no. refl)
begun Other e b = refl

unused : (c : List ℕ) (d : Digits) → fits 0 d ≡ false → fits 0 (digits_from d c) ≡ false
unused [] d e = e
unused (b ∷ bs) d e = unused bs (add_digit d b) (begun d e b)

-- the first digit goes on from 0
pub first_digit : (d : ℕ) → d < 10 → Number d ≡ grown 0 d
unfolding grown
first_digit d h = rw (lt-ltb (10 * 0 + d) most (omega arith)) (ap Number (omega arith))

from_zero : (b : ℕ) → add_digit NoDigit b ≡ add_digit (Number 0) b
unfolding grown
from_zero b = go (is_digit b) refl
  where
    go : (x : Bool) → is_digit b ≡ x → (if x then Number (b - 48) else Other) ≡ (if x then grown 0 (b - 48) else Other)
    go true e = first_digit (b - 48) (omega (arith, leb-true b 57 (and_1 (leb 48 b) (leb b 57) e)))
    go false e = refl

fits_none : (c : List ℕ) → fits 0 (digits_from NoDigit c) ≡ content_fits 0 c
unfolding content_fits room
fits_none [] = refl
fits_none (b ∷ bs) = rw (from_zero b, eqb-suc-zero (length bs)) (unused (b ∷ bs) (Number 0) refl)

module _ (w : ℕ) (four : w ≤ 4) (some : w ≢ 0) where
  fits-some : (c : List ℕ) → fits w (digits_from NoDigit c) ≡ content_fits w c
  unfolding content_fits
  fits-some [] = rw (ne_eqb w 0 some)
  fits-some (b ∷ bs) = rw (from_zero b, ne_eqb w 0 some, eqb-suc-zero (length bs)) (number_fits w four some (b ∷ bs) 0)

  value-some : (c : List ℕ) → fits w (digits_from NoDigit c) ≡ true → value_of (digits_from NoDigit c) ≡ decimal c
  unfolding decimal_from
  value-some [] e = refl
  value-some (b ∷ bs) e = rw (from_zero b) (number-value w four some (b ∷ bs) 0 (rw (from_zero b) at e))

-- A field is as asked if its content is, and then its bytes are those of the number.
pub fits_read : (w : ℕ) (c : List ℕ) → w ≤ 4 → fits w (digits_from NoDigit c) ≡ content_fits w c
fits_read w c four = go (same? w 0)
  where
    go : (w ≡ 0) ⊎ (w ≢ 0) → fits w (digits_from NoDigit c) ≡ content_fits w c
    go (inl e) = rw e (fits_none c)
    go (inr some) = fits-some w four some c

pub bytes_read : (w : ℕ) (c : List ℕ) → w ≤ 4 → content_fits w c ≡ true → little w (value_of (digits_from NoDigit c)) ≡ little w (decimal c)
unfolding little
bytes_read w c four e = go (same? w 0)
  where
    go : (w ≡ 0) ⊎ (w ≢ 0) → little w (value_of (digits_from NoDigit c)) ≡ little w (decimal c)
    go (inl q) = rw q
    go (inr some) = ap (little w) (value-some w four some c (fits_read w c four ∙ e))
