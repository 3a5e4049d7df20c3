-- Laws of the text: digits by their recursion, how long they are, and bytes put after bytes.
use mathlib.Core.Path.{◌≡◌, refl, sym, ap, ◌∙◌}
use mathlib.Core.Logic.{◌⊎◌, inl, inr, ⊎_elim}
use mathlib.Core.Bool.{Bool, true, false}
use mathlib.Core.List.{List, [], ◌∷◌, ◌++◌}
use Prim.Native.Nat.{ℕ, zero, suc, ◌+◌, ◌/◌, ◌%◌, ◌^◌, ◌<◌, ◌≤◌}
use native.Mathlib.Nat.{div-lt_self, div-lt_iff_lt-mul, pow-suc, add-zero}
use native.Mathlib.Omega.{arith}
use borrow.Author.Tests.{lt-ltb, le-ltb, ltb-true, ltb-false}
use lib.Dec.{ltb}
use lib.ListN.{length, set, length-append}
use lib.Seq.{drop-nil}
use Rattle.session_text.specs.Text.{last_digits, digits, line, word_line, stored, written, Put}
use Rattle.session_text.specs.Out.{Puts}
use Rattle.session_text.specs.declared.Out.{Out}

-- one digit, or more than one
one_or_more : (n : ℕ) → (n < 10) ⊎ (10 ≤ n)
one_or_more n = by_test (ltb n 10) refl
  where
    by_test : (b : Bool) → ltb n 10 ≡ b → (n < 10) ⊎ (10 ≤ n)
    by_test true e = inl (ltb-true n 10 e)
    by_test false e = inr (ltb-false n 10 e)

few : (k n : ℕ) → n < 10 → last_digits (suc k) n ≡ (48 + n) ∷ []
unfolding last_digits
few k n h = simp (lt-ltb n 10 h)

many : (k n : ℕ) → 10 ≤ n → last_digits (suc k) n ≡ last_digits k (n / 10) ++ ((48 + n % 10) ∷ [])
unfolding last_digits
many k n h = simp (le-ltb n 10 h)

-- any bound above the number gives the same digits
enough : (k j n : ℕ) → n < k → n < j → last_digits k n ≡ last_digits j n
enough zero j n p q = absurd (omega arith)
enough (suc k) zero n p q = absurd (omega arith)
enough (suc k) (suc j) n p q =
    ⊎_elim (λ h. few k n h ∙ sym (few j n h))
    (λ h.
    let less : n / 10 < n = div-lt_self (omega arith) (omega arith) in
    many k n h
    ∙ ap (λ (l : List ℕ). l ++ ((48 + n % 10) ∷ [])) (enough k j (n / 10) (omega arith) (omega arith))
    ∙ sym (many j n h))
    (one_or_more n)

pub digits_few : (n : ℕ) → n < 10 → digits n ≡ (48 + n) ∷ []
unfolding digits
digits_few n h = few n n h

pub digits_many : (n : ℕ) → 10 ≤ n → digits n ≡ digits (n / 10) ++ ((48 + n % 10) ∷ [])
unfolding digits
digits_many n h =
    let less : n / 10 < n = div-lt_self (omega arith) (omega arith) in
    many n n h ∙ ap (λ (l : List ℕ). l ++ ((48 + n % 10) ∷ [])) (enough n (suc (n / 10)) (n / 10) less (omega arith))

-- a number below a power of ten has no more digits than the power's exponent
pub digits-length : (k n : ℕ) → n < 10 ^ suc k → length (digits n) ≤ suc k
digits-length zero n h = rw (digits_few n h) (omega arith)
digits-length (suc k) n h =
    ⊎_elim (λ p. rw (digits_few n p) (omega arith))
    (λ p. rw (digits_many n p, length-append) (omega (arith, digits-length k (n / 10) ((div-lt_iff_lt-mul (omega arith)).1 (rw pow-suc at h)))))
    (one_or_more n)

pub digits-word : (n : ℕ) → n < 2 ^ 32 → length (digits n) ≤ 10
digits-word n h = digits-length 9 n (omega arith)

-- a line of three numbers, each below a power of ten
module _ (i j k : ℕ) {a b c : ℕ} (ha : a < 10 ^ suc i) (hb : b < 10 ^ suc j) (hc : c < 10 ^ suc k) where
  pub line-length : length (line a b c) ≤ i + j + k + 6
  unfolding line
  line-length = simp length-append (omega (arith, digits-length i a ha, digits-length j b hb, digits-length k c hc))

  pub word_line-length : length (word_line a b c) ≤ i + j + k + 8
  unfolding word_line
  word_line-length = omega (arith, line-length)

-- bytes put after bytes are the two runs put as one
pub stored_append : (out : List ℕ) (at : ℕ) (xs ys : List ℕ)
    → stored out at (xs ++ ys) ≡ stored (stored out at xs) (at + length xs) ys
stored_append out at [] ys = simp add-zero
stored_append out at (x ∷ xs) ys =
    stored_append (set out at x) (suc at) xs ys ∙ ap (λ (k : ℕ). stored (stored out at (x ∷ xs)) k ys) (omega arith)

both_put : {m k : ℕ} {out mid left : List ℕ} {at next end : ℕ} {xs ys : List ℕ}
    → Put m out at xs mid next → Put k mid next ys left end → Put (m + k) out at (xs ++ ys) left end
both_put {out = out} {at = at} {xs = xs} {ys = ys} p q =
    record {
      holds = cc (stored_append out at xs ys);
      after = omega (arith, length-append xs ys);
      near = omega arith;
    }

pub follow : {m k : ℕ} {a b c : Out} {xs ys : List ℕ} → Puts m a b xs → Puts k b c ys → Puts (m + k) a c (xs ++ ys)
follow p q = record { put = both_put p.put q.put; same = q.same ∙ p.same }

-- two bytes written to a buffer of one, of two and of three
written_one : written (1 ∷ []) (7 ∷ 8 ∷ []) ≡ 7 ∷ []
written_one = refl

written_two : written (1 ∷ 2 ∷ []) (7 ∷ 8 ∷ []) ≡ 7 ∷ 8 ∷ []
written_two = refl

written_three : written (1 ∷ 2 ∷ 3 ∷ []) (7 ∷ 8 ∷ []) ≡ 7 ∷ 8 ∷ 3 ∷ []
written_three = refl

-- what bytes put from the first place on come to
past_all : (at : ℕ) (bytes : List ℕ) → stored [] at bytes ≡ []
past_all at [] = refl
past_all at (b ∷ bytes) = past_all (suc at) bytes

behind_one : (x : ℕ) (out : List ℕ) (at : ℕ) (bytes : List ℕ) → stored (x ∷ out) (suc at) bytes ≡ x ∷ stored out at bytes
behind_one x out at [] = refl
behind_one x out at (b ∷ bytes) = behind_one x (set out at b) (suc at) bytes

pub stored_front : (out bytes : List ℕ) → stored out 0 bytes ≡ written out bytes
stored_front [] bytes = past_all 0 bytes ∙ sym (drop-nil (length bytes))
stored_front (x ∷ out) [] = refl
stored_front (x ∷ out) (b ∷ bytes) = behind_one b out 0 bytes ∙ ap (λ (l : List ℕ). b ∷ l) (stored_front out bytes)

-- no byte put, and more room than was said
pub put_none : (most : ℕ) (o : Out) → Puts most o o []
put_none most o = record { put = record { holds = refl; after = omega arith; near = omega arith }; same = refl }

pub wider : {most more : ℕ} {a b : Out} {bytes : List ℕ} → most ≤ more → Puts most a b bytes → Puts more a b bytes
wider h p = record { put = record { holds = p.put.holds; after = p.put.after; near = omega (arith, p.put.near) }; same = p.same }

-- what is put of a number: its one digit, or all digits but the last and then the last
pub put_few : {most n : ℕ} {a b : Out} → n < 10 → Puts most a b ((48 + n) ∷ []) → Puts 10 a b (digits n)
put_few {n = n} h p =
    record {
      put = record {
        holds = rw (digits_few n h) p.put.holds;
        after = rw (digits_few n h) p.put.after;
        near = omega (arith, p.put.after);
      };
      same = p.same;
    }

pub put_many : {most few n : ℕ} {a b c : Out}
    → 10 ≤ n → n < 2 ^ 32 → Puts most a b (digits (n / 10)) → Puts few b c ((48 + n % 10) ∷ []) → Puts 10 a c (digits n)
put_many {n = n} h fits p q =
    let both = follow p q in
    record {
      put = record {
        holds = rw (digits_many n h) both.put.holds;
        after = rw (digits_many n h) both.put.after;
        near = omega (arith, digits-word n fits, rw (← digits_many n h) at both.put.after);
      };
      same = both.same;
    }

-- the last line of the whole case before its words: "9 21 0"
shown : line 9 21 0 ≡ 57 ∷ 32 ∷ 50 ∷ 49 ∷ 32 ∷ 48 ∷ 10 ∷ []
unfolding line digits last_digits
shown = refl
