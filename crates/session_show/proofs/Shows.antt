-- On a sound board the `w` lines are those of exactly the changed addresses, ascending; and no other text is.
use Rattle.std.specs.Prelude.{if◌then◌else◌}
use Prim.Native.Nat.{ℕ, zero, suc, ◌<◌, ◌≤◌}
use mathlib.Core.Path.{◌≡◌, refl, sym, ap, ◌∙◌, subst⁻¹}
use mathlib.Core.Logic.{inl, inr, ⊎_elim}
use mathlib.Core.List.Memᴰ
use mathlib.Core.List.{List, [], ◌∷◌, ◌++◌, append_assoc, append-nil}
use mathlib.Core.Bool.{Bool, true, false, not, ◌&&◌, false≢true}
use lib.Dec.{eqb}
use native.Mathlib.Omega.{arith}
use borrow.Author.Tests.{lt-ltb, eqb-false, ne_eqb, not-true}
use Rattle.memory.specs.declared.Sizes.{Sizes}
use Rattle.memory.specs.Pieces.{Memory}
use Rattle.memory.specs.Sound.{sound}
use Rattle.memory.specs.Logical.{logical}
use Rattle.memory.specs.Requests.{look, looked}
use Rattle.memory.specs.History.{◌∈◌}
use Rattle.memory.proofs.Tools.{same?}
use Rattle.session_text.specs.Text.{word_line}
use Rattle.session_show.specs.Showing.{shown, word_lines}
use Rattle.session_show.specs.Claims.{among, Changed, changed, lines_of, Ascending, Exactly, ShowsTheBoard, OneText}

-- the addresses that pass a test -----------------------------------------------------------------------------------------------------

abbrev passing : ℕ → Bool → List ℕ
passing n b = if b then n ∷ [] else []

module _ (p : ℕ → Bool) where
  among-only : (n a : ℕ) → a ∈ among n p → (a < n) × (p a ≡ true)
  unfolding among
  among-only zero a h = absurd (Memᴰ.not-nil h)
  among-only (suc n) a h =
      ⊎_elim (λ k. let below = among-only n a k in (omega arith, below.1)) (λ k. last (p n) refl k) (Memᴰ.append_cases (among n p) h)
    where
      last : (b : Bool) → p n ≡ b → a ∈ passing n b → (a < suc n) × (p a ≡ true)
      last true e k = let same = Memᴰ.eq_of_singleton k in (omega arith, ap p same ∙ e)
      last false e k = absurd (Memᴰ.not-nil k)

  among_all : (n a : ℕ) → a < n → p a ≡ true → a ∈ among n p
  unfolding among
  among_all zero a h e = absurd (omega arith)
  among_all (suc n) a h e =
      ⊎_elim (λ same. Memᴰ.append_right (among n p) (at_last (p n) same (ap p (sym same) ∙ e)))
      (λ other. Memᴰ.append_left (passing n (p n)) (among_all n a (omega arith) e)) (same? a n)
    where
      at_last : (b : Bool) → a ≡ n → b ≡ true → a ∈ passing n b
      at_last true same e = Memᴰ.head same
      at_last false same e = absurd (false≢true e)

  -- one more at the end, above all that are there
  snoc_ascends : (n : ℕ) (l : List ℕ) → ((a : ℕ) → a ∈ l → a < n) → Ascending l → Ascending (l ++ n ∷ [])
  snoc_ascends n [] below up = (λ b k. absurd (Memᴰ.not-nil k), tt)
  snoc_ascends n (a ∷ l) below up = (
    λ b k. ⊎_elim (up.0 b) (λ same. subst⁻¹ (λ (c : ℕ). a < c) (Memᴰ.eq_of_singleton same) (below a (Memᴰ.head refl))) (Memᴰ.append_cases l k),
    snoc_ascends n l (λ b k. below b (Memᴰ.tail k)) up.1,
  )

  among_ascends : (n : ℕ) → Ascending (among n p)
  unfolding among
  among_ascends zero = tt
  among_ascends (suc n) = last (p n) (among_ascends n)
    where
      last : (b : Bool) → Ascending (among n p) → Ascending (among n p ++ passing n b)
      last true up = snoc_ascends n (among n p) (λ a k. (among-only n a k).0) up
      last false up = subst⁻¹ Ascending (append-nil (among n p)) up

-- ascending lists with the same members are the same ------------------------------------------------------------------------------------

first_same : (a b : ℕ) (k l : List ℕ) → Ascending (a ∷ k) → Ascending (b ∷ l) → a ∈ (b ∷ l) → b ∈ (a ∷ k) → a ≡ b
first_same a b k l up up' i j = ⊎_elim (λ same. same) (λ later. ⊎_elim sym (λ later'. absurd (omega (arith, up'.0 a later, up.0 b later'))) (Memᴰ.cases_cons j)) (Memᴰ.cases_cons i)

-- what follows the first of one list follows that of the other
rest_in : (a b : ℕ) (k l : List ℕ) → Ascending (a ∷ k) → a ≡ b → ((x : ℕ) → x ∈ (a ∷ k) → x ∈ (b ∷ l)) → (x : ℕ) → x ∈ k → x ∈ l
rest_in a b k l up same f x i = ⊎_elim (λ e. absurd (omega (arith, up.0 x i, e, same))) (λ later. later) (Memᴰ.cases_cons (f x (Memᴰ.tail i)))

same_list : (k l : List ℕ) → Ascending k → Ascending l → ((x : ℕ) → x ∈ k → x ∈ l) → ((x : ℕ) → x ∈ l → x ∈ k) → k ≡ l
same_list [] [] up up' f g = refl
same_list [] (b ∷ l) up up' f g = absurd (Memᴰ.not-nil (g b (Memᴰ.head refl)))
same_list (a ∷ k) [] up up' f g = absurd (Memᴰ.not-nil (f a (Memᴰ.head refl)))
same_list (a ∷ k) (b ∷ l) up up' f g =
    let e = first_same a b k l up up' (f a (Memᴰ.head refl)) (g b (Memᴰ.head refl)) in
    ap (λ (x : ℕ). x ∷ k) e ∙ ap (λ (r : List ℕ). b ∷ r) (same_list k l up.1 up'.1 (rest_in a b k l up e f) (rest_in b a l k up' (sym e) g))

same_addresses : (p : ℕ → Type 0) (n : ℕ) (k l : List ℕ) → Exactly p n k → Exactly p n l → k ≡ l
same_addresses p n k l x y = same_list k l x.ascending y.ascending (λ a i. let h = x.only a i in y.all a h.0 h.1) (λ a i. let h = y.only a i in x.all a h.0 h.1)

pub one_text : OneText
one_text z v m k l x y = x.lines ∙ ap (lines_of z m) (same_addresses (Changed z v m) z.words x.addresses y.addresses x.exactly y.exactly) ∙ sym y.lines

-- the lines -------------------------------------------------------------------------------------------------------------------------------

module _ (z : Sizes) (v : ℕ) (m : Memory) where
  lines_append : (k l : List ℕ) → lines_of z m (k ++ l) ≡ lines_of z m k ++ lines_of z m l
  unfolding lines_of
  lines_append [] l = refl
  lines_append (a ∷ k) l = rw (lines_append k l, append_assoc)

  pub look_up : sound z m ≡ true → (a : ℕ) → a < z.words → look z m a ≡ looked 0 (logical z m a).value (logical z m a).version
  unfolding look
  look_up ok a h = rw (ok, lt-ltb a z.words h)

  one_line : sound z m ≡ true → (a : ℕ) → a < z.words → shown z v m a ≡ lines_of z m (passing a (changed z v m a))
  unfolding shown lines_of
  one_line ok a h = rw (look_up ok a h) (line_of (eqb (logical z m a).value 0 && eqb (logical z m a).version v))
    where
      line_of : (b : Bool) → (if b then [] else word_line a (logical z m a).value (logical z m a).version) ≡ lines_of z m (passing a (not b))
      line_of true = refl
      line_of false = sym (append-nil _)

  all_lines : sound z m ≡ true → (n : ℕ) → n ≤ z.words → word_lines z v m n ≡ lines_of z m (among n (changed z v m))
  unfolding word_lines among lines_of
  all_lines ok zero h = refl
  all_lines ok (suc n) h = rw (lines_append (among n (changed z v m)), all_lines ok n (omega arith), one_line ok n (omega arith))

  to_changed : (a : ℕ) → changed z v m a ≡ true → Changed z v m a
  to_changed a e = by_value (eqb (logical z m a).value 0) refl e
    where
      by_value : (b : Bool) → eqb (logical z m a).value 0 ≡ b → not (b && eqb (logical z m a).version v) ≡ true → Changed z v m a
      by_value true q w = inr (eqb-false _ _ (not-true _ w))
      by_value false q w = inl (eqb-false _ _ q)

  from-changed : (a : ℕ) → Changed z v m a → changed z v m a ≡ true
  from-changed a (inl value) = rw (ne_eqb (logical z m a).value 0 value)
  from-changed a (inr version) = rw (ne_eqb (logical z m a).version v version) (never (eqb (logical z m a).value 0))
    where
      never : (b : Bool) → not (b && false) ≡ true
      never true = refl
      never false = refl

  pub shows : sound z m ≡ true → ShowsTheBoard z v m
  shows ok =
      record {
        addresses = among z.words (changed z v m);
        exactly = record {
          only = λ a h. let k = among-only (changed z v m) z.words a h in (k.0, to_changed a k.1);
          all = λ a h c. among_all (changed z v m) z.words a h (from-changed a c);
          ascending = among_ascends (changed z v m) z.words;
        };
        lines = all_lines ok z.words (omega arith);
      }
