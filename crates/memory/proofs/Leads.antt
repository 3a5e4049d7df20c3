-- Where lists lead (§2.15): the laws of `leads`, and that it leads to whoever is reached link by link.
use Prim.Native.Nat.{ℕ, zero, suc, ◌+◌, ◌<◌, ◌≤◌}
use mathlib.Core.Path.{◌≡◌, refl, sym, ap, ◌∙◌, subst}
use mathlib.Core.Logic.{◌⊎◌, inl, inr, ⊎_elim}
use mathlib.Core.Bool.{Bool, true, false, ◌&&◌, ◌||◌}
use lib.Dec.{eqb, ltb}
use native.Mathlib.Omega.{arith}
use borrow.Author.Tests.{ltb-true, ltb-false, eqb-true, eq-eqb}
use Rattle.memory.specs.{Sizes, Memory, on_list, leads, ends_with, Joined, Led, itself, onward}
use Rattle.memory.proofs.Tools.{and_0, and_1, and_make, or_left_make, or_right_make}

pub or_cases : (a b : Bool) → (a || b) ≡ true → (a ≡ true) ⊎ (b ≡ true)
or_cases true b e = inl refl
or_cases false b e = inr e

-- one more task to go through
module _ (on : ℕ → ℕ → Bool) where
  leads_cases : (k a b : ℕ) → leads on (suc k) a b ≡ true → (leads on k a b ≡ true) ⊎ ((leads on k a k ≡ true) × (leads on k k b ≡ true))
  unfolding leads
  leads_cases k a b e =
      ⊎_elim (λ c. inl c) (λ c. inr (and_0 (leads on k a k) (leads on k k b) c, and_1 (leads on k a k) (leads on k k b) c))
      (or_cases (leads on k a b) (leads on k a k && leads on k k b) e)

  leads_still : (k a b : ℕ) → leads on k a b ≡ true → leads on (suc k) a b ≡ true
  unfolding leads
  leads_still k a b e = or_left_make (leads on k a k && leads on k k b) e

  leads-through : (k a b : ℕ) → leads on k a k ≡ true → leads on k k b ≡ true → leads on (suc k) a b ≡ true
  unfolding leads
  leads-through k a b e f = or_right_make (leads on k a b) (and_make e f)

  pub leads_one : (k a b : ℕ) → on a b ≡ true → leads on k a b ≡ true
  unfolding leads
  leads_one zero a b e = e
  leads_one (suc k) a b e = leads_still k a b (leads_one k a b e)

  pub leads_on : (k a c b : ℕ) → c < k → leads on k a c ≡ true → leads on k c b ≡ true → leads on k a b ≡ true
  leads_on zero a c b h e f = absurd (omega arith)
  leads_on (suc k) a c b h e f = go (λ x y h. leads_on k x c y h) (ltb c k) refl (leads_cases k a c e) (leads_cases k c b f)
    where
      go : ((x y : ℕ) → c < k → leads on k x c ≡ true → leads on k c y ≡ true → leads on k x y ≡ true) → (x : Bool) → ltb c k ≡ x
          → (leads on k a c ≡ true) ⊎ ((leads on k a k ≡ true) × (leads on k k c ≡ true))
          → (leads on k c b ≡ true) ⊎ ((leads on k c k ≡ true) × (leads on k k b ≡ true)) → leads on (suc k) a b ≡ true
      go r true q (inl e) (inl f) = leads_still k a b (r a b (ltb-true c k q) e f)
      go r true q (inl e) (inr f) = leads-through k a b (r a k (ltb-true c k q) e f.0) f.1
      go r true q (inr e) (inl f) = leads-through k a b e.0 (r k b (ltb-true c k q) e.1 f)
      go r true q (inr e) (inr f) = leads-through k a b e.0 f.1
      go r false q e f =
          let same : c ≡ k = let w = ltb-false c k q in omega arith in
          leads-through k a b
          (⊎_elim (λ x. subst (λ (y : ℕ). leads on k a y ≡ true) same x) (λ x. x.0) e)
          (⊎_elim (λ x. subst (λ (y : ℕ). leads on k y b ≡ true) same x) (λ x. x.1) f)

  -- whoever is led to is on some list, and whoever leads has one
  pub leads_last : (k a b : ℕ) → leads on k a b ≡ true → (c : ℕ) × (on c b ≡ true)
  leads_last zero a b e = (a, unfold leads in e)
  leads_last (suc k) a b e = ⊎_elim (λ c. leads_last k a b c) (λ c. leads_last k k b c.1) (leads_cases k a b e)

  pub leads_first : (k a b : ℕ) → leads on k a b ≡ true → (c : ℕ) × (on a c ≡ true)
  leads_first zero a b e = (b, unfold leads in e)
  leads_first (suc k) a b e = ⊎_elim (λ c. leads_first k a b c) (λ c. leads_first k a k c.0) (leads_cases k a b e)

  pub leads_none : (t : ℕ) → ((b : ℕ) → on t b ≡ true → ⊥) → (k b : ℕ) → leads on k t b ≡ true → ⊥
  leads_none t h k b e = let c = leads_first k t b e in h c.0 c.1

-- one list grows by a task that has none
pub leads-grown : (on on' : ℕ → ℕ → Bool) (t : ℕ) → ((b : ℕ) → on t b ≡ true → ⊥) → ((a b : ℕ) → on' a b ≡ true → (b ≡ t) ⊎ (on a b ≡ true))
    → (k a b : ℕ) → leads on' k a b ≡ true → (b ≡ t) ⊎ (leads on k a b ≡ true)
leads-grown on on' t h g zero a b e = unfold leads in g a b e
leads-grown on on' t h g (suc k) a b e =
    go (λ x y. leads-grown on on' t h g k x y) (leads_cases on' k a b e)
  where
    two : (k ≡ t) ⊎ (leads on k a k ≡ true) → (b ≡ t) ⊎ (leads on k k b ≡ true) → (b ≡ t) ⊎ (leads on (suc k) a b ≡ true)
    two p (inl q) = inl q
    two (inl p) (inr q) = absurd (leads_none on t h k b (subst (λ (x : ℕ). leads on k x b ≡ true) p q))
    two (inr p) (inr q) = inr (leads-through on k a b p q)

    go : ((x y : ℕ) → leads on' k x y ≡ true → (y ≡ t) ⊎ (leads on k x y ≡ true))
        → (leads on' k a b ≡ true) ⊎ ((leads on' k a k ≡ true) × (leads on' k k b ≡ true)) → (b ≡ t) ⊎ (leads on (suc k) a b ≡ true)
    go f (inl c) = ⊎_elim (λ x. inl x) (λ x. inr (leads_still on k a b x)) (f a b c)
    go f (inr c) = two (f a k c.0) (f k b c.1)

-- lists that only shrink
pub leads_less : (on on' : ℕ → ℕ → Bool) → ((a b : ℕ) → on' a b ≡ true → on a b ≡ true) → (k a b : ℕ) → leads on' k a b ≡ true → leads on k a b ≡ true
leads_less on on' g zero a b e = unfold leads in g a b e
leads_less on on' g (suc k) a b e =
    ⊎_elim (λ c. leads_still on k a b (leads_less on on' g k a b c))
    (λ c. leads-through on k a b (leads_less on on' g k a k c.0) (leads_less on on' g k k b c.1)) (leads_cases on' k a b e)

-- ways among the first n tasks go by the lists that these are on
pub leads_below : (on on' : ℕ → ℕ → Bool) (n : ℕ) → ((a b : ℕ) → b < n → on a b ≡ on' a b) → (k : ℕ) → k ≤ n → (a b : ℕ) → b < n → leads on k a b ≡ leads on' k a b
unfolding leads
leads_below on on' n f zero l a b h = f a b h
leads_below on on' n f (suc k) l a b h =
    ap (λ (x : Bool). x || (leads on k a k && leads on k k b)) (leads_below on on' n f k (omega arith) a b h)
    ∙ ap (λ (x : Bool). leads on' k a b || (x && leads on k k b)) (leads_below on on' n f k (omega arith) a k (omega arith))
    ∙ ap (λ (x : Bool). leads on' k a b || (leads on' k a k && x)) (leads_below on on' n f k (omega arith) k b h)

-- lists that are the same
pub leads-same : (on on' : ℕ → ℕ → Bool) → ((a b : ℕ) → on a b ≡ on' a b) → (k a b : ℕ) → leads on k a b ≡ leads on' k a b
leads-same on on' f k a b = leads_below on on' (suc (k + b)) (λ x y _. f x y) k (omega arith) a b (omega arith)

-- Link by link -----------------------------------------------------------------------------------------------------------------------

-- where lists lead is told by who is on them
pub led_from : (m m' : Memory) → ((t w : ℕ) → Joined m t w → Joined m' t w) → (u : ℕ) {t : ℕ} → Led m u t → Led m' u t
led_from m m' f u itself = itself
led_from m m' f u (onward {w = w} t p j) = onward t (led_from m m' f u p) (f t w j)

module _ (m : Memory) where
  -- the last link
  pub led_cases : {u t : ℕ} → Led m u t → (t ≡ u) ⊎ ((w : ℕ) × Led m u w × Joined m t w)
  led_cases itself = inl refl
  led_cases (onward {w = w} t p j) = inr (w, p, j)

  -- where a way leads on from one to whom u leads, its last link is from one to whom u leads
  pub leads-before : (u k a b : ℕ) → Led m u a → leads (on_list m) k a b ≡ true → (c : ℕ) × Led m u c × Joined m b c
  leads-before u zero a b l e = (a, l, unfold leads on_list in e)
  leads-before u (suc k) a b l e =
      ⊎_elim (λ c. leads-before u k a b l c)
      (λ c. let (w, p, j) = leads-before u k a k l c.0 in leads-before u k k b (onward k p j) c.1) (leads_cases (on_list m) k a b e)

  pub leads_led : (k a b : ℕ) → leads (on_list m) k a b ≡ true → Led m a b
  leads_led k a b e = let (c, l, j) = leads-before a k a b itself e in onward b l j

  module _ (z : Sizes) where
    pub ends_led : (u t : ℕ) → ends_with z m u t ≡ true → Led m u t
    ends_led u t e =
        ⊎_elim (λ c. subst (λ (x : ℕ). Led m u x) (sym (eqb-true t u c)) itself) (λ c. leads_led z.tasks u t c)
        (or_cases (eqb t u) (leads (on_list m) z.tasks u t) (unfold ends_with in e))

    -- where every set has tasks alone in it
    module _ (small : (t w : ℕ) → Joined m t w → w < z.tasks) where
      led_leads : (u : ℕ) {t : ℕ} → Led m u t → (t ≡ u) ⊎ (leads (on_list m) z.tasks u t ≡ true)
      led_leads u itself = inl refl
      led_leads u (onward {w = w} t p j) = inr (go (led_leads u p))
        where
          last : leads (on_list m) z.tasks w t ≡ true
          last = leads_one (on_list m) z.tasks w t (unfold on_list in j)

          go : (w ≡ u) ⊎ (leads (on_list m) z.tasks u w ≡ true) → leads (on_list m) z.tasks u t ≡ true
          go (inl e) = subst (λ (x : ℕ). leads (on_list m) z.tasks x t ≡ true) e last
          go (inr e) = leads_on (on_list m) z.tasks u w t (small t w j) e last

      pub led_ends : (u t : ℕ) → Led m u t → ends_with z m u t ≡ true
      unfolding ends_with
      led_ends u t p =
          ⊎_elim (λ e. or_left_make (leads (on_list m) z.tasks u t) (eq-eqb t u e)) (λ e. or_right_make (eqb t u) e) (led_leads u p)

      -- whoever is on the list of one who ends, ends
      pub ends_on : (u w t : ℕ) → ends_with z m u w ≡ true → Joined m t w → ends_with z m u t ≡ true
      ends_on u w t e j = led_ends u t (onward t (ends_led u w e) j)
