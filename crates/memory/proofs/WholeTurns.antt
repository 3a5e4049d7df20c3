-- Each try that fails leaves one sleeper fewer in the way at least: so a turn comes through.
use Prim.Native.Nat.{ℕ, zero, suc, ◌+◌, ◌%◌, ◌<◌, ◌≤◌}
use mathlib.Core.Path.{◌≡◌, refl, sym, ap, ◌∙◌, subst⁻¹}
use mathlib.Core.Logic.{◌⊎◌, inl, inr, ◌≢◌, ⊎_elim}
use mathlib.Core.List.Memᴰ
use mathlib.Core.List.{List, [], ◌∷◌}
use mathlib.Core.Bool.{Bool, true, false, ◌||◌, false≢true, true≢false}
use native.Mathlib.Omega.{arith}
use native.Mathlib.Nat.{mod-lt}
use borrow.Author.Tests.{eq-eqb, ne_eqb, eqb-true}
use Rattle.memory.specs.{Sizes, Woken, Idle, Asleep, Releasing, Place, Held, Version, Owner, Entry, Memory, kind_of, steps, place, entry, entries, limit, held, ends_with, sound, ◌∈◌, bit, Led, itself, phase, Use, Calm, body, address_of, AllZero, Through, Wakes, AllRise, is_owner, owns_one, how_many, in_the_way, ComesThrough, WholeTurnsComeThrough, ours}
use Rattle.memory.proofs.Tools.{same?, both, in_map, or_left_make, or_right_make, everywhere}
use Rattle.memory.proofs.Leads.{or_cases, led_cases, ends_led, led_ends}
use Rattle.memory.proofs.Codes.{not_owner, owner_inj, phase_of_lem}
use Rattle.memory.proofs.Stores.{held-from, entry-from}
use Rattle.memory.proofs.Facts.{some_record, count_most, owner_task, owns_none, joined_in, joined_small}
use Rattle.memory.proofs.Fresh.{entry_in}
use Rattle.memory.proofs.Runs.{leaves_sound}
use Rattle.memory.proofs.Tries.{led_sleeps, led_not_idle, a_try_ends}
use Rattle.memory.proofs.Rising.{Up, Risen, all_rise}

-- Counting -------------------------------------------------------------------------------------------------------------------------------

bit_less : (a b : Bool) → (a ≡ true → b ≡ true) → bit a ≤ bit b
bit_less true true f = omega arith
bit_less true false f = absurd (false≢true (f refl))
bit_less false b f = omega arith

no_more : (n : ℕ) (p q : ℕ → Bool) → ((i : ℕ) → q i ≡ true → p i ≡ true) → how_many n q ≤ how_many n p
no_more zero p q f = omega arith
no_more (suc n) p q f = omega (arith, no_more n p q f, bit_less (q n) (p n) (f n))

one_fewer : (n : ℕ) (p q : ℕ → Bool) (u : ℕ) → u < n → p u ≡ true → q u ≡ false → ((i : ℕ) → q i ≡ true → p i ≡ true) → how_many n q < how_many n p
one_fewer zero p q u h a b f = absurd (omega arith)
one_fewer (suc n) p q u h a b f = go (same? n u) (λ d. one_fewer n p q u d a b f)
  where
    go : (n ≡ u) ⊎ (n ≢ u) → (u < n → how_many n q < how_many n p) → how_many n q + bit (q n) < how_many n p + bit (p n)
    go (inl e) g =
        let y : bit (p n) ≡ 1 = ap (λ (k : ℕ). bit (p k)) e ∙ ap bit a in
        let w : bit (q n) ≡ 0 = ap (λ (k : ℕ). bit (q k)) e ∙ ap bit b in
        omega (arith, no_more n p q f, y, w)
    go (inr e) g = omega (arith, g (omega arith), bit_less (q n) (p n) (f n))

module _ (z : Sizes) (m m₂ : Memory) (ok : sound z m ≡ true) where
  owns_less : (w : ℕ) → ((r : ℕ) → r < z.records → is_owner (held m₂ r) w ≡ true → is_owner (held m r) w ≡ true)
      → (area : List ℕ) → owns_one z m₂ area w ≡ true → owns_one z m area w ≡ true
  owns_less w f [] e = e
  owns_less w f (a ∷ area) e =
      ⊎_elim (λ x. or_left_make (owns_one z m area w) (f (a % z.records) (mod-lt a (some_record z m ok)) x))
      (λ x. or_right_make (is_owner (held m (a % z.records)) w) (owns_less w f area x))
      (or_cases (is_owner (held m₂ (a % z.records)) w) (owns_one z m₂ area w) e)

  none_owned : (w : ℕ) → ((r : ℕ) → r < z.records → is_owner (held m₂ r) w ≡ false) → (area : List ℕ) → owns_one z m₂ area w ≡ false
  none_owned w f [] = refl
  none_owned w f (a ∷ area) = ap (λ (b : Bool). b || owns_one z m₂ area w) (f (a % z.records) (mod-lt a (some_record z m ok))) ∙ none_owned w f area

  owns-some : (u : ℕ) (area : List ℕ) (a : ℕ) → a ∈ area → held m (a % z.records) ≡ Owner u → owns_one z m area u ≡ true
  owns-some u [] a k q = absurd (Memᴰ.not-nil k)
  owns-some u (b ∷ area) a k q = go (Memᴰ.cases_cons k) (λ d. owns-some u area a d q)
    where
      here : (h : Held) → h ≡ Owner u → is_owner h u ≡ true
      here h e = ap (λ (x : Held). is_owner x u) e ∙ eq-eqb u u refl

      go : (a ≡ b) ⊎ a ∈ area → (a ∈ area → owns_one z m area u ≡ true) → owns_one z m (b ∷ area) u ≡ true
      go (inl e) f = or_left_make (owns_one z m area u) (here (held m (b % z.records)) (ap (λ (x : ℕ). held m (x % z.records)) (sym e) ∙ q))
      go (inr d) f = or_right_make (is_owner (held m (b % z.records)) u) (f d)

-- One try that failed, and the ends of the woken ------------------------------------------------------------------------------------------

not_mine : (h : Held) (u : ℕ) → h ≢ Owner u → is_owner h u ≡ false
not_mine (Version v) u n = refl
not_mine (Owner w) u n = ne_eqb w u (λ e. n (ap Owner e))

is_mine : (h : Held) (u : ℕ) → is_owner h u ≡ true → h ≡ Owner u
is_mine (Version v) u e = absurd (false≢true e)
is_mine (Owner w) u e = ap Owner (eqb-true w u e)

-- a task comes to Idle, and every other one stays: then it is calm on
calm_on : (z : Sizes) (m m' : Memory) (u : ℕ) → Calm z m → phase m' u ≡ Idle → ((w : ℕ) → w ≢ u → place m' w ≡ place m w) → Calm z m'
calm_on z m m' u calm idle others =
    everywhere (λ w. w < z.tasks → (phase m' w ≡ Idle) ⊎ (phase m' w ≡ Asleep)) u (λ _. inl idle)
    (λ w s h. subst⁻¹ (λ (q : Place). (q.phase ≡ Idle) ⊎ (q.phase ≡ Asleep)) (others w s) (calm w h))

-- A try that failed and the ends of the woken: what one of these owned has an old version of its entries, and nothing else has
-- changed.
pub record Woke (z : Sizes) (m : Memory) (t : ℕ) (us : List Use) : Type 0 where
  pub u : ℕ
  pub m₁ : Memory
  pub m₂ : Memory
  pub wakes : Wakes ours z m t us u m₁
  pub rises : AllRise ours z z.tasks m₁ m₂
  pub ok : sound z m₂ ≡ true
  pub slept : (w : ℕ) → Led m u w → phase m w ≡ Asleep
  pub others : (w : ℕ) → (Led m u w → ⊥) → place m₂ w ≡ place m w
  pub words : m₂.words ≡ m.words
  pub runs : (w j : ℕ) → w ≢ t → j < limit z → entry z m₂ w j ≡ entry z m w j
  pub calm : Calm z m₂
  pub idle : phase m₂ t ≡ Idle
  pub freed : (r : ℕ) → r < z.records → (w : ℕ) → Led m u w → held m r ≡ Owner w
      → (f : Entry) × f ∈ entries z m w × (f.address % z.records ≡ r) × (held m₂ r ≡ Version f.old.version)
  pub kept : (r : ℕ) → r < z.records → ((w : ℕ) → Led m u w → held m r ≢ Owner w) → held m₂ r ≡ held m r
  pub fewer : (area : List ℕ) → ((x : Use) → x ∈ us → address_of x ∈ area) → in_the_way z m₂ area < in_the_way z m area

-- to whom a list leads can be told; and so, whether one of them has a record
module _ (z : Sizes) (m : Memory) (ok : sound z m ≡ true) (u : ℕ) where
  led? : (w : ℕ) → Led m u w ⊎ (Led m u w → ⊥)
  led? w =
      ⊎_elim (λ e. inl (ends_led m z u w e)) (λ e. inr (λ l. true≢false (sym (led_ends m z (joined_small z m ok) u w l) ∙ e)))
      (both (ends_with z m u w))

  pub led_owner? : (h : Held) → ((w : ℕ) × Led m u w × (h ≡ Owner w)) ⊎ ((w : ℕ) → Led m u w → h ≢ Owner w)
  led_owner? (Version v) = inr (λ w l e. not_owner v w e)
  led_owner? (Owner v) = ⊎_elim (λ l. inl (v, l, refl)) (λ n. inr (λ w l e. n (subst⁻¹ (Led m u) (owner_inj v w e) l))) (led? v)

module _ (z : Sizes) (m : Memory) (t : ℕ) (lt : t < z.tasks) (ok : sound z m ≡ true) (calm : Calm z m) (idle : phase m t ≡ Idle) (us : List Use) where
  module _ (u : ℕ) (m₁ : Memory) (W : Wakes ours z m t us u m₁) where
    ok₁ : sound z m₁ ≡ true
    ok₁ = subst⁻¹ (λ (k : Memory). sound z k ≡ true) W.is_after (leaves_sound z _ m ok)

    slept : (w : ℕ) → Led m u w → phase m w ≡ Asleep
    slept w l = led_sleeps z m ok calm u W.slept l

    not_t : (w : ℕ) → Led m u w → w ≢ t
    not_t w l = led_not_idle z m ok calm u W.slept t idle l

    below_u : u < z.tasks
    below_u = let o = W.owned in owner_task z m ok (o.0 % z.records) u (mod-lt o.0 (some_record z m ok)) o.2

    below : (w : ℕ) → Led m u w → w < z.tasks
    below w l = ⊎_elim (λ e. subst⁻¹ (λ (x : ℕ). x < z.tasks) e below_u) (λ k. (joined_in z m ok w k.0 k.2).0) (led_cases m l)

    -- they, and nobody else, are in Releasing (woken) at 0
    led_up : (w : ℕ) → Led m u w → Up z m₁ z.tasks w
    led_up w l = (below w l, (W.woken w l).0)

    up_led : (w : ℕ) → Up z m₁ z.tasks w → Led m u w
    up_led w (h, p) = ⊎_elim (λ l. l) (λ n. absurd (elsewhere (sym (phase_of_lem (W.others w n)) ∙ p) (calm w h))) (led? z m ok u w)
      where
        elsewhere : phase m w ≡ Releasing Woken 0 → (phase m w ≡ Idle) ⊎ (phase m w ≡ Asleep) → ⊥
        elsewhere e (inl x) = let k : ◌≡◌ {A = ℕ} 6 0 = ap kind_of (sym e ∙ x) in omega (arith, k)
        elsewhere e (inr x) = let k : ◌≡◌ {A = ℕ} 6 4 = ap kind_of (sym e ∙ x) in omega (arith, k)

    back : (r : ℕ) → held m₁ r ≡ held m r
    back = held-from m m₁ W.records

    module _ (m₂ : Memory) (R : Risen z m₁ z.tasks m₂) where
      others : (w : ℕ) → (Led m u w → ⊥) → place m₂ w ≡ place m w
      others w n = R.others w (λ x. n (up_led w x)) ∙ W.others w n

      still_calm : Calm z m₂
      still_calm w h =
          ⊎_elim (λ l. inl (phase_of_lem (R.own w (led_up w l))))
          (λ n. subst⁻¹ (λ (q : Place). (q.phase ≡ Idle) ⊎ (q.phase ≡ Asleep)) (others w n) (calm w h)) (led? z m ok u w)

      freed : (r : ℕ) → r < z.records → (w : ℕ) → Led m u w → held m r ≡ Owner w
          → (f : Entry) × f ∈ entries z m w × (f.address % z.records ≡ r) × (held m₂ r ≡ Version f.old.version)
      freed r h w l q =
          let (j, d, s, v) = R.freed r h w (led_up w l) (back r ∙ q) in
          let d' : j < (place m w).count = omega (arith, d, (W.woken w l).1.count) in
          let same : entry z m₁ w j ≡ entry z m w j = W.runs w j (not_t w l) (omega (arith, d', count_most z m ok w (below w l))) in (
            entry z m w j,
            entry_in z m ok w (below w l) j d',
            ap (λ (f : Entry). f.address % z.records) (sym same) ∙ s,
            v ∙ ap (λ (f : Entry). Version f.old.version) same,
          )

      kept : (r : ℕ) → r < z.records → ((w : ℕ) → Led m u w → held m r ≢ Owner w) → held m₂ r ≡ held m r
      kept r h n = R.kept r h (λ w x q. n w (up_led w x) (sym (back r) ∙ q)) ∙ back r

      -- nobody comes to own more
      no_new_owner : (w r : ℕ) → r < z.records → is_owner (held m₂ r) w ≡ true → is_owner (held m r) w ≡ true
      no_new_owner w r h e =
          ⊎_elim (λ x. not_owner _ w (sym (freed r h x.0 x.1 x.2).3 ∙ is_mine (held m₂ r) w e))
          (λ n. ap (λ (x : Held). is_owner x w) (sym (kept r h n)) ∙ e) (led_owner? z m ok u (held m r))

      fewer : (area : List ℕ) → ((x : Use) → x ∈ us → address_of x ∈ area) → in_the_way z m₂ area < in_the_way z m area
      fewer area inside =
          let o = W.owned in
          let k = in_map address_of us o.1 in
          one_fewer z.tasks (owns_one z m area) (owns_one z m₂ area) u below_u
          (owns-some z m m₂ ok u area o.0 (subst⁻¹ (λ (a : ℕ). a ∈ area) k.2 (inside k.0 k.1)) o.2)
          (none_owned z m m₂ ok u (λ r h. not_mine (held m₂ r) u (owns_none z m₂ R.ok u (ap steps (phase_of_lem (R.own u (led_up u itself)))) r h)) area)
          (λ w. owns_less z m m₂ ok w (no_new_owner w) area)

    woke : Woke z m t us
    woke =
        let (m₂, R) = all_rise z m₁ ok₁ z.tasks (omega arith) in
        record {
          u = u;
          m₁ = m₁;
          m₂ = m₂;
          wakes = W;
          rises = R.rises;
          ok = R.ok;
          slept = slept;
          others = others m₂ R;
          words = R.words ∙ W.words;
          runs = λ w j ne d. entry-from m₁ m₂ z R.entries_same w j ∙ W.runs w j ne d;
          calm = still_calm m₂ R;
          idle = phase_of_lem (others m₂ R t (λ l. not_t t l refl)) ∙ idle;
          freed = freed m₂ R;
          kept = kept m₂ R;
          fewer = fewer m₂ R;
        }

  -- a try commits, or there is one that it woke
  pub ends_or_wakes : AllZero ours z m (body t us) → ((m' : Memory) × Through ours z m t us m' × Calm z m') ⊎ Woke z m t us
  ends_or_wakes e =
      ⊎_elim (λ x. inl (x.0, x.1, calm_on z m x.0 t calm (phase_of_lem x.1.own) x.1.others)) (λ x. inr (woke x.0 x.1 x.2))
      (a_try_ends z m t lt ok calm idle us e)

-- All of them --------------------------------------------------------------------------------------------------------------------------------

comes : (z : Sizes) (t : ℕ) → t < z.tasks → (area : List ℕ) (k : ℕ) (m : Memory) → sound z m ≡ true → Calm z m → phase m t ≡ Idle
    → in_the_way z m area ≤ k → ComesThrough ours z t area k m
comes z t lt area zero m ok calm idle few = λ us inside e.
    ⊎_elim (λ x. x) (λ (w : Woke z m t us). absurd (omega (arith, few, w.fewer area inside))) (ends_or_wakes z m t lt ok calm idle us e)
comes z t lt area (suc k) m ok calm idle few = λ us inside e.
    ⊎_elim inl (λ (w : Woke z m t us). inr (
      w.u,
      w.m₁,
      w.m₂,
      w.wakes,
      w.rises,
      w.calm,
      comes z t lt area k w.m₂ w.ok w.calm w.idle (omega (arith, few, w.fewer area inside)),
    )) (ends_or_wakes z m t lt ok calm idle us e)

pub whole_turns_come_through : WholeTurnsComeThrough ours
whole_turns_come_through z m t lt ok calm idle area = comes z t lt area (in_the_way z m area) m ok calm idle (omega arith)
