-- Two memories that a step may leave are the same.
use Prim.Native.Nat.{ℕ, ◌%◌, ◌<◌, ◌≤◌}
use mathlib.Core.Path.{◌≡◌, refl, sym, ap, ◌∙◌, subst}
use mathlib.Core.Logic.{◌⊎◌, inl, inr, ◌≢◌, ⊎_elim}
use mathlib.Core.Bool.{true, true≢false}
use native.Mathlib.Omega.{arith}
use Rattle.memory.specs.{Sizes, Goal, Commit, Sleep, Phase, Idle, Open, Taking, Asleep, Writing, Releasing, Place, Held, Version, Owner, Memory, position_of, goal_of, place, entry, held, sound, wakes, ends_with, version_on, Led, phase, Same, ButAt, Left, Moves, Writes, Holds, Steps, Meets, BothSleep, OneVersion, PlacesChange, Joining, Ending, EndsWith}
use Rattle.memory.proofs.Tools.{both, same?, everywhere}
use Rattle.memory.proofs.Codes.{is_asleep, not_owner, owner_inj}
use Rattle.memory.proofs.Leads.{ends_led, led_ends}
use Rattle.memory.proofs.Facts.{position_n, joined_small}
use Rattle.memory.proofs.Struck.{one_version}
use Rattle.memory.proofs.Stepping.{Three, Alone, Meeting, elsewhere, at_entry, unowned}
use Rattle.memory.proofs.Tables.{is_owner?, words_back, records_back}
use Rattle.memory.proofs.Alike.{same_table, same_place}

-- what stands at each number afterwards is told by what stood there before
abbrev Tells : {A : Type 0} → ((ℕ → A) → (ℕ → A) → Type 0) → Type 0
Tells {A} C = (f g h : ℕ → A) → C f g → C f h → (k : ℕ) → g k ≡ h k

same_tells : {A : Type 0} → Tells {A = A} Same
same_tells f g h x y k = x k ∙ sym (y k)

but_tells : {A : Type 0} (k : ℕ) (a : A) → Tells (ButAt k a)
but_tells k a f g h x y = everywhere (λ j. g j ≡ h j) k (x.0 ∙ sym y.0) (λ j ne. x.1 j ne ∙ sym (y.1 j ne))

module _ (z : Sizes) (m : Memory) (t : ℕ) (ok : sound z m ≡ true) (lt : t < z.tasks) where
  -- the task is in a phase that steps
  abbrev pub Moving : Type 0
  Moving = (phase m t ≡ Idle) ⊎ (phase m t ≡ Open) → ⊥

  -- a position is n or below it
  at_n? : (p : Phase) → phase m t ≡ p → (position_of p ≡ (place m t).count) ⊎ (position_of p < (place m t).count)
  at_n? p e =
      let h = subst (λ (p : Phase). position_of p ≤ (place m t).count) e (position_n z m ok t lt) in
      ⊎_elim inl (λ ne. inr (omega arith)) (same? (position_of p) (place m t).count)

  -- it meets another task, or nobody
  met? : ((u : ℕ) × (g : Goal) × (i : ℕ) × Meets z m t u g i) ⊎ Alone z m t
  met? = go (phase m t) refl
    where
      at : (g : Goal) (i : ℕ) → phase m t ≡ Taking g i → i < (place m t).count → (k : Held) → held m ((entry z m t i).address % z.records) ≡ k
          → ((u : ℕ) × (g : Goal) × (i : ℕ) × Meets z m t u g i) ⊎ Alone z m t
      at g i q h (Version v) e = inr (unowned z m t g i q (λ u ne x. not_owner v u (sym e ∙ x)))
      at g i q h (Owner u) e =
          ⊎_elim (λ s. inr (unowned z m t g i q (λ w ne x. ne (owner_inj w t (sym x ∙ e ∙ ap Owner s)))))
          (λ ne. inl (u, g, i, record { taking = q; within = h; owned = e; other = ne })) (same? u t)

      go : (p : Phase) → phase m t ≡ p → ((u : ℕ) × (g : Goal) × (i : ℕ) × Meets z m t u g i) ⊎ Alone z m t
      go (Taking g i) q =
          ⊎_elim (λ n. inr (λ u g' j x. absurd (omega (arith, n, (at_entry z m t g i q u g' j x).2)))) (λ h. at g i q h (held m ((entry z m t i).address % z.records)) refl)
          (at_n? (Taking g i) q)
      go Idle q = inr (elsewhere z m t Idle q (λ e. omega (arith, e)))
      go Open q = inr (elsewhere z m t Open q (λ e. omega (arith, e)))
      go Asleep q = inr (elsewhere z m t Asleep q (λ e. omega (arith, e)))
      go (Writing i) q = inr (elsewhere z m t (Writing i) q (λ e. omega (arith, e)))
      go (Releasing o i) q = inr (elsewhere z m t (Releasing o i) q (λ e. omega (arith, e)))

  -- who would sleep comes to a sleeper, or not
  both_sleep? : (u : ℕ) (g : Goal) → BothSleep m u g ⊎ (BothSleep m u g → ⊥)
  both_sleep? u Commit = inr (λ b. omega (arith, ap goal_of b.0))
  both_sleep? u Sleep = ⊎_elim (λ w. inl (refl, is_asleep (phase m u) w)) (λ w. inr (λ b. true≢false (sym (ap wakes b.1) ∙ w))) (both (wakes (phase m u)))

  led? : (u v : ℕ) → Led m u v ⊎ (Led m u v → ⊥)
  led? u v =
      ⊎_elim (λ e. inl (ends_led m z u v e)) (λ e. inr (λ l. true≢false (sym (led_ends m z (joined_small z m ok) u v l) ∙ e))) (both (ends_with z m u v))

  module _ (m₁ m₂ : Memory) (ok₁ : sound z m₁ ≡ true) (ok₂ : sound z m₂ ≡ true) where
    -- two changes of places, where the comer's and every other's tell what it becomes
    changes : {Comer : Place → Place → Type 0} {Other : ℕ → Place → Place → Type 0}
        → (Comer (place m t) (place m₁ t) → Comer (place m t) (place m₂ t) → place m₁ t ≡ place m₂ t)
        → ((v : ℕ) → v < z.tasks → Other v (place m v) (place m₁ v) → Other v (place m v) (place m₂ v) → place m₁ v ≡ place m₂ v)
        → PlacesChange m t m₁ Comer Other → PlacesChange m t m₂ Comer Other → m₁ ≡ m₂
    changes c o x y =
        same_table z m₁ m₂ ok₁ ok₂ t (x.words ∙ sym y.words) (x.records ∙ sym y.records) (c x.comer y.comer)
        (λ v h ne. o v h (x.others v ne) (y.others v ne)) (x.entries ∙ sym y.entries)

    joining : (u i : ℕ) → Joining u i (place m t) (place m₁ t) → Joining u i (place m t) (place m₂ t) → place m₁ t ≡ place m₂ t
    joining u i x y = same_place z m₁ m₂ ok₁ ok₂ t lt (x.count ∙ sym y.count) (x.phase ∙ sym y.phase) _ x.joins y.joins

    ending : (u v : ℕ) → v < z.tasks → Ending m u (place m v) (place m₁ v) → Ending m u (place m v) (place m₂ v) → place m₁ v ≡ place m₂ v
    ending u v h x y = same_place z m₁ m₂ ok₁ ok₂ v h (x.count ∙ sym y.count) (x.phase ∙ sym y.phase) _ x.joins y.joins

    ends_alike : (u v : ℕ) → v < z.tasks → EndsWith m u v (place m v) (place m₁ v) → EndsWith m u v (place m v) (place m₂ v) → place m₁ v ≡ place m₂ v
    ends_alike u v h x y = ⊎_elim (λ l. ending u v h (x.0 l) (y.0 l)) (λ l. x.1 l ∙ sym (y.1 l)) (led? u v)

    meet : (u : ℕ) (g : Goal) (i : ℕ) → Meets z m t u g i → Three z m t u g i m₁ → Three z m t u g i m₂ → m₁ ≡ m₂
    meet u g i M x y =
        ⊎_elim (λ b. ⊎_elim (λ v. changes (joining u i) (λ v h p q. p ∙ sym q) (x.0 b v) (y.0 b v))
        (λ v. changes (λ p q. p ∙ sym q) (λ v h p q. p ∙ sym q) (x.1 b v) (y.1 b v)) one?)
        (λ b. changes (λ p q. p ∙ sym q) (ends_alike u) (x.2 b) (y.2 b)) (both_sleep? u g)
      where
        one? : OneVersion z m t u i ⊎ (OneVersion z m t u i → ⊥)
        one? =
            let k = one_version z m ok t i u M.owned in
            ⊎_elim (λ e. inl (k.1 e)) (λ ne. inr (λ o. ne (k.0 o))) (same? (version_on z m u ((entry z m t i).address % z.records)) (entry z m t i).old.version)

  module _ (m₁ m₂ : Memory) (ok₁ : sound z m₁ ≡ true) (ok₂ : sound z m₂ ≡ true) (nobody : Alone z m t)
      (others : (u : ℕ) → u < z.tasks → u ≢ t → place m₁ u ≡ place m₂ u) where
    left : (q : Place) (W : (ℕ → ℕ) → (ℕ → ℕ) → Type 0) (R : (ℕ → Held) → (ℕ → Held) → Type 0) → Tells W → Tells R
        → Left m t m₁ q W R → Left m t m₂ q W R → m₁ ≡ m₂
    left q W R w r x y =
        same_table z m₁ m₂ ok₁ ok₂ t (words_back z m₂ m₁ ok₂ ok₁ (w _ _ _ x.words y.words))
        (records_back z m₂ m₁ ok₂ ok₁ (λ k h. r _ _ _ x.records y.records k)) (x.own ∙ sym y.own) others (x.entries ∙ sym y.entries)

    moves : {q : Place} → Moves z m t m₁ q → Moves z m t m₂ q → m₁ ≡ m₂
    moves {q} = left q Same Same same_tells same_tells

    writes : {a v : ℕ} {q : Place} → Writes z m t m₁ a v q → Writes z m t m₂ a v q → m₁ ≡ m₂
    writes {a} {v} {q} = left q (ButAt a v) Same (but_tells a v) same_tells

    holds : {r : ℕ} {h : Held} {q : Place} → Holds z m t m₁ r h q → Holds z m t m₂ r h q → m₁ ≡ m₂
    holds {r} {h} {q} = left q Same (ButAt r h) same_tells (but_tells r h)

    both_step : (p : Phase) → phase m t ≡ p → Moving → Steps z m t m₁ p → Steps z m t m₂ p → m₁ ≡ m₂
    both_step Idle e d x y = absurd (d (inl e))
    both_step Open e d x y = absurd (d (inr e))
    both_step Asleep e d x y = x ∙ sym y
    both_step (Taking g i) e d x y = go (at_n? (Taking g i) e) (held m r) refl
      where
        r : ℕ
        r = (entry z m t i).address % z.records

        go : (i ≡ (place m t).count) ⊎ (i < (place m t).count) → (k : Held) → held m r ≡ k → m₁ ≡ m₂
        go (inl n) k q = moves (x.0 n) (y.0 n)
        go (inr h) (Version v) q =
            ⊎_elim (λ s. holds (x.1 h (q ∙ ap Version s)) (y.1 h (q ∙ ap Version s))) (λ s. moves (x.3 h v q s) (y.3 h v q s))
            (same? v (entry z m t i).old.version)
        go (inr h) (Owner u) q =
            ⊎_elim (λ s. moves (x.2 h (q ∙ ap Owner s)) (y.2 h (q ∙ ap Owner s))) (λ s. absurd (nobody u g i (record { taking = e; within = h; owned = q; other = s }))) (same? u t)
    both_step (Writing i) e d x y = ⊎_elim (λ n. moves (x.0 n) (y.0 n)) (λ h. writes (x.1 h) (y.1 h)) (at_n? (Writing i) e)
    both_step (Releasing o i) e d x y =
        ⊎_elim (λ n. moves (x.0 n) (y.0 n)) (λ h. ⊎_elim (λ q. holds (x.1 h q) (y.1 h q)) (λ q. moves (x.2 h q) (y.2 h q)) (is_owner? _ t))
        (at_n? (Releasing o i) e)

  pub same_step : (m₁ m₂ : Memory) → sound z m₁ ≡ true → sound z m₂ ≡ true → Meeting z m t m₁ → Meeting z m t m₂
      → Moving → Steps z m t m₁ (phase m t) → Steps z m t m₂ (phase m t) → m₁ ≡ m₂
  same_step m₁ m₂ ok₁ ok₂ x y d s₁ s₂ =
      ⊎_elim (λ (u, g, i, M). meet m₁ m₂ ok₁ ok₂ u g i M (x.0 u g i M) (y.0 u g i M))
      (λ none. both_step m₁ m₂ ok₁ ok₂ none (λ u h ne. x.1 none u ne ∙ sym (y.1 none u ne)) (phase m t) refl d s₁ s₂) met?
