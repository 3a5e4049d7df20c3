-- What a step leaves, and what it makes of others: it joins the owner that it meets, or fails alone, or ends the owner with its list;
-- no other task's place is moved.
use Prim.Native.Nat.{ℕ, suc, ◌<◌}
use mathlib.Core.Path.{◌≡◌, refl, sym, ap, ◌∙◌, subst, subst⁻¹}
use mathlib.Core.Logic.{◌⊎◌, inl, inr, ◌≢◌}
use mathlib.Core.Bool.{true, false, true≢false}
use lib.Seq.{get_or-set_same, get_or-set_other}
use native.Mathlib.Omega.{arith}
use Rattle.memory.specs.{Sizes, Goal, Sleep, Failed, Phase, Idle, Open, Taking, Releasing, Place, Held, Owner, Memory, kind_of, steps, place, moved, ended, entry, held, held_of, number_of, set_word, set_held, set_place, move, sound, Reply, wakes, clash, joining, version_on, joined, step, SP, call, ours, phase, word, Same, ButAt, Left, Steps, StepsLeave, Meets, BothSleep, OneVersion, PlacesChange, Stays, Failing, Joining, EndsWith, ClashesEnd}
use Rattle.memory.proofs.Tools.{both}
use Rattle.memory.proofs.Codes.{is_asleep, version_back, owner_back, not_owner, owner_inj, version_inj}
use Rattle.memory.proofs.Cases.{asked_4}
use Rattle.memory.proofs.Stores.{place_same, place_other, held_same, held_other}
use Rattle.memory.proofs.Clashes.{clash-words, clash-records}
use Rattle.memory.proofs.Facts.{words-length, places_length, in_places, joins_small, in_records, entry-fits, final-fits}
use Rattle.memory.proofs.Struck.{clash-ends, one_version, joined_joins}
use Rattle.memory.proofs.Went.{not-steps, record_at, owner_inside, Does, takes, has, late, meets, differs, chooses, writes, wrote_all, gives, passes, Went, moves, joins, rests, ends, step_goes, lands, keeps_entries}

module _ (z : Sizes) (m : Memory) (t : ℕ) (ok : sound z m ≡ true) (lt : t < z.tasks) where
  abbrev n : ℕ
  n = (place m t).count

  -- What it leaves ---------------------------------------------------------------------------------------------------------------

  left : {p p' : Phase} {m₁ : Memory} {Words : (ℕ → ℕ) → (ℕ → ℕ) → Type 0} {Records : (ℕ → Held) → (ℕ → Held) → Type 0} → Does z m t p m₁ p'
      → Words (word m) (word m₁) → Records (held m) (held m₁) → Left m t (move m₁ t p') (moved (place m t) p') Words Records
  unfolding move set_place held
  left d w r = record { own = lands z m t ok lt d; words = w; records = r; entries = keeps_entries z m t ok lt d }

  same_left : {p p' : Phase} → Does z m t p m p' → Left m t (move m t p') (moved (place m t) p') Same Same
  same_left d = left d (λ a. refl) (λ r. refl)

  record_left : {p p' : Phase} (i : ℕ) (k : Held) → held_of (number_of k) ≡ k → Does z m t p (set_held m (record_at z m t i) k) p'
      → Left m t (move (set_held m (record_at z m t i) k) t p') (moved (place m t) p') Same (ButAt (record_at z m t i) k)
  record_left i k c d =
      let h = in_records z m ok (entry z m t i).address in
      left d (λ a. unfold set_held in refl) (held_same m (record_at z m t i) k h c, held_other m (record_at z m t i) k h c)

  word-stored : (i : ℕ) → i < n → (v : ℕ) → ButAt (entry z m t i).address v (word m) (word (set_word m (entry z m t i).address v))
  unfolding set_word
  word-stored i h v =
      (get_or-set_same m.words _ v 0 (omega (arith, words-length z m ok, (entry-fits z m ok t lt i h).0)), λ b ne. get_or-set_other m.words _ b v 0 ne)

  short_of : {A : Type 0} {i : ℕ} → i < n → i ≡ n → A
  short_of h x = absurd (omega (arith, h, x))

  -- where another task owns the record, `ClashesEnd` says it all
  pub owned_by : (g : Goal) (i u : ℕ) → i < n → held m (record_at z m t i) ≡ Owner u → u ≢ t → {m' : Memory} → Steps z m t m' (Taking g i)
  owned_by g i u h e ne =
      (short_of h, λ _ x. not_owner _ _ (sym x ∙ e), λ _ x. absurd (ne (owner_inj _ _ (sym e ∙ x))), λ _ v x _. not_owner _ _ (sym x ∙ e))

  leaves : {p : Phase} {r : Reply} → Went z m t p r → Steps z m t r.after p
  leaves (moves (takes g i h e)) = (
    short_of h,
    λ _ _. record_left i (Owner t) (owner_back t) (takes g i h e),
    λ _ x. not_owner _ _ (sym e ∙ x),
    λ _ v x ne. absurd (ne (version_inj _ _ (sym x ∙ e))),
  )
  leaves (moves (has g i h e)) =
      (short_of h, λ _ x. not_owner _ _ (sym x ∙ e), λ _ _. same_left (has g i h e), λ _ v x ne. not_owner _ _ (sym x ∙ e))
  leaves (moves (late g i h v e ne)) =
      (short_of h, λ _ x. absurd (ne (version_inj _ _ (sym e ∙ x))), λ _ x. not_owner _ _ (sym e ∙ x), λ _ w x _. same_left (late g i h v e ne))
  leaves (moves (meets g i h u e ne j stays)) = owned_by g i u h e ne
  leaves (moves (differs i h u e ne w v)) = owned_by Sleep i u h e ne
  leaves (joins i h u e ne w v) = owned_by Sleep i u h e ne
  leaves (moves (chooses g)) = (λ _. same_left (chooses g), λ h. absurd (omega arith), λ h. absurd (omega arith), λ h. absurd (omega arith))
  leaves (moves (writes i h)) = (short_of h, λ _. left (writes i h) (word-stored i h _) (λ r. unfold set_word held in refl))
  leaves (moves wrote_all) = (λ _. same_left wrote_all, λ h. absurd (omega arith))
  leaves (moves (gives o i h e)) = (short_of h, λ _ _. record_left i _ (version_back _ (final-fits z m ok t lt o i h)) (gives o i h e), λ _ x. absurd (x e))
  leaves (moves (passes o i h ne)) = (short_of h, λ _ x. absurd (ne x), λ _ _. same_left (passes o i h ne))
  leaves rests = refl
  leaves (ends o) = (
    λ _. unfold set_place held in record { own = place_same m t ended (in_places z m ok t lt); words = λ a. refl; records = λ r. refl; entries = refl },
    λ h. absurd (omega arith),
    λ h. absurd (omega arith),
  )

pub steps_leave : StepsLeave ours
steps_leave z m t ok lt = go (both (steps (phase m t)))
  where
    S : Phase → Type 0
    S p = Steps z m t (call z m (SP t)).after p

    still : (phase m t ≡ Idle) ⊎ (phase m t ≡ Open) → S (phase m t)
    still (inl e) = subst⁻¹ S e tt
    still (inr e) = subst⁻¹ S e tt

    go : (steps (phase m t) ≡ true) ⊎ (steps (phase m t) ≡ false) → S (phase m t)
    go (inl s) = leaves z m t ok lt (step_goes z m t ok lt s)
    go (inr s) = still (not-steps (phase m t) s)

-- What it makes of others ------------------------------------------------------------------------------------------------------------

module _ (z : Sizes) (m : Memory) (t : ℕ) where
  -- what `ClashesEnd` says of a step that meets the owner u with entry i; and of every step
  abbrev pub Three : ℕ → Goal → ℕ → Memory → Type 0
  Three u g i m' =
      (BothSleep m u g → OneVersion z m t u i → PlacesChange m t m' (Joining u i) Stays)
      × (BothSleep m u g → (OneVersion z m t u i → ⊥) → PlacesChange m t m' Failing Stays)
      × ((BothSleep m u g → ⊥) → PlacesChange m t m' Failing (EndsWith m u))

  abbrev pub Alone : Type 0
  Alone = (u : ℕ) (g : Goal) (i : ℕ) → Meets z m t u g i → ⊥

  abbrev pub Meeting : Memory → Type 0
  Meeting m' = ((u : ℕ) (g : Goal) (i : ℕ) → Meets z m t u g i → Three u g i m') × (Alone → (v : ℕ) → v ≢ t → place m' v ≡ place m v)

  -- it meets nobody
  pub alone : {m' : Memory} → Alone → ((v : ℕ) → v ≢ t → place m' v ≡ place m v) → Meeting m'
  alone none same = (λ u g i x. absurd (none u g i x), λ _. same)

  -- a task that is not in Taking meets nobody
  pub elsewhere : (p : Phase) → phase m t ≡ p → kind_of p ≢ 2 → Alone
  elsewhere p q k u g i x = k (ap kind_of (sym q ∙ x.taking))

  -- at entry i it meets the owner of that entry's record
  pub at_entry : (g : Goal) (i : ℕ) → phase m t ≡ Taking g i → (u : ℕ) (g' : Goal) (j : ℕ) → Meets z m t u g' j
      → (g ≡ g') × (i ≡ j) × (i < (place m t).count) × (held m (record_at z m t i) ≡ Owner u)
  at_entry g i q u g' j x =
      let w : Taking g i ≡ Taking g' j = sym q ∙ x.taking in
      let s : i ≡ j = cc in
      (cc, s, omega (arith, s, x.within), subst⁻¹ (λ (k : ℕ). held m (record_at z m t k) ≡ Owner u) s x.owned)

  -- and nobody where no other owns it
  pub unowned : (g : Goal) (i : ℕ) → phase m t ≡ Taking g i → ((u : ℕ) → u ≢ t → held m (record_at z m t i) ≡ Owner u → ⊥) → Alone
  unowned g i q none u g' j x = none u x.other (at_entry g i q u g' j x).3

  meets_owner : {m' : Memory} (g : Goal) (i : ℕ) → phase m t ≡ Taking g i → i < (place m t).count → (u : ℕ) → held m (record_at z m t i) ≡ Owner u → u ≢ t
      → Three u g i m' → Meeting m'
  meets_owner {m'} g i q h u e ne three = (λ v g' j x. go v g' j (at_entry g i q v g' j x), λ none. absurd (none u g i (record { taking = q; within = h; owned = e; other = ne })))
    where
      go : (v : ℕ) (g' : Goal) (j : ℕ) → (g ≡ g') × (i ≡ j) × (i < (place m t).count) × (held m (record_at z m t i) ≡ Owner v) → Three v g' j m'
      go v g' j (a, b, _, o) =
          subst (λ (x : ℕ). Three x g' j m') (owner_inj u v (sym e ∙ o)) (subst (λ (x : ℕ). Three u g' x m') b (subst (λ (x : Goal). Three u x i m') a three))

module _ (z : Sizes) (m : Memory) (t : ℕ) (ok : sound z m ≡ true) (lt : t < z.tasks) where
  beyond : (m₁ : Memory) (p : Phase) (v : ℕ) → v ≢ t → place (move m₁ t p) v ≡ place m₁ v
  unfolding move
  beyond m₁ p v ne = place_other m₁ t (moved (place m₁ t) p) v ne

  owner_below : (i u : ℕ) → held m (record_at z m t i) ≡ Owner u → u < z.tasks
  owner_below i u e = omega (arith, owner_inside z m ok t i u e, places_length z m ok)

  -- who would sleep comes to a sleeper, and joins it; so one that clashes is not one of two such
  would_join : (g : Goal) (u : ℕ) → BothSleep m u g → joining g (phase m u) ≡ true
  would_join g u b = ap (λ (x : Goal). joining x (phase m u)) b.0 ∙ ap wakes b.1

  clashing : (g : Goal) (i : ℕ) → (h : i < (place m t).count) (u : ℕ) (e : held m (record_at z m t i) ≡ Owner u) (ne : u ≢ t)
      (j : joining g (phase m u) ≡ false) (stays : place (clash z m u) t ≡ place m t) → Three z m t u g i (move (clash z m u) t (Releasing Failed 0))
  clashing g i h u e ne j stays = (
    λ b _. absurd (true≢false (sym (would_join g u b) ∙ j)),
    λ b _. absurd (true≢false (sym (would_join g u b) ∙ j)),
    λ _. record {
      comer = lands z m t ok lt (meets g i h u e ne j stays);
      others = λ v nv. subst⁻¹ (λ (q : Place). EndsWith m u v (place m v) q) (beyond (clash z m u) _ v nv) (clash-ends z m ok u (owner_below i u e) v);
      words = unfold move set_place in clash-words z m u;
      records = unfold move set_place in clash-records z m u;
      entries = keeps_entries z m t ok lt (meets g i h u e ne j stays);
    },
  )

  failing : (i : ℕ) → (h : i < (place m t).count) (u : ℕ) (e : held m (record_at z m t i) ≡ Owner u) (ne : u ≢ t) (w : wakes (phase m u) ≡ true)
      (v : version_on z m u (record_at z m t i) ≢ (entry z m t i).old.version) → Three z m t u Sleep i (move m t (Releasing Failed 0))
  failing i h u e ne w v = (
    λ b one. absurd (v ((one_version z m ok t i u e).0 one)),
    λ b _. record {
      comer = lands z m t ok lt (differs i h u e ne w v);
      others = beyond m _;
      words = unfold move set_place in refl;
      records = unfold move set_place in refl;
      entries = keeps_entries z m t ok lt (differs i h u e ne w v);
    },
    λ none. absurd (none (refl, is_asleep (phase m u) w)),
  )

  joining_it : (i u : ℕ) → held m (record_at z m t i) ≡ Owner u → wakes (phase m u) ≡ true
      → version_on z m u (record_at z m t i) ≡ (entry z m t i).old.version → Three z m t u Sleep i (set_place m t (joined z u (place m t) (Taking Sleep (suc i))))
  joining_it i u e w v = (
    λ b _. record {
      comer = subst⁻¹ (Joining u i (place m t)) (place_same m t _ (in_places z m ok t lt))
          (joined_joins z u (place m t) i (joins_small z m ok t lt) (owner_below i u e));
      others = place_other m t _;
      words = unfold set_place in refl;
      records = unfold set_place in refl;
      entries = unfold set_place in refl;
    },
    λ b none. absurd (none ((one_version z m ok t i u e).1 v)),
    λ none. absurd (none (refl, is_asleep (phase m u) w)),
  )

  meeting : {p : Phase} {r : Reply} → phase m t ≡ p → Went z m t p r → Meeting z m t r.after
  unfolding set_held set_word place
  meeting q (moves (takes g i h e)) = alone z m t (unowned z m t g i q (λ u _ x. not_owner _ _ (sym e ∙ x))) (beyond _ _)
  meeting q (moves (has g i h e)) = alone z m t (unowned z m t g i q (λ u ne x. ne (owner_inj _ _ (sym x ∙ e)))) (beyond m _)
  meeting q (moves (late g i h v e _)) = alone z m t (unowned z m t g i q (λ u _ x. not_owner _ _ (sym e ∙ x))) (beyond m _)
  meeting q (moves (meets g i h u e ne j stays)) = meets_owner z m t g i q h u e ne (clashing g i h u e ne j stays)
  meeting q (moves (differs i h u e ne w v)) = meets_owner z m t Sleep i q h u e ne (failing i h u e ne w v)
  meeting q (moves (chooses g)) = alone z m t (λ u g' j x. omega (arith, (at_entry z m t g _ q u g' j x).2)) (beyond m _)
  meeting q (moves (writes i h)) = alone z m t (elsewhere z m t _ q (λ e. omega (arith, e))) (beyond _ _)
  meeting q (moves wrote_all) = alone z m t (elsewhere z m t _ q (λ e. omega (arith, e))) (beyond m _)
  meeting q (moves (gives o i h e)) = alone z m t (elsewhere z m t _ q (λ e. omega (arith, e))) (beyond _ _)
  meeting q (moves (passes o i h e)) = alone z m t (elsewhere z m t _ q (λ e. omega (arith, e))) (beyond m _)
  meeting q (joins i h u e ne w v) = meets_owner z m t Sleep i q h u e ne (joining_it i u e w v)
  meeting q rests = alone z m t (elsewhere z m t _ q (λ e. omega (arith, e))) (λ v ne. refl)
  meeting q (ends o) = alone z m t (elsewhere z m t _ q (λ e. omega (arith, e))) (place_other m t ended)

pub clashes_end : ClashesEnd ours
clashes_end z m t ok lt = go (both (steps (phase m t)))
  where
    go : (steps (phase m t) ≡ true) ⊎ (steps (phase m t) ≡ false) → Meeting z m t (call z m (SP t)).after
    go (inl s) = meeting z m t ok lt refl (step_goes z m t ok lt s)
    go (inr s) =
        alone z m t (λ u g i x. true≢false (sym (ap steps x.taking) ∙ s))
        (λ v ne. unfold call step in ap (λ (r : Reply). place r.after v) (asked_4 z m t steps _ ok lt s))
