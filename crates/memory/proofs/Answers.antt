-- What a call answers: each number by its condition and the order, and the value.
use Rattle.std.specs.Prelude.{if◌then◌else◌}
use Prim.Native.Nat.{ℕ, suc, ◌%◌, ◌<◌, ◌≤◌}
use mathlib.Core.Path.{◌≡◌, refl, sym, ap, ◌∙◌, subst}
use mathlib.Core.Logic.{◌⊎◌, inl, inr, ◌≢◌}
use mathlib.Core.List.{List, [], ◌∷◌}
use mathlib.Core.Bool.{Bool, true, false, not, false≢true, true≢false}
use lib.Dec.{eqb, ltb, leb}
use lib.ListN.{length, get_or}
use native.Mathlib.Omega.{arith}
use borrow.Author.Tests.{ltb-true, ltb-false, leb-true, leb-false, eqb-true, eqb-false, not-true, not-false}
use Rattle.memory.specs.{Sizes, Phase, Idle, Open, Entry, Memory, is_idle, is_open, steps, place, entries, limit, top_version, index, index_of, index_on, blank, logical, sound, Reply, asked, start, abort, commit, wait, fresh, known, added, overtaken, addressed, read, store, write, step, Call, ST, CM, AB, WT, SP, RD, WR, call, ours, ◌∈◌, Row, Given, OneNumber, phase, New, OnRecord, Overtaken, OldVersion, refusals, unusable, rows_of, Valued, CallAnswers}
use Rattle.memory.proofs.Tools.{if_cases, and_0, and_1}
use Rattle.memory.proofs.Codes.{is_idle_lem, is_open_lem}
use Rattle.memory.proofs.Cases.{no_refusal, asked_cases, addressed_cases, asked_0}
use Rattle.memory.proofs.Facts.{count_most}
use Rattle.memory.proofs.Find.{index_found}
use Rattle.memory.proofs.Went.{not-steps, step_goes, step_cases, steps-not}
use Rattle.memory.proofs.StepAnswers.{ending, nought, went_given}
use Rattle.memory.proofs.Fresh.{known_in, no_entry, Beside, beside, agreed, one_entry}

pub one_number : OneNumber
one_number [] n k p q = p ∙ sym q
one_number (r ∷ rows) n k (inl x) (inl y) = x.1 ∙ sym y.1
one_number (r ∷ rows) n k (inl x) (inr y) = absurd (y.0 x.0)
one_number (r ∷ rows) n k (inr x) (inl y) = absurd (x.0 y.0)
one_number (r ∷ rows) n k (inr x) (inr y) = one_number rows n k x.1 y.1

-- one row: the test is its condition
pub when : (b : Bool) (k : ℕ) (C : Type 0) (rows : List Row) (x y : Reply) → (b ≡ true → C) → (b ≡ false → C → ⊥) → x.number ≡ k
    → (b ≡ false → Given rows y.number) → Given ((k, C) ∷ rows) (if b then x else y).number
when true k C rows x y f g e h = inl (f refl, e)
when false k C rows x y f g e h = inr (g refl, h refl)

-- 1, 3, 4
asked-given : (z : Sizes) (m : Memory) (t : ℕ) (allows : Phase → Bool) (body : Reply) (Disallowed : Type 0) (rows : List Row)
    → (allows (place m t).phase ≡ true → Disallowed → ⊥) → (allows (place m t).phase ≡ false → Disallowed)
    → (sound z m ≡ true → t < z.tasks → allows (place m t).phase ≡ true → Given rows body.number)
    → Given (refusals z m t Disallowed rows) (asked z m t allows body).number
unfolding asked
asked-given z m t allows body Disallowed rows f g h =
    when (not (sound z m)) 1 (sound z m ≡ false) ((3, z.tasks ≤ t) ∷ (4, Disallowed) ∷ rows) _ _
    (λ a. not-true _ a) (λ a x. true≢false (sym (not-false _ a) ∙ x)) refl (λ a.
    when (not (ltb t z.tasks)) 3 (z.tasks ≤ t) ((4, Disallowed) ∷ rows) _ _
    (λ b. ltb-false _ _ (not-true _ b)) (λ b x. omega (arith, x, ltb-true t z.tasks (not-false _ b))) refl (λ b.
    when (not (allows (place m t).phase)) 4 Disallowed rows _ _ (λ c. g (not-true _ c)) (λ c. f (not-false _ c)) refl (λ c.
    h (not-false _ a) (ltb-true _ _ (not-false _ b)) (not-false _ c))))

idle_given : (z : Sizes) (m : Memory) (t : ℕ) (body : Reply) (rows : List Row) → (sound z m ≡ true → t < z.tasks → Given rows body.number)
    → Given (refusals z m t (phase m t ≢ Idle) rows) (asked z m t is_idle body).number
idle_given z m t body rows h =
    asked-given z m t is_idle body _ rows (λ c x. x (is_idle_lem _ c)) (λ c e. false≢true (sym c ∙ ap is_idle e)) (λ ok lt c. h ok lt)

open_given : (z : Sizes) (m : Memory) (t : ℕ) (body : Reply) (rows : List Row)
    → (sound z m ≡ true → t < z.tasks → (place m t).phase ≡ Open → Given rows body.number)
    → Given (refusals z m t (phase m t ≢ Open) rows) (asked z m t is_open body).number
open_given z m t body rows h =
    asked-given z m t is_open body _ rows (λ c x. x (is_open_lem _ c)) (λ c e. false≢true (sym c ∙ ap is_open e)) (λ ok lt c. h ok lt (is_open_lem _ c))

-- Read and Write ---------------------------------------------------------------------------------------------------------------------

module _ (z : Sizes) (m : Memory) (t a : ℕ) (ok : sound z m ≡ true) (lt : t < z.tasks) where
  abbrev c : ℕ
  c = (place m t).count

  abbrev es : List Entry
  es = entries z m t

  pub not_new : index_of a es < c → New z m t a → ⊥
  not_new h x = let k = known_in z m ok t lt a h in x (known z m t a) k.0 k.1

  overtaken_yes : overtaken z m t a ≡ true → OnRecord z m t a (λ v. (logical z m a).version ≢ v)
  unfolding overtaken index_on
  overtaken_yes o =
      let k = index_found on_r es (ltb-true _ _ (and_0 found differs o)) in
      (get_or es (index on_r es) blank, k.0, eqb-true _ _ k.1, eqb-false _ _ (not-true _ (and_1 found differs o)))
    where
      on_r : Entry → Bool
      on_r e = eqb (e.address % z.records) (a % z.records)

      found : Bool
      found = ltb (index on_r es) (length es)

      differs : Bool
      differs = not (eqb (logical z m a).version (get_or es (index on_r es) blank).old.version)

  -- of a new address that is not overtaken, the old version of the task's entries on the record is the logical one
  level : overtaken z m t a ≡ false → (e : Entry) → e ∈ es → e.address % z.records ≡ a % z.records → e.old.version ≡ (logical z m a).version
  unfolding fresh
  level o e j q = go (beside z m ok t lt a o)
    where
      go : Beside z m ok t lt a → e.old.version ≡ (logical z m a).version
      go (inl (f, k, s, v, w)) = (agreed z m ok t lt e f j k (q ∙ sym s)).0 ∙ v
      go (inr (none, w)) = absurd (none e j q)

  -- 8
  stored-given : (with_it : Memory) (v n : ℕ) (x : Entry) → (x.old.version ≡ top_version → OldVersion z m t a top_version)
      → (OldVersion z m t a top_version → x.old.version ≡ top_version) → Given ((8, OldVersion z m t a top_version) ∷ []) (store z m with_it t a v n x).number
  unfolding store
  stored-given with_it v n x f g =
      when (eqb x.old.version top_version) 8 (OldVersion z m t a top_version) [] _ _
      (λ d. f (eqb-true _ _ d)) (λ d o. eqb-false _ _ d (g o)) refl (λ d. refl)

  known-given : (v : ℕ) → index_of a es < c → Given ((8, OldVersion z m t a top_version) ∷ []) (store z m m t a v c (known z m t a)).number
  known-given v h = stored-given m v c x (λ e. inl (x, k.0, q, e)) go
    where
      x : Entry
      x = known z m t a

      k : known z m t a ∈ es × ((known z m t a).address ≡ a)
      k = known_in z m ok t lt a h

      q : x.address % z.records ≡ a % z.records
      q = ap (λ (b : ℕ). b % z.records) k.1

      go : OldVersion z m t a top_version → x.old.version ≡ top_version
      go (inl (e, j, s, w)) = (agreed z m ok t lt x e k.0 j (q ∙ sym s)).0 ∙ w
      go (inr (none, w)) = absurd (none (x, k.0, q, tt))

  new_given : (v : ℕ) → overtaken z m t a ≡ false
      → Given ((8, OldVersion z m t a top_version) ∷ []) (store z m (added z m t a) t a v (suc c) (fresh z m t a)).number
  unfolding fresh
  new_given v o = stored-given (added z m t a) v (suc c) (fresh z m t a) (there (beside z m ok t lt a o)) go
    where
      there : Beside z m ok t lt a → (logical z m a).version ≡ top_version → OldVersion z m t a top_version
      there (inl (f, k, s, v, w)) e = inl (f, k, s, v ∙ e)
      there (inr (none, w)) e = inr (λ x. none x.0 x.1 x.2, e)

      go : OldVersion z m t a top_version → (logical z m a).version ≡ top_version
      go (inl (e, j, s, w)) = sym (level o e j s) ∙ w
      go (inr (none, w)) = w

-- 5, 6, 9
addressed-given : (z : Sizes) (m : Memory) (t a : ℕ) (known new : Reply) (rows : List Row)
    → (sound z m ≡ true → t < z.tasks → index_of a (entries z m t) < (place m t).count → Given rows known.number)
    → (sound z m ≡ true → t < z.tasks → overtaken z m t a ≡ false → Given rows new.number)
    → Given (unusable z m t a rows) (addressed z m t a known new).number
unfolding addressed
addressed-given z m t a known new rows g h =
    open_given z m t _ ((5, z.words ≤ a) ∷ six ∷ nine ∷ rows) (λ ok lt op.
    when (not (ltb a z.words)) 5 (z.words ≤ a) (six ∷ nine ∷ rows) _ _ (λ d. ltb-false _ _ (not-true _ d))
    (λ d x. omega (arith, ltb-true a z.words (not-false _ d))) refl (λ d.
    if_cases (λ (r : Reply). Given (six ∷ nine ∷ rows) r.number) (ltb (index_of a (entries z m t)) (place m t).count) _ _
    (λ e. let k = ltb-true _ _ e in inr (λ x. not_new z m t a ok lt k x.0, inr (λ x. not_new z m t a ok lt k x.0, g ok lt k)))
    (λ e. let k : New z m t a = no_entry z m ok t lt a (ltb-false _ _ e) in
    when (leb (limit z) (place m t).count) 6 (New z m t a × ((place m t).count ≡ limit z)) (nine ∷ rows) _ _
    (λ f. (k, omega (arith, leb-true (limit z) (place m t).count f, count_most z m ok t lt)))
    (λ f x. omega (arith, x.1, leb-false (limit z) (place m t).count f)) refl (λ f.
    when (overtaken z m t a) 9 (Overtaken z m t a) rows _ _ (λ o. (k, overtaken_yes z m t a ok lt o))
    (λ o x. x.1.3 (sym (level z m t a ok lt o x.1.0 x.1.1 x.1.2))) refl (λ o. h ok lt o)))))
  where
    six : Row
    six = (6, New z m t a × ((place m t).count ≡ limit z))

    nine : Row
    nine = (9, Overtaken z m t a)

-- All calls ------------------------------------------------------------------------------------------------------------------------------

pub numbers_given : (z : Sizes) (m : Memory) (c : Call) → Given (rows_of z m c (call z m c).after) (call z m c).number
unfolding call start abort commit wait step read write
numbers_given z m (ST t) = idle_given z m t _ [] (λ ok lt. refl)
numbers_given z m (CM t) = open_given z m t _ [] (λ ok lt op. refl)
numbers_given z m (AB t) = open_given z m t _ [] (λ ok lt op. refl)
numbers_given z m (WT t) =
    open_given z m t _ ((7, (place m t).count ≡ 0) ∷ []) (λ ok lt op.
    when (eqb (place m t).count 0) 7 ((place m t).count ≡ 0) [] _ _ (λ d. eqb-true _ _ d) (λ d. eqb-false _ _ d) refl (λ d. refl))
numbers_given z m (SP t) =
    asked-given z m t steps _ ((phase m t ≡ Idle) ⊎ (phase m t ≡ Open)) (ending (place m t).count (phase m t) (phase (step z m t).after t))
    (steps-not _) (not-steps _) (λ ok lt s.
    subst (λ (r : Reply). Given (ending (place m t).count (phase m t) (phase (step z m t).after t)) r.number) (asked_0 z m t steps _ ok lt s)
    (went_given z m t ok lt refl (step_goes z m t ok lt s)))
numbers_given z m (RD t a) = addressed-given z m t a _ _ [] (λ ok lt k. refl) (λ ok lt o. refl)
numbers_given z m (WR t a v) =
    addressed-given z m t a _ _ ((8, OldVersion z m t a top_version) ∷ [])
    (λ ok lt k. known-given z m t a ok lt v k) (λ ok lt o. new_given z m t a ok lt v o)

-- The value --------------------------------------------------------------------------------------------------------------------------------

module _ (z : Sizes) (m : Memory) where
  abbrev Nought : Reply → Type 0
  Nought r = r.value ≡ 0

  store_nought : (m₂ : Memory) (t a v k : ℕ) (e : Entry) → Nought (store z m m₂ t a v k e)
  unfolding store
  store_nought m₂ t a v k e = if_cases Nought (eqb e.old.version top_version) _ _ (λ d. refl) (λ d. refl)

  pub values_given : (c : Call) → Valued z m c (call z m c)
  unfolding call start abort commit wait read write fresh
  values_given (ST t) = asked_cases z m t is_idle _ Nought (λ n k. refl) (λ ok lt c. refl)
  values_given (CM t) = asked_cases z m t is_open _ Nought (λ n k. refl) (λ ok lt c. refl)
  values_given (AB t) = asked_cases z m t is_open _ Nought (λ n k. refl) (λ ok lt c. refl)
  values_given (WT t) = asked_cases z m t is_open _ Nought (λ n k. refl) (λ ok lt c. if_cases Nought (eqb (place m t).count 0) _ _ (λ d. refl) (λ d. refl))
  values_given (SP t) = step_cases z m t Nought (λ n k. refl) (λ ok lt r w. nought z m t w)
  values_given (WR t a v) =
      addressed_cases z m t a _ _ Nought (λ n k. refl) (λ ok lt op. refl)
      (λ ok lt op w k. store_nought m t a v _ (known z m t a)) (λ ok lt op w k room o. store_nought (added z m t a) t a v _ (fresh z m t a))
  values_given (RD t a) =
      addressed_cases z m t a _ _ (Valued z m (RD t a)) (λ n k. (λ e. refl, no_refusal 0 refl n k, no_refusal 0 refl n k))
      (λ ok lt op. (λ e. refl, λ e. absurd (omega (arith, e)), λ e. absurd (omega (arith, e))))
      (λ ok lt op w k. (λ e. absurd (e refl), λ e f j q. same ok lt k f j q, λ e new. absurd (not_new z m t a ok lt k new)))
      (λ ok lt op w k room o. (λ e. absurd (e refl), λ e f j q. absurd (no_entry z m ok t lt a k f j q), λ e new. refl))
    where
      same : (ok : sound z m ≡ true) (lt : t < z.tasks) → index_of a (entries z m t) < (place m t).count
          → (f : Entry) → f ∈ entries z m t → f.address ≡ a → (known z m t a).new.value ≡ f.new.value
      same ok lt k f j q =
          let x = known_in z m ok t lt a k in
          ap (λ (e : Entry). e.new.value) (one_entry z m ok t lt (known z m t a) f x.0 j (x.1 ∙ sym q))

pub call_answers : CallAnswers ours
call_answers z m c = (numbers_given z m c, values_given z m c)
