-- The sets of a table and its lists (§10.13): a set fits beside the sleepers where each of its tasks may have been joined.
use Prim.Native.Nat.{ℕ, ◌^◌, ◌<◌, ◌≤◌}
use mathlib.Core.Path.{◌≡◌, refl, sym, ap, ◌∙◌, subst⁻¹}
use mathlib.Core.Logic.{◌⊎◌, inl, inr, ⊎_elim}
use mathlib.Core.List.{List, []}
use mathlib.Core.Bool.{Bool, true, false, not, ◌&&◌, ◌||◌, true≢false, false≢true}
use lib.Dec.{ltb, eqb}
use lib.ListN.{length, get_or, get_or-eq_default}
use lib.Pow.{pow_mono}
use native.Mathlib.Omega.{arith}
use borrow.Author.Tests.{ltb-true, ltb-false, lt-ltb, eqb-true, eqb-false}
use Rattle.memory.specs.declared.Sizes.{Sizes}
use Rattle.memory.specs.declared.set.TaskSet.{TaskSet}
use Rattle.memory.specs.declared.Place.{Place}
use Rattle.memory.specs.Pieces.{Memory, memory, task_set, place, place_of, most_tasks}
use Rattle.memory.specs.Lists.{has, on_list, leads}
use Rattle.memory.specs.Step.{wakes}
use Rattle.memory.specs.Sound.{all_below, may_join, join_ok, joins_ok, lists_ok}
use Rattle.memory.proofs.Tools.{both, and_0, and_1, and_make, or_left_make, or_right_make, below_at, below_make}
use Rattle.memory.proofs.Sets.{has_none, set-small, small_in, empty_set, known_by}
use Rattle.memory.proofs.Leads.{or_cases, leads_first}
use Rattle.table_parts.proofs.Tests.{below_same}
use Rattle.table_leads.specs.Contract.{joined_in}
use Rattle.table_lists.specs.Contract.{Sleepers, alone, inside, set_fits}

-- a set with tasks below n alone in it is small
low_small : (n s : ℕ) → ((w : ℕ) → has s w ≡ true → w < n) → s < 2 ^ n
low_small n s f =
    subst⁻¹ (λ (x : ℕ). x < 2 ^ n)
    (known_by n s (has s) (λ w _. refl) (λ w l. ⊎_elim (λ e. absurd (omega (arith, f w e))) (λ e. e) (both (has s w)))) (set-small n (has s))

-- What a set that fits says: it is a set of tasks, each of them sleeps, and the task may join.
module _ (asleep : TaskSet) (q : Place) where
  fits_cases : set_fits asleep q ≡ true → (q.joins.bits ≡ 0) ⊎ ((inside q.joins asleep && may_join q.phase) ≡ true)
  unfolding set_fits
  fits_cases e = ⊎_elim (λ c. inl (eqb-true q.joins.bits 0 c)) (λ c. inr c) (or_cases (eqb q.joins.bits 0) _ e)

  fits-small : set_fits asleep q ≡ true → q.joins.bits < 2 ^ most_tasks
  unfolding inside
  fits-small e =
      ⊎_elim (λ c. omega (arith, c)) (λ c. ltb-true q.joins.bits (2 ^ most_tasks) (and_0 _ _ (and_0 (inside q.joins asleep) (may_join q.phase) c)))
      (fits_cases e)

  fits_in : set_fits asleep q ≡ true → (w : ℕ) → has q.joins.bits w ≡ true → (has asleep.bits w ≡ true) × (may_join q.phase ≡ true)
  unfolding inside
  fits_in e w j = ⊎_elim
      (λ c. absurd (true≢false (sym j ∙ ap (λ (x : ℕ). has x w) c ∙ has_none w)))
      (λ c. (
        among (has q.joins.bits w) j
            (below_at most_tasks (λ w. not (has q.joins.bits w) || has asleep.bits w) (and_1 (ltb q.joins.bits (2 ^ most_tasks)) _ (and_0 (inside q.joins asleep) (may_join q.phase) c)) w
            (small_in most_tasks q.joins.bits w (fits-small e) j)),
        and_1 (inside q.joins asleep) (may_join q.phase) c,
      ))
      (fits_cases e)
    where
      among : (b : Bool) → b ≡ true → (not b || has asleep.bits w) ≡ true → has asleep.bits w ≡ true
      among true e k = k
      among false e k = absurd (false≢true e)

  -- and the other way round
  pub in_fits : q.joins.bits < 2 ^ most_tasks → ((w : ℕ) → has q.joins.bits w ≡ true → (has asleep.bits w ≡ true) × (may_join q.phase ≡ true)) → set_fits asleep q ≡ true
  unfolding set_fits inside
  in_fits h f = go (both (eqb q.joins.bits 0)) (both (may_join q.phase))
    where
      each : (w : ℕ) (b : Bool) → has q.joins.bits w ≡ b → (not b || has asleep.bits w) ≡ true
      each w true e = (f w e).0
      each w false e = refl

      none : may_join q.phase ≡ false → (w : ℕ) → w < most_tasks → has q.joins.bits w ≡ false
      none n w l = ⊎_elim (λ e. absurd (true≢false (sym (f w e).1 ∙ n))) (λ e. e) (both (has q.joins.bits w))

      go : (eqb q.joins.bits 0 ≡ true) ⊎ (eqb q.joins.bits 0 ≡ false) → (may_join q.phase ≡ true) ⊎ (may_join q.phase ≡ false) → set_fits asleep q ≡ true
      go (inl e) p = or_left_make _ e
      go (inr e) (inl p) = or_right_make (eqb q.joins.bits 0) (and_make (and_make (lt-ltb q.joins.bits (2 ^ most_tasks) h) (below_make most_tasks _ (λ w l. each w (has q.joins.bits w) refl))) p)
      go (inr e) (inr p) = absurd (eqb-false q.joins.bits 0 e (empty_set most_tasks q.joins.bits h (none p)))

same_truth : {a b : Bool} → (a ≡ true → b ≡ true) → (b ≡ true → a ≡ true) → a ≡ b
same_truth {a} {b} f g = ⊎_elim (λ e. e ∙ sym (f e)) (λ e. e ∙ ⊎_elim (λ k. absurd (true≢false (sym (g k) ∙ e))) (λ k. sym k) (both b)) (both a)

module _ (z : Sizes) (places : List (List ℕ)) (few : z.tasks ≤ most_tasks) where
  abbrev table : Memory
  table = memory [] [] places []

  -- sleepers alone are in the set
  fits_ok : (asleep : TaskSet) → ((w : ℕ) → has asleep.bits w ≡ true → (w < z.tasks) × (wakes (place table w).phase ≡ true))
      → (t : ℕ) → set_fits asleep (place table t) ≡ true → joins_ok z table t ≡ true
  unfolding joins_ok join_ok on_list
  fits_ok asleep sleep t e =
      and_make
      (lt-ltb (place table t).joins.bits (2 ^ z.tasks)
      (low_small z.tasks (place table t).joins.bits (λ w j. (sleep w (fits_in asleep (place table t) e w j).0).0)))
      (below_make z.tasks _ (λ w l. each w (has (place table t).joins.bits w) refl))
    where
      each : (w : ℕ) (b : Bool) → has (place table t).joins.bits w ≡ b → (not b || (wakes (place table w).phase && may_join (place table t).phase)) ≡ true
      each w true j = let k = fits_in asleep (place table t) e w j in and_make (sleep w k.0).1 k.1
      each w false j = refl

  -- all sleepers are in it
  ok_fits : (asleep : TaskSet) → ((w : ℕ) → w < z.tasks → wakes (place table w).phase ≡ true → has asleep.bits w ≡ true)
      → (t : ℕ) → joins_ok z table t ≡ true → set_fits asleep (place table t) ≡ true
  unfolding joins_ok join_ok on_list
  ok_fits asleep sleep t e =
      in_fits asleep (place table t) (omega (arith, small, pow_mono few)) each
    where
      small : (place table t).joins.bits < 2 ^ z.tasks
      small = ltb-true (place table t).joins.bits (2 ^ z.tasks) (and_0 _ _ e)

      joined : (w : ℕ) (b : Bool) → b ≡ true → (not b || (wakes (place table w).phase && may_join (place table t).phase)) ≡ true → (wakes (place table w).phase && may_join (place table t).phase) ≡ true
      joined w true j k = k
      joined w false j k = absurd (false≢true j)

      each : (w : ℕ) → has (place table t).joins.bits w ≡ true → (has asleep.bits w ≡ true) × (may_join (place table t).phase ≡ true)
      each w j =
          let l = small_in z.tasks (place table t).joins.bits w small j in
          let k = joined w (has (place table t).joins.bits w) j (below_at z.tasks (λ w. join_ok table w t) (and_1 (ltb (place table t).joins.bits (2 ^ z.tasks)) _ e) w l) in
          (sleep w l (and_0 (wakes (place table w).phase) _ k), and_1 (wakes (place table w).phase) _ k)

  -- The whole check --------------------------------------------------------------------------------------------------------------------

  abbrev all_fit : TaskSet → Bool
  all_fit asleep = all_below (length places) (λ t. set_fits asleep (place_of (get_or places t [])))

  abbrev none_back : Bool
  none_back = all_below (length places) (λ t. not (leads (joined_in places) (length places) t t))

  module _ (long : length places ≡ z.tasks) where
    -- beside the sleepers
    pub checked : (asleep : TaskSet) → Sleepers places (length places) asleep → (all_fit asleep && none_back) ≡ lists_ok z table
    unfolding lists_ok on_list place place_of
    checked asleep S =
        ap (λ (b : Bool). b && none_back)
        (below_same _ (λ t. joins_ok z table t) (length places) (λ t l. same_truth (fits_ok asleep sleep t) (ok_fits asleep among t)))
        ∙ rw long
      where
        sleep : (w : ℕ) → has asleep.bits w ≡ true → (w < z.tasks) × (wakes (place table w).phase ≡ true)
        sleep w e = let k = sym (S w) ∙ e in (omega (arith, long, ltb-true w (length places) (and_0 _ _ k)), unfold place in and_1 (ltb w (length places)) _ k)

        among : (w : ℕ) → w < z.tasks → wakes (place table w).phase ≡ true → has asleep.bits w ≡ true
        among w l e = S w ∙ and_make (lt-ltb w (length places) (omega (arith, long))) (unfold place in e)

    -- where nobody is on a list all sets fit, with nobody asleep
    pub nobody : all_below (length places) (alone places) ≡ true → true ≡ lists_ok z table
    unfolding lists_ok place
    nobody e = sym (and_make
        (below_make z.tasks _ (λ t l. fits_ok (task_set 0) (λ w k. absurd (true≢false (sym k ∙ has_none w))) t (fit t l)))
        (below_make z.tasks _ (λ t l. ⊎_elim (λ k. absurd (no_list t (leads_first (on_list table) z.tasks t t k))) (λ k. ap not k) (both (leads (on_list table) z.tasks t t)))))
      where
        fit : (t : ℕ) → t < z.tasks → set_fits (task_set 0) (place_of (get_or places t [])) ≡ true
        fit t l = unfold set_fits place_of in or_left_make _ (below_at (length places) (alone places) e t (omega (arith, long)))

        no_list : (t : ℕ) → (c : ℕ) × (on_list table t c ≡ true) → ⊥
        no_list t (c, j) = go (ltb c z.tasks) refl
          where
            joined : has (place_of (get_or places c [])).joins.bits t ≡ true
            joined = unfold on_list place in j

            empty : z.tasks ≤ c → has (place_of (get_or places c [])).joins.bits t ≡ false
            empty h = unfold place_of in ap (λ (r : List ℕ). has (get_or r 3 0) t) (get_or-eq_default places [] (omega (arith, long))) ∙ has_none t

            go : (b : Bool) → ltb c z.tasks ≡ b → ⊥
            go true k = true≢false (sym (fits_in (task_set 0) (place_of (get_or places c [])) (fit c (ltb-true c z.tasks k)) t joined).0 ∙ has_none t)
            go false k = true≢false (sym joined ∙ empty (ltb-false c z.tasks k))
