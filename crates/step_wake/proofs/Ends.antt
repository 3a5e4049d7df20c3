-- Those of a set end, row by row; and that with those who end with a sleeper this is what the definition says (§7.17).
use Prim.Native.Nat.{ℕ, ◌+◌, ◌<◌, ◌≤◌, ◌^◌}
use mathlib.Core.Path.{◌≡◌, refl, sym, ap, ◌∙◌, subst, subst⁻¹}
use mathlib.Core.Logic.{⊎_elim}
use mathlib.Core.List.{List, []}
use mathlib.Core.Bool.{Bool, true, false, not, ◌&&◌, ◌||◌, true≢false}
use lib.Dec.{eqb}
use lib.ListN.{length, get_or, set, length-set}
use lib.Seq.{ext_get_or, get_or-set_same, get_or-set_other}
use native.Mathlib.Omega.{arith}
use borrow.Author.Tests.{lt-ltb}
use Rattle.memory.specs.declared.Sizes.{Sizes}
use Rattle.memory.specs.declared.Phase.{Phase}
use Rattle.memory.specs.declared.set.TaskSet.{TaskSet}
use Rattle.memory.specs.Pieces.{Memory, memory, most_tasks, position_of, place, task_set, place_of, placed, row_of}
use Rattle.memory.specs.Lists.{has, set_of, on_list, leads}
use Rattle.memory.specs.Step.{fails, wakes, ending, ends_with, ended_with, end_all}
use Rattle.memory.proofs.Tools.{both, same?, if_cases}
use Rattle.memory.proofs.Sets.{none_beyond, known_by}
use Rattle.memory.proofs.Limits.{limit_most}
use Rattle.memory.proofs.Facts.{tasks_most, places_length, in_places, count_most, position_n, joins_small}
use Rattle.memory.proofs.Clashes.{end_all-words, end_all-records, end_all-entries, end_all-length, end_all_stays, end_all-ends}
use Rattle.step_wake.specs.Contract.{Ended, MayEnd, AllEnd, EndWith, MayWake, Woke}

-- who ends goes no further in its entries
pub ending_position : (p : Phase) → position_of (ending p) ≤ position_of p
ending_position p =
    if_cases (λ k. position_of k ≤ position_of p) (fails p) _ _ (λ f. omega arith) (λ f.
    if_cases (λ k. position_of k ≤ position_of p) (wakes p) _ _ (λ w. omega arith) (λ w. omega arith))

-- Row by row -------------------------------------------------------------------------------------------------------------------

-- those of the set below k have ended
pub record Ends (ends : TaskSet) (places places' : List (List ℕ)) (k : ℕ) : Type 0 where
  pub long : length places' ≡ length places
  pub stays : (t : ℕ) → (t < k → has ends.bits t ≡ false) → get_or places' t [] ≡ get_or places t []
  pub ended : (t : ℕ) → t < k → has ends.bits t ≡ true → Ended (get_or places t []) ends (get_or places' t [])

pub ends_none : (ends : TaskSet) (places : List (List ℕ)) → Ends ends places places 0
ends_none ends places = record { long = refl; stays = λ t f. refl; ended = λ t h. absurd (omega arith) }

pub ends_all : (ends : TaskSet) (places places' : List (List ℕ)) (k : ℕ) → Ends ends places places' k → k ≡ length places → AllEnd ends places places'
ends_all ends places places' k E q =
    record { long = E.long; stays = λ t c. E.stays t (λ h. c); ended = λ t h c. E.ended t (omega arith) c }

module _ (ends : TaskSet) (places places' : List (List ℕ)) (k : ℕ) (inside : k < length places) (E : Ends ends places places' k) where
  pub ends_hit : (row : List ℕ) → has ends.bits k ≡ true → Ended (get_or places' k []) ends row → Ends ends places (set places' k row) (k + 1)
  ends_hit row c e = record {
    long = length-set places' k row ∙ E.long;
    stays = λ t f. get_or-set_other places' k t row [] (λ q. true≢false (sym c ∙ ap (has ends.bits) (sym q) ∙ f (omega arith))) ∙ E.stays t (λ h. f (omega arith));
    ended = λ t h d. ⊎_elim
        (λ q. subst⁻¹ (λ (x : ℕ). Ended (get_or places x []) ends (get_or (set places' k row) x [])) q
        (subst⁻¹ (λ (x : List ℕ). Ended (get_or places k []) ends x) (get_or-set_same places' k row [] (omega (arith, E.long)))
        (subst (λ (x : List ℕ). Ended x ends row) (E.stays k (λ h. absurd (omega arith))) e)))
        (λ q. subst⁻¹ (λ (x : List ℕ). Ended (get_or places t []) ends x) (get_or-set_other places' k t row [] q) (E.ended t (omega arith) d)) (same? t k);
  }

  pub ends-miss : has ends.bits k ≡ false → Ends ends places places' (k + 1)
  ends-miss c = record {
    long = E.long;
    stays = λ t f. E.stays t (λ h. f (omega arith));
    ended = λ t h d. ⊎_elim (λ q. absurd (true≢false (sym d ∙ ap (has ends.bits) q ∙ c))) (λ q. E.ended t (omega arith) d) (same? t k);
  }

-- With a sleeper ---------------------------------------------------------------------------------------------------------------

module _ (z : Sizes) (m : Memory) (u : ℕ) (ends : TaskSet) (rows : List (List ℕ)) (long : z.tasks ≡ length m.places)
    (small : (t : ℕ) → t < z.tasks → (place m t).joins.bits < 2 ^ z.tasks) (E : EndWith m.places u ends) (A : AllEnd ends m.places rows) where
  abbrev with_u : ℕ → Bool
  with_u = ends_with z m u

  end_with : (t : ℕ) → t < z.tasks → has ends.bits t ≡ with_u t
  unfolding ends_with on_list place place_of
  end_with t h =
      E t ∙ ap (λ (b : Bool). eqb t u || (b && leads (on_list m) (length m.places) u t)) (lt-ltb t (length m.places) (omega arith))
      ∙ ap (λ (n : ℕ). eqb t u || leads (on_list m) n u t) (sym long)

  -- the set that is left of one who ends
  left : (s j : ℕ) → s < 2 ^ z.tasks → ((w : ℕ) → has j w ≡ (has s w && not (has ends.bits w))) → j ≡ set_of z.tasks (λ w. has s w && not (with_u w))
  left s j h f =
      known_by z.tasks j (λ w. has s w && not (with_u w)) (λ w d. f w ∙ ap (λ (b : Bool). has s w && not b) (end_with w d))
      (λ w d. f w ∙ ap (λ (b : Bool). b && not (has ends.bits w)) (none_beyond z.tasks s w h d))

  row : (t : ℕ) → t < z.tasks → get_or rows t [] ≡ get_or (end_all z m with_u z.tasks).places t []
  unfolding ended_with place
  row t h = ⊎_elim
      (λ c. let e = A.ended t (omega arith) c in
      e.is ∙ ap (λ (j : ℕ). row_of (placed (place m t) (ending (place m t).phase) (task_set j))) (left (place m t).joins.bits e.joins.bits (small t h) e.left)
      ∙ sym (end_all-ends z m with_u z.tasks t h (sym (end_with t h) ∙ c) (omega arith)))
      (λ c. A.stays t c ∙ sym (end_all_stays z m with_u z.tasks t (λ d. sym (end_with t h) ∙ c))) (both (has ends.bits t))

  rows_are : rows ≡ (end_all z m with_u z.tasks).places
  rows_are = ext_get_or [] rows _ (A.long ∙ sym (end_all-length z m with_u z.tasks)) (λ t d. row t (omega (arith, A.long)))

  pub woken : memory m.words m.records rows m.entries ≡ end_all z m with_u z.tasks
  woken =
      ap (λ (l : List (List ℕ)). memory m.words m.records l m.entries) rows_are
      ∙ ap (λ (l : List ℕ). memory l m.records (end_all z m with_u z.tasks).places m.entries) (sym (end_all-words z m with_u z.tasks))
      ∙ ap (λ (l : List ℕ). memory (end_all z m with_u z.tasks).words l (end_all z m with_u z.tasks).places m.entries) (sym (end_all-records z m with_u z.tasks))
      ∙ ap (λ (l : List (List ℕ)). memory (end_all z m with_u z.tasks).words (end_all z m with_u z.tasks).records (end_all z m with_u z.tasks).places l) (sym (end_all-entries z m with_u z.tasks))

-- what a sound table gives
module _ {places : List (List ℕ)} {u : ℕ} (w : MayWake places u) where
  abbrev m₀ : Memory
  m₀ = memory w.words w.records places w.entries

  pub few : (u < most_tasks) × (length places ≤ most_tasks)
  few = (omega (arith, w.task_in, tasks_most w.sizes m₀ w.ok), omega (arith, places_length w.sizes m₀ w.ok, tasks_most w.sizes m₀ w.ok))

  pub task_there : u < length places
  task_there = in_places w.sizes m₀ w.ok u w.task_in

  pub may_end : MayEnd places
  unfolding place
  may_end = record {
    few = few.1;
    rows = λ t h.
        let k : t < w.sizes.tasks = omega (arith, places_length w.sizes m₀ w.ok) in
        let n = count_most w.sizes m₀ w.ok t k in
        record { count = omega (arith, n, limit_most w.sizes); position = omega (arith, n, limit_most w.sizes, position_n w.sizes m₀ w.ok t k) };
  }

  pub wakes_all : (ends : TaskSet) (rows : List (List ℕ)) → EndWith places u ends → AllEnd ends places rows → Woke u places rows
  unfolding place
  wakes_all ends rows E A z words records entries long =
      let same : w.sizes.tasks ≡ z.tasks = omega (arith, places_length w.sizes m₀ w.ok) in
      woken z (memory words records places entries) u ends rows long
      (λ t h. subst (λ (n : ℕ). (place_of (get_or places t [])).joins.bits < 2 ^ n) same (joins_small w.sizes m₀ w.ok t (omega arith))) E A
