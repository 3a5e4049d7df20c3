-- The laws of a step that comes to another's record (§7.7, §7.8): what the code does is what the definition says.
use Prim.Native.Nat.{ℕ, suc, ◌+◌, ◌%◌, ◌<◌, ◌≤◌}
use mathlib.Core.Path.{◌≡◌, refl, sym, ap, ◌∙◌}
use mathlib.Core.Logic.{◌≢◌}
use mathlib.Core.List.{List, []}
use mathlib.Core.Bool.{Bool, true, false, ◌||◌}
use lib.Dec.{eqb}
use lib.ListN.{get_or}
use native.Mathlib.Numerals.{add-one}
use native.Mathlib.Nat.{mod-lt}
use native.Mathlib.Omega.{arith}
use borrow.Author.Tests.{eq-eqb, ne_eqb}
use Rattle.memory.specs.declared.Sizes.{Sizes}
use Rattle.memory.specs.declared.Goal.{Goal}
use Rattle.memory.specs.declared.Outcome.TheVariants.{Failed}
use Rattle.memory.specs.declared.Phase.{Phase}
use Rattle.memory.specs.declared.Phase.TheVariants.{Idle, Open, Taking, Asleep, Writing, Releasing}
use Rattle.memory.specs.declared.Place.{Place}
use Rattle.memory.specs.declared.set.TaskSet.{TaskSet}
use Rattle.memory.specs.Pieces.{Memory, memory, most_records, place, place_of, task_set, placed, moved, set_place, move}
use Rattle.memory.specs.Lists.{has}
use Rattle.memory.specs.Sound.{sound}
use Rattle.memory.specs.Step.{fails, wakes, ends_with, end_all, clash, joining, version_on, joined, meet}
use Rattle.memory.proofs.Sets.{none_beyond, known_by}
use Rattle.memory.proofs.Facts.{some_record, records_most, places_length, run_fits, owner_task, joins_small}
use Rattle.memory.proofs.Stores.{run_length}
use Rattle.memory.proofs.Went.{comer_stays}
use Rattle.table_look.proofs.Owner.{on_record}
use Rattle.step_wake.specs.Contract.{MayWake}
use Rattle.step_wake.proofs.Ends.{few}
use Rattle.step_meet.specs.declared.Coming.{Coming}
use Rattle.step_meet.specs.Contract.{Clashed, MayCome, MayLook, Seen, Came}

-- The owner that is met --------------------------------------------------------------------------------------------------------

-- one that neither takes nor sleeps
goes_on : (p : Phase) → ((g : Goal) (i : ℕ) → p ≢ Taking g i) → p ≢ Asleep → (fails p ≡ false) × (wakes p ≡ false)
goes_on Idle f w = (refl, refl)
goes_on Open f w = (refl, refl)
goes_on (Taking g i) f w = absurd (f g i refl)
goes_on Asleep f w = absurd (w refl)
goes_on (Writing i) f w = (refl, refl)
goes_on (Releasing o i) f w = (refl, refl)

module _ (z : Sizes) (m : Memory) (u : ℕ) (met : Place) (is_met : met ≡ place m u) where
  pub clash_taker : (g : Goal) (i : ℕ) → met.phase ≡ Taking g i → set_place m u (moved met (Releasing Failed 0)) ≡ clash z m u
  unfolding clash move
  clash_taker g i p = rw (← is_met, p)

  pub clash_sleeper : met.phase ≡ Asleep → end_all z m (ends_with z m u) z.tasks ≡ clash z m u
  unfolding clash
  clash_sleeper p = rw (← is_met, p)

  pub clash_none : ((g : Goal) (i : ℕ) → met.phase ≢ Taking g i) → met.phase ≢ Asleep → m ≡ clash z m u
  unfolding clash
  clash_none f w = let h = goes_on met.phase f w in rw (← is_met, h.0, h.1)

-- The task that comes ----------------------------------------------------------------------------------------------------------

module _ (z : Sizes) (m : Memory) (t u : ℕ) (c : Coming) (met : Place) (is_met : met ≡ place m u) (ok : sound z m ≡ true) (lt : t < z.tasks) (ne : t ≢ u)
    (own : c.place ≡ place m t) (takes : c.place.phase ≡ Taking c.goal c.i) where
  stays : joining c.goal met.phase ≡ false → place (clash z m u) t ≡ c.place
  stays j =
      comer_stays z m t ok lt c.goal c.i u (ap (λ (x : Place). x.phase) (sym own) ∙ takes) (λ y. ne (sym y)) (rw is_met at j) ∙ sym own

  pub meet_clash : joining c.goal met.phase ≡ false → set_place (clash z m u) t (moved c.place (Releasing Failed 0)) ≡ meet z m t c.goal c.i c.entry u
  unfolding meet move
  meet_clash j = rw (← is_met, j, stays j)

  module _ (join : joining c.goal met.phase ≡ true) (v : ℕ) (is_seen : v ≡ version_on z m u (c.entry.address % z.records)) where
    pub meet_differs : v ≢ c.entry.old.version → set_place m t (moved c.place (Releasing Failed 0)) ≡ meet z m t c.goal c.i c.entry u
    unfolding meet move
    meet_differs d = rw (← is_met, join, ← is_seen, ne_eqb v c.entry.old.version d, own)

    -- the set of those that it has joined
    joins_are : u < z.tasks → (s : TaskSet) → ((w : ℕ) → has s.bits w ≡ (eqb w u || has c.place.joins.bits w))
        → placed c.place (Taking c.goal (c.i + 1)) s ≡ joined z u (place m t) (Taking c.goal (suc c.i))
    unfolding joined
    joins_are h s f =
        rw (add-one, ← own)
        (ap (λ (j : ℕ). placed c.place (Taking c.goal (suc c.i)) (task_set j)) (known_by z.tasks s.bits (λ w. eqb w u || has c.place.joins.bits w) (λ w d. f w) outside))
      where
        outside : (w : ℕ) → z.tasks ≤ w → has s.bits w ≡ false
        outside w d =
            f w ∙ ap (λ (b : Bool). b || has c.place.joins.bits w) (ne_eqb w u (omega arith))
            ∙ none_beyond z.tasks c.place.joins.bits w (rw own (joins_small z m ok t lt)) d

    pub meet_joins : v ≡ c.entry.old.version → u < z.tasks → (s : TaskSet) → ((w : ℕ) → has s.bits w ≡ (eqb w u || has c.place.joins.bits w))
        → set_place m t (placed c.place (Taking c.goal (c.i + 1)) s) ≡ meet z m t c.goal c.i c.entry u
    unfolding meet
    meet_joins d h s f = rw (← is_met, join, ← is_seen, eq-eqb v c.entry.old.version d, joins_are h s f)

-- What a sound table gives, and how it is left ---------------------------------------------------------------------------------

module _ {c : Coming} {z : Sizes} {places entries : List (List ℕ)} {u : ℕ} (w : MayCome c z places entries u) where
  abbrev m₀ : Memory
  m₀ = memory w.words w.records places entries

  pub records_there : (0 < z.records) × (z.records ≤ most_records)
  records_there = (some_record z m₀ w.ok, records_most z m₀ w.ok)

  record_in : c.entry.address % z.records < z.records
  record_in = mod-lt c.entry.address records_there.0

  pub owner_in : u < z.tasks
  owner_in = owner_task z m₀ w.ok _ u record_in w.owned

  pub may_wake : MayWake places u
  may_wake = record { sizes = z; words = w.words; records = w.records; entries = entries; ok = w.ok; task_in = owner_in }

  module _ (met : Place) (is_met : met ≡ place_of (get_or places u [])) where
    -- the owner has an entry on the record
    pub may_look : (r : ℕ) → r ≡ c.entry.address % z.records → MayLook z met.count entries u r
    unfolding place
    may_look r is_record =
        let fits = run_fits z m₀ w.ok u owner_in in
        rw (is_met, is_record)
        record {
          task_in = (few may_wake).0;
          some_records = records_there.0;
          few_records = records_there.1;
          record_in = record_in;
          fits = fits;
          there = rw (run_length z m₀ u (place m₀ u).count fits) (on_record z m₀ w.ok c.entry.address u w.owned);
        }

    pub came_clash : {places' : List (List ℕ)} → Clashed u places places' → joining c.goal met.phase ≡ false
        → Came c z places entries u (moved c.place (Releasing Failed 0)) places'
    unfolding place
    came_clash k j = record {
      leaves = λ words records t ok lt ne own takes.
          rw (k z words records entries (sym (places_length _ _ ok)))
          (meet_clash z (memory words records places entries) t u c met is_met ok lt ne own takes j);
      same_count = refl;
      near = omega arith;
    }

    -- the version that is seen is the definition's, with any words and records
    pub seen_is : {v : ℕ} → Seen z met.count entries u (c.entry.address % z.records) v → (words records : List ℕ)
        → v ≡ version_on z (memory words records places entries) u (c.entry.address % z.records)
    unfolding version_on place
    seen_is seen words records = seen ∙ rw is_met

    module _ (join : joining c.goal met.phase ≡ true) {v : ℕ} (seen : Seen z met.count entries u (c.entry.address % z.records) v) where
      pub came_differs : v ≢ c.entry.old.version → Came c z places entries u (moved c.place (Releasing Failed 0)) places
      unfolding place
      came_differs d = record {
        leaves = λ words records t ok lt ne own takes.
            meet_differs z (memory words records places entries) t u c met is_met ok lt ne own takes join v (seen_is seen words records) d;
        same_count = refl;
        near = omega arith;
      }

      pub came_joins : v ≡ c.entry.old.version → (s : TaskSet) → ((w : ℕ) → has s.bits w ≡ (eqb w u || has c.place.joins.bits w))
          → Came c z places entries u (placed c.place (Taking c.goal (c.i + 1)) s) places
      unfolding place
      came_joins d s f = record {
        leaves = λ words records t ok lt ne own takes.
            meet_joins z (memory words records places entries) t u c met is_met ok lt ne own takes join v (seen_is seen words records) d owner_in s f;
        same_count = refl;
        near = omega arith;
      }
