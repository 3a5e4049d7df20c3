-- The rows in which a Read and a Write store entries, and that what an opening leaves is sound.
use Prim.Native.Nat.{ℕ, suc, ◌+◌, ◌<◌, ◌≤◌}
use mathlib.Core.Path.{◌≡◌, refl, sym, ap, ◌∙◌}
use mathlib.Core.Logic.{◌≢◌}
use mathlib.Core.List.{List, []}
use mathlib.Core.Bool.{true}
use lib.Dec.{eqb}
use lib.ListN.{length}
use native.Mathlib.Omega.{arith}
use Rattle.memory.specs.{Sizes, Entry, Memory, place, entry, entry_of, row_of_entry, limit, run_start, set_place, set_entry, top_version, sound, Reply, fresh, added, read, written, rewrite, store, write, ST, CM, AB, WT, SP, RD, WR, call, ours, Scene, entry_row, StoredFrom, Stores, EntriesStored, OpeningIsSound}
use Rattle.memory.proofs.Tools.{if_cases}
use Rattle.memory.proofs.Codes.{entry_back, count_of}
use Rattle.memory.proofs.Cases.{no_refusal, addressed_cases}
use Rattle.memory.proofs.Limits.{places_apart, run_inside}
use Rattle.memory.proofs.Stores.{row_same, row_other, rewrite_places, rewritten-row, rewrite-row, place-from}
use Rattle.memory.proofs.Facts.{entries-length, count_most, run_fits}
use Rattle.memory.proofs.Fresh.{added-place, added-fits}
use Rattle.memory.proofs.Serial.{always}

-- a row that holds an entry is the encoding of what is read from it
encoded : (row : List ℕ) (e : Entry) → row ≡ row_of_entry e → row ≡ row_of_entry (entry_of row)
encoded row e q = q ∙ ap row_of_entry (sym (ap entry_of q ∙ entry_back e))

none_stored : (z : Sizes) (m : Memory) (t : ℕ) → StoredFrom (place m t).count z m t m
none_stored z m t = record { others = λ u i ne h. refl; before = λ i h. refl; beyond = λ i h l. refl; stored = λ i h k. absurd (omega (arith, h, k)) }

-- every entry of a task stored anew, in a table that differs by some of them already
all_stored : (z : Sizes) (m : Memory) (t from : ℕ) (m₁ : Memory) (f : Entry → Entry) (n : ℕ) → StoredFrom from z m t m₁ → n ≡ (place m₁ t).count → n ≤ limit z
    → run_start z t + n ≤ length m₁.entries → StoredFrom 0 z m t (rewrite z m₁ t f n)
all_stored z m t from m₁ f n S c few fits =
    record {
      others = λ u i ne h. rewrite-row z m₁ t f n u i (λ j l. places_apart z t u j i ne (omega arith) h) ∙ S.others u i ne h;
      before = λ i h. absurd (omega arith);
      beyond = λ i h l.
          let k : n ≤ i = omega (arith, h, here, c) in
          rewrite-row z m₁ t f n t i (λ j d q. omega (arith, q, d, k)) ∙ S.beyond i (omega (arith, k, c)) l;
      stored = λ i h k. unfold entry in encoded _ _ (rewritten-row z m₁ t f n i (omega (arith, k, here, c)) fits);
    }
  where
    here : (place (rewrite z m₁ t f n) t).count ≡ (place m₁ t).count
    here = count_of (place-from m₁ (rewrite z m₁ t f n) (rewrite_places z m₁ t f n) t)

module _ (z : Sizes) (m : Memory) (t a : ℕ) (ok : sound z m ≡ true) (lt : t < z.tasks) where
  abbrev c : ℕ
  c = (place m t).count

  added_count : (place (added z m t a) t).count ≡ suc c
  added_count = count_of (added-place z m ok t lt a)

  added_rows : (u i : ℕ) → entry_row z (added z m t a) u i ≡ entry_row z (set_entry z m t c (fresh z m t a)) u i
  unfolding added set_place
  added_rows u i = refl

  one_stored : c < limit z → StoredFrom c z m t (added z m t a)
  one_stored room =
      record {
        others = λ u i ne h. other u i (places_apart z t u c i ne room h);
        before = λ i h. other t i (λ q. omega (arith, q, h));
        beyond = λ i h l. other t i (λ q. omega (arith, q, h, added_count));
        stored = λ i h k. unfold entry in encoded _ _ (at i (omega (arith, h, k, added_count)));
      }
    where
      other : (u i : ℕ) → (run_start z u + i) ≢ (run_start z t + c) → entry_row z (added z m t a) u i ≡ entry_row z m u i
      other u i ne = added_rows u i ∙ row_other z m t c (fresh z m t a) u i ne

      at : (i : ℕ) → i ≡ c → entry_row z (added z m t a) t i ≡ row_of_entry (fresh z m t a)
      at i q =
          ap (entry_row z (added z m t a) t) q ∙ added_rows t c
          ∙ row_same z m t c (fresh z m t a) (omega (arith, run_inside z t lt m (entries-length z m ok)))

store_stored : (z : Sizes) (m : Memory) (t a v : ℕ) (m₁ : Memory) (n : ℕ) (e : Entry) → StoredFrom 0 z m t (rewrite z m₁ t (written z.records a v) n)
    → (store z m m₁ t a v n e).number ≡ 0 → StoredFrom 0 z m t (store z m m₁ t a v n e).after
unfolding store
store_stored z m t a v m₁ n e S =
    if_cases (λ (r : Reply). r.number ≡ 0 → StoredFrom 0 z m t r.after) (eqb e.old.version top_version) _ _ (λ d x. absurd (omega (arith, x))) (λ d x. S)

pub entries_stored : EntriesStored ours
unfolding call read write
entries_stored z m (ST t) = tt
entries_stored z m (CM t) = tt
entries_stored z m (AB t) = tt
entries_stored z m (WT t) = tt
entries_stored z m (SP t) = tt
entries_stored z m (RD t a) =
    addressed_cases z m t a _ _ (Stores z m (RD t a)) (no_refusal 0 refl) (λ ok lt op x. absurd (omega (arith, x)))
    (λ ok lt op w k x. none_stored z m t) (λ ok lt op w k room o x. one_stored z m t a ok lt room)
entries_stored z m (WR t a v) =
    addressed_cases z m t a _ _ (Stores z m (WR t a v)) (no_refusal 0 refl) (λ ok lt op x. absurd (omega (arith, x)))
    (λ ok lt op w k. store_stored z m t a v m _ _ (all_stored z m t _ m _ _ (none_stored z m t) refl (count_most z m ok t lt) (run_fits z m ok t lt)))
    (λ ok lt op w k room o. store_stored z m t a v (added z m t a) _ _
    (all_stored z m t _ (added z m t a) _ _ (one_stored z m t a ok lt room) (sym (added_count z m t a ok lt)) room (added-fits z m ok t lt a room)))

-- nothing is called after it, and what is reached is sound
pub opening_is_sound : OpeningIsSound ours
opening_is_sound z v m o = always (λ (s : Scene). sound s.sizes s.memory ≡ true) (λ s f. f.0) z v m o []
