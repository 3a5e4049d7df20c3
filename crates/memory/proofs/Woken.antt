-- Soundness lasts where a sleeper wakes with all who end with it (§7.17).
use Prim.Native.Nat.{ℕ, ◌%◌, ◌^◌, ◌<◌, ◌≤◌}
use mathlib.Core.Path.{◌≡◌, refl, sym, ap, ◌∙◌, subst⁻¹}
use mathlib.Core.Logic.{◌⊎◌, inl, inr, ⊎_elim}
use mathlib.Core.List.{[]}
use mathlib.Core.Bool.{Bool, true, false, not, ◌&&◌, true≢false}
use lib.Dec.{ltb}
use lib.ListN.{length, get_or}
use native.Mathlib.Omega.{arith}
use borrow.Author.Tests.{ltb-true, ltb-false, not-true}
use Rattle.memory.specs.{Sizes, Phase, Idle, Open, Taking, Asleep, Writing, Releasing, Place, Held, Version, Owner, Entry, Memory, position_of, is_idle, steps, row_of, place, entry, limit, held, sound, entry_ok, counts_from, held_ok, lists_ok, has, on_list, may_join, wakes, ending, ends_with, ended_with, end_all, Joined}
use Rattle.memory.proofs.Tools.{both, and_0, and_1}
use Rattle.memory.proofs.Sets.{in_set, set-small}
use Rattle.memory.proofs.Leads.{leads_less, ends_on}
use Rattle.memory.proofs.Stores.{held-from, entry-from}
use Rattle.memory.proofs.Clashes.{end_all-words, end_all-records, end_all-entries, end_all-length, end_all_stays, end_all-ends, place_stays, place-ends}
use Rattle.memory.proofs.Facts.{Apart, record_ok, in_places, owner_task, joins_small, joined_in, joined_small, joined_ok, no_way_back}
use Rattle.memory.proofs.ListsLast.{lists_make}
use Rattle.memory.proofs.Lasts.{Task, task_of, owner_of, owner_make, sound_make}

-- a phase that is as good as another: at no later position, as busy, owning no less, and on lists if the other may be
pub record AsGood (p p' : Phase) : Type 0 where
  pub position : position_of p' ≤ position_of p
  pub idle : is_idle p' ≡ is_idle p
  pub steps : steps p' ≡ steps p
  pub counts : counts_from p' ≤ counts_from p
  pub joins : may_join p ≡ true → may_join p' ≡ true

pub itself_good : (p : Phase) → AsGood p p
itself_good p = record { position = omega arith; idle = refl; steps = refl; counts = omega arith; joins = λ k. k }

pub ending_good : (p : Phase) → AsGood p (ending p)
ending_good Idle = itself_good Idle
ending_good Open = itself_good Open
ending_good (Taking g i) = record { position = omega arith; idle = refl; steps = refl; counts = omega arith; joins = λ k. refl }
ending_good Asleep = record { position = omega arith; idle = refl; steps = refl; counts = omega arith; joins = λ k. refl }
ending_good (Writing i) = itself_good (Writing i)
ending_good (Releasing o i) = itself_good (Releasing o i)

module _ (z : Sizes) (m : Memory) (ok : sound z m ≡ true) (u : ℕ) where
  abbrev ends : ℕ → Bool
  ends = ends_with z m u

  abbrev m' : Memory
  m' = end_all z m ends z.tasks

  -- of every place: that of one who ends, and that of one who does not
  pub woken_places : (P : ℕ → Place → Type 0) → ((v : ℕ) → v < z.tasks → ends v ≡ true → P v (ended_with z ends (place m v)))
      → ((v : ℕ) → (v < z.tasks → ends v ≡ false) → P v (place m v)) → (v : ℕ) → P v (place m' v)
  woken_places P f g v = go (ltb v z.tasks) refl (both (ends v))
    where
      stays : (v < z.tasks → ends v ≡ false) → P v (place m' v)
      stays h = subst⁻¹ (P v) (place_stays z m ends z.tasks v h) (g v h)

      go : (b : Bool) → ltb v z.tasks ≡ b → (ends v ≡ true) ⊎ (ends v ≡ false) → P v (place m' v)
      go true c (inl e) =
          let h = ltb-true v z.tasks c in
          subst⁻¹ (P v) (place-ends z m ends z.tasks v h e (in_places z m ok v h)) (f v h e)
      go true c (inr e) = stays (λ h. e)
      go false c e = stays (λ h. absurd (let k = ltb-false v z.tasks c in omega arith))

  same_count : (v : ℕ) → (place m' v).count ≡ (place m v).count
  unfolding ended_with
  same_count = woken_places (λ v q. q.count ≡ (place m v).count) (λ v h e. refl) (λ v h. refl)

  as_good : (v : ℕ) → AsGood (place m v).phase (place m' v).phase
  unfolding ended_with
  as_good = woken_places (λ v q. AsGood (place m v).phase q.phase) (λ v h e. ending_good (place m v).phase) (λ v h. itself_good (place m v).phase)

  same-entry : (v i : ℕ) → entry z m' v i ≡ entry z m v i
  same-entry = entry-from m m' z (end_all-entries z m ends z.tasks)

  row : (v : ℕ) → v < z.tasks → get_or m'.places v [] ≡ row_of (place m' v)
  row v h =
      ⊎_elim
      (λ e. end_all-ends z m ends z.tasks v h e (in_places z m ok v h) ∙ ap row_of (sym (place-ends z m ends z.tasks v h e (in_places z m ok v h))))
      (λ e. end_all_stays z m ends z.tasks v (λ h. e) ∙ (task_of z m ok v h).row ∙ ap row_of (sym (place_stays z m ends z.tasks v (λ h. e))))
      (both (ends v))

  woken_task : (v : ℕ) → v < z.tasks → Task z m' v
  woken_task v h =
      let T = task_of z m ok v h in
      let c = same_count v in
      let p = as_good v in
      record {
        row = row v h;
        few = subst⁻¹ (λ (k : ℕ). k ≤ limit z) c T.few;
        at_most = omega (arith, c, p.position, T.at_most);
        idle = λ i. c ∙ T.idle (sym p.idle ∙ i);
        entries = record {
          each = λ i k. ap (entry_ok z) (same-entry v i) ∙ T.entries.each i (omega (arith, k, c));
          pairs = λ j i d k. subst⁻¹ (λ (x : Entry). Apart z.records x (entry z m' v i)) (same-entry v j)
              (subst⁻¹ (λ (x : Entry). Apart z.records (entry z m v j) x) (same-entry v i) (T.entries.pairs j i d (omega (arith, k, c))));
        };
      }

  woken_held : (r : ℕ) → r < z.records → held_ok z m' r (held m' r) ≡ true
  woken_held r h = go (held m r) refl
    where
      same : held m' r ≡ held m r
      same = held-from m m' (end_all-records z m ends z.tasks) r

      go : (k : Held) → held m r ≡ k → held_ok z m' r (held m' r) ≡ true
      go (Version v) q = unfold held_ok in (ap (held_ok z m' r) (same ∙ q) ∙ sym (ap (held_ok z m r) q) ∙ record_ok z m ok r h)
      go (Owner v) q =
          let o = owner_of z m ok r v h q in
          let p = as_good v in
          owner_make z m' r v (owner_task z m ok r v h q) (same ∙ q)
          (p.steps ∙ o.0, o.1, omega (arith, o.2, same_count v), omega (arith, p.counts, o.3), ap (λ (x : Entry). x.address % z.records) (same-entry v o.1) ∙ o.4)

  -- Lists ------------------------------------------------------------------------------------------------------------------------------

  -- whoever is on a list still was on it, and the one whose list it is does not end
  left : (v w : ℕ) → Joined m' v w → Joined m v w × (ends w ≡ false)
  unfolding ended_with
  left v w =
      woken_places (λ v q. has q.joins.bits w ≡ true → Joined m v w × (ends w ≡ false))
      (λ v h e j.
      let k = (in_set z.tasks (λ w. has (place m v).joins.bits w && not (ends w)) w j).1 in
      (and_0 (has (place m v).joins.bits w) (not (ends w)) k, not-true (ends w) (and_1 (has (place m v).joins.bits w) (not (ends w)) k)))
      (λ v h j. (j, ⊎_elim (λ e. absurd (true≢false (sym (ends_on m z (joined_small z m ok) u w v e j) ∙ h (joined_in z m ok v w j).0))) (λ e. e) (both (ends w)))) v

  woken_lists : lists_ok z m' ≡ true
  woken_lists =
      lists_make z m' (record {
        small = small;
        fit = λ v w h j.
            let k = left v w j in
            let f = joined_ok z m ok v w k.0 in
            (ap (λ (q : Place). wakes q.phase) (place_stays z m ends z.tasks w (λ h. k.1)) ∙ f.0, (as_good v).joins f.1);
        ahead = λ v h e. no_way_back z m ok v (leads_less (on_list m) (on_list m') (λ a b j. unfold on_list in (left b a j).0) z.tasks v v e);
      })
    where
      small : (v : ℕ) → v < z.tasks → (place m' v).joins.bits < 2 ^ z.tasks
      small = unfold ended_with in
          woken_places (λ v q. v < z.tasks → q.joins.bits < 2 ^ z.tasks) (λ v h e k. set-small z.tasks _) (λ v h k. joins_small z m ok v k)

  pub woken_sound : sound z m' ≡ true
  woken_sound =
      sound_make z m m' ok (record {
        words = ap length (end_all-words z m ends z.tasks);
        records = ap length (end_all-records z m ends z.tasks);
        places = end_all-length z m ends z.tasks;
        entries = ap length (end_all-entries z m ends z.tasks);
      }) woken_task woken_held woken_lists
