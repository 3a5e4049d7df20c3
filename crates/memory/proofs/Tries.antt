-- A try: Start, Reads and Writes, Commit, and steps. With no owner about it commits; on a calm table it commits, or wakes the first
-- sleeper that it meets, with all to whom its list leads.
use Prim.Native.Nat.{ℕ, zero, suc, ◌+◌, ◌*◌, ◌%◌, ◌<◌, ◌≤◌}
use mathlib.Core.Path.{◌≡◌, refl, sym, ap, ◌∙◌, subst, subst⁻¹}
use mathlib.Core.Logic.{◌⊎◌, inl, inr, ◌≢◌, ⊎_elim}
use mathlib.Core.List.{List, ◌∷◌, map}
use mathlib.Core.Bool.{true}
use lib.ListN.{replicate}
use native.Mathlib.Omega.{arith}
use native.Mathlib.Nat.{mod-lt}
use Rattle.memory.specs.{Sizes, Idle, Asleep, Place, Held, Version, Owner, Memory, kind_of, steps, place, entry, held, sound, may_join, has, Joined, Led, itself, EndsWith, CM, SP, call, leaves, numbers, ◌∈◌, phase, then_answers, FromTheStartItCommits, Use, struck, Calm, body, try, address_of, entered, AllZero, LastSays, Through, Wakes, ATryEnds, ours}
use Rattle.memory.proofs.Tools.{same?, everywhere, map_in}
use Rattle.memory.proofs.Leads.{led_cases}
use Rattle.memory.proofs.Stores.{held-from, entry-from}
use Rattle.memory.proofs.Facts.{some_record, owner_task, owns_none, joined_in, on_none, idle_ended}
use Rattle.memory.proofs.Tables.{keeps_place}
use Rattle.memory.proofs.Runs.{leaves_append, says_then, Reaches}
use Rattle.memory.proofs.Takes.{Free}
use Rattle.memory.proofs.Alone.{Over, commits}
use Rattle.memory.proofs.Falls.{ends-from, Fell, falls}
use Rattle.memory.proofs.Begun.{Asked, asked}

-- Who is on lists --------------------------------------------------------------------------------------------------------------------------

module _ (z : Sizes) (m : Memory) (ok : sound z m ≡ true) where
  -- on a calm table all to whom a sleeper's list leads sleep
  pub led_sleeps : Calm z m → (u : ℕ) → phase m u ≡ Asleep → {w : ℕ} → Led m u w → phase m w ≡ Asleep
  led_sleeps calm u slept {w} l = ⊎_elim (λ e. ap (phase m) e ∙ slept) (λ k. sleeps k.0 k.2) (led_cases m l)
    where
      sleeps : (v : ℕ) → Joined m w v → phase m w ≡ Asleep
      sleeps v j = ⊎_elim (λ i. absurd (on_none z m ok w (ap may_join i) v j)) (λ s. s) (calm w (joined_in z m ok w v j).0)

  -- so none of them is a task that is Idle
  pub led_not_idle : Calm z m → (u : ℕ) → phase m u ≡ Asleep → (t : ℕ) → phase m t ≡ Idle → {w : ℕ} → Led m u w → w ≢ t
  led_not_idle calm u slept t idle l s = let k : ◌≡◌ {A = ℕ} 4 0 = ap kind_of (sym (led_sleeps calm u slept l) ∙ ap (phase m) s ∙ idle) in omega (arith, k)

-- One try ----------------------------------------------------------------------------------------------------------------------------------

module _ (z : Sizes) (m : Memory) (t : ℕ) (lt : t < z.tasks) (ok : sound z m ≡ true) (us : List Use) (e : AllZero ours z m (body t us)) where
  abbrev A : ℕ → Type 0
  A a = a ∈ map address_of us

  abbrev m₁ : Memory
  m₁ = leaves ours z m (body t us)

  abbrev c : Memory
  c = (call z m₁ (CM t)).after

  C : Asked z t A m m₁ c
  C = asked z t A lt us (λ y k. map_in address_of k) m ok e

  abbrev n : ℕ
  n = (place c t).count

  abbrev rec : ℕ → ℕ
  rec j = (entry z c t j).address % z.records

  below : (j : ℕ) → rec j < z.records
  below j = mod-lt (entry z c t j).address (some_record z m ok)

  same-held : (r : ℕ) → held c r ≡ held m r
  same-held = held-from m c C.keeps.records

  same_place : (w : ℕ) → w ≢ t → place c w ≡ place m w
  same_place = keeps_place z m c t C.keeps

  -- each of the first records is free, or there is a first one with an owner
  abbrev First : ℕ → Type 0
  First k = Free z t lt c k ⊎ ((i : ℕ) × (i < k) × Free z t lt c i × (u : ℕ) × (held c (rec i) ≡ Owner u))

  first : (k : ℕ) → k ≤ n → First k
  first zero h = inl (λ j d. absurd (omega arith))
  first (suc k) h = go (first k (omega arith)) (held c (rec k)) refl
    where
      go : First k → (x : Held) → held c (rec k) ≡ x → First (suc k)
      go (inr (i, d, f, u, y)) x q = inr (i, omega arith, f, u, y)
      go (inl f) (Version v) q = inl (λ j d. last j d (same? j k))
        where
          last : (j : ℕ) → j < suc k → (j ≡ k) ⊎ (j ≢ k) → held c (rec j) ≡ Version (entry z c t j).old.version
          last j d (inl s) = subst⁻¹ (λ (i : ℕ). held c (rec i) ≡ Version (entry z c t i).old.version) s (q ∙ ap Version ((C.level k h).0 v q))
          last j d (inr s) = f j (omega arith)
      go (inl f) (Owner u) q = inr (k, omega arith, f, u, q)

  commits_so : Free z t lt c n → Reaches z t c (3 * n + 2) 21 (Over z t lt c)
  commits_so f = commits z t lt c C.ok C.taking f

  -- the Commit and the steps
  asked_says : (k a : ℕ) (Q : Memory → Type 0) → Reaches z t c k a Q → numbers ours z m₁ (CM t ∷ replicate (suc k) (SP t)) ≡ then_answers (suc k) a
  unfolding numbers
  asked_says k a Q R = ap (λ (i : ℕ). i ∷ numbers ours z c (replicate (suc k) (SP t))) C.number ∙ ap (λ (l : List ℕ). 0 ∷ l) R.answers

  -- the whole try, by its steps after the Commit
  says : (k j a : ℕ) (Q : Memory → Type 0) → j ≡ suc k → Reaches z t c k a Q → LastSays ours z m (try t us j) a
  says k j a Q s R =
      subst⁻¹ (λ (i : ℕ). LastSays ours z m (try t us i) a) s
      (says_then z m (body t us) (CM t ∷ replicate (suc k) (SP t)) a e (suc k, asked_says k a Q R))

  left : (k j a : ℕ) (Q : Memory → Type 0) → j ≡ suc k → Reaches z t c k a Q → Q (leaves ours z m (try t us j))
  unfolding leaves
  left k j a Q s R =
      subst⁻¹ (λ (i : ℕ). Q (leaves ours z m (try t us i))) s (subst⁻¹ Q (leaves_append z (body t us) (CM t ∷ replicate (suc k) (SP t)) m) R.there)

  through : Free z t lt c n → Through ours z m t us (leaves ours z m (try t us (3 * entered ours z m t us + 3)))
  through f =
      record {
        is_after = refl;
        answers = says (3 * n + 2) _ 21 (Over z t lt c) more (commits_so f);
        own = O.own;
        others = λ w ne. O.others w ne ∙ same_place w ne;
      }
    where
      more : 3 * entered ours z m t us + 3 ≡ suc (3 * n + 2)
      more = omega (arith, C.count)

      O : Over z t lt c (leaves ours z m (try t us (3 * entered ours z m t us + 3)))
      O = left (3 * n + 2) _ 21 (Over z t lt c) more (commits_so f)

  module _ (calm : Calm z m) (idle : phase m t ≡ Idle) (i : ℕ) (h : i < n) (f : Free z t lt c i) (u : ℕ) (q : held c (rec i) ≡ Owner u) where
    abbrev m' : Memory
    m' = leaves ours z m (try t us (suc i + suc (entered ours z m t us)))

    owned : held m (rec i) ≡ Owner u
    owned = sym (same-held (rec i)) ∙ q

    -- on a calm table an owner sleeps
    asleep : phase m u ≡ Asleep
    asleep = ⊎_elim (λ s. absurd (owns_none z m ok u (ap steps s) (rec i) (below i) owned)) (λ s. s) (calm u (owner_task z m ok (rec i) u (below i) owned))

    not_t : {w : ℕ} → Led m u w → w ≢ t
    not_t = led_not_idle z m ok calm u asleep t idle

    more : suc i + suc (entered ours z m t us) ≡ suc (i + suc n)
    more = omega (arith, C.count)

    R : Reaches z t c (i + suc n) 22 (Fell z c t u)
    R = falls z t lt c C.ok C.not_owner C.taking i h f u (not_t itself) q

    F : Fell z c t u m'
    F = left (i + suc n) _ 22 (Fell z c t u) more R

    -- the task itself is on no list, neither before nor when it takes
    joined-before : (w v : ℕ) → Joined c w v → Joined m w v
    joined-before =
        everywhere (λ w. (v : ℕ) → Joined c w v → Joined m w v) t (λ v j. absurd (on_none z c C.ok t (ap may_join C.taking) v j))
        (λ w ne v j. subst (λ (q : Place). has q.joins.bits v ≡ true) (same_place w ne) j)

    joined-after : (w v : ℕ) → Joined m w v → Joined c w v
    joined-after =
        everywhere (λ w. (v : ℕ) → Joined m w v → Joined c w v) t (λ v j. absurd (on_none z m ok t (ap may_join idle) v j))
        (λ w ne v j. subst⁻¹ (λ (q : Place). has q.joins.bits v ≡ true) (same_place w ne) j)

    ends : (w : ℕ) → w ≢ t → EndsWith m u w (place m w) (place m' w)
    ends w ne =
        ends-from c m joined-before joined-after u w (subst (λ (q : Place). EndsWith c u w q (place m' w)) (same_place w ne) (F.others w ne))

    others : (w : ℕ) → (Led m u w → ⊥) → (w ≡ t) ⊎ (w ≢ t) → place m' w ≡ place m w
    others w n (inl s) = ap (place m') s ∙ F.own ∙ sym (idle_ended z m ok t lt idle) ∙ ap (place m) (sym s)
    others w n (inr s) = (ends w s).1 n

    wakes : Wakes ours z m t us u m'
    wakes =
        record {
          slept = asleep;
          owned = ((entry z c t i).address, (C.level i h).1, owned);
          i = i;
          within = omega (arith, C.count);
          is_after = refl;
          answers = says (i + suc n) _ 22 (Fell z c t u) more R;
          woken = λ w l. let E = (ends w (not_t l)).0 l in (E.phase ∙ ap struck (led_sleeps z m ok calm u asleep l), E);
          others = λ w n. others w n (same? w t);
          words = F.words ∙ C.keeps.words;
          records = F.records ∙ C.keeps.records;
          runs = λ w j ne d. entry-from c m' z F.entries w j ∙ C.keeps.runs w j ne d;
        }

pub from_the_start_it_commits : FromTheStartItCommits ours
from_the_start_it_commits z m t lt ok calm us e =
    subst⁻¹ (λ (k : ℕ). numbers ours z (m₁ z m t lt ok us e) (CM t ∷ replicate k (SP t)) ≡ then_answers k 21) more
    (asked_says z m t lt ok us e (3 * k + 2) 21 _ (commits_so z m t lt ok us e (go (first z m t lt ok us e k (omega arith)))))
  where
    k : ℕ
    k = n z m t lt ok us e

    more : 3 * entered ours z m t us + 3 ≡ suc (3 * k + 2)
    more = omega (arith, (C z m t lt ok us e).count)

    go : First z m t lt ok us e k → Free z t lt (c z m t lt ok us e) k
    go (inl f) = f
    go (inr (i, h, f, u, q)) =
        let r = rec z m t lt ok us e i in
        let d = below z m t lt ok us e i in
        let owned : held m r ≡ Owner u = sym (same-held z m t lt ok us e r) ∙ q in
        absurd (owns_none z m ok u (⊎_elim (λ s. ap steps s) (λ s. ap steps s) (calm u (owner_task z m ok r u d owned))) r d owned)

pub a_try_ends : ATryEnds ours
a_try_ends z m t lt ok calm idle us e =
    ⊎_elim (λ f. inl (_, through z m t lt ok us e f)) (λ (i, h, f, u, q). inr (u, _, wakes z m t lt ok us e calm idle i h f u q))
    (first z m t lt ok us e (n z m t lt ok us e) (omega arith))
