-- The claims that a wrong step breaks alone.
use Rattle.std.specs.Prelude.{if◌then◌else◌}
use Prim.Native.Nat.{ℕ, ◌%◌, ◌<◌}
use mathlib.Core.Path.{◌≡◌, refl, sym, ap, ◌∙◌, subst⁻¹}
use mathlib.Core.Logic.{inr, ◌≢◌, ⊎_elim}
use mathlib.Core.Bool.{Bool, true, false≢true}
use lib.Dec.{eqb}
use lib.ListN.{drop}
use native.Mathlib.Omega.{arith}
use borrow.Author.Tests.{ltb-true, eqb-true, eqb-false, not-true}
use Rattle.memory.specs.{place, Sizes, Goal, Failed, Taking, Asleep, Writing, Releasing, Held, Version, Owner, Place, Memory, kind_of, position_of, is, held, entry, move, sound, Reply, reply, wakes, SP, call, ours, Given, refusal, rows_of, phase, Meets, Steps, Promised, Claim, Needed, call_answers, steps_leave, clashes_end}
use Rattle.memory.specs.Thirteen.{another, comes_to_another, writing_stays, owner_stays}
use Rattle.memory.proofs.Tools.{and_0, and_1, if_cases}
use Rattle.memory.proofs.Cases.{no_refusal}
use Rattle.memory.proofs.AlikeReplies.{allowed, others_give}
use Rattle.memory.proofs.Went.{moved_to}
use Rattle.memory.proofs.Codes.{is_taking}
use Rattle.memory.proofs.Narrow.{still, moves_on}
use Rattle.memory.proofs.SoundSteps.{phase-sound}
use Rattle.memory.proofs.NeededBroken.{writing_stays_lem, owner_stays_lem}
use Rattle.memory.proofs.Stepping.{owned_by, alone, elsewhere}
use Rattle.memory.proofs.NeededTools.{But, ours_but, steps}

-- the number 0 says of the memory that is left only that the task does not sleep
awake : (z : Sizes) (m : Memory) (t : ℕ) (x x' : Memory) {n : ℕ} → n ≡ 0 → phase x' t ≢ Asleep → Given (rows_of z m (SP t) x) n → Given (rows_of z m (SP t) x') n
awake z m t x x' {n} e ne =
    others_give z m t _ n (drop 3 (rows_of z m (SP t) x)) (drop 3 (rows_of z m (SP t) x'))
    (λ _. ⊎_elim (λ g. absurd (omega (arith, e, g.1))) (λ g. inr (ne, g.1)))

-- the test for which the owner stays
comes : (z : Sizes) (m : Memory) (t : ℕ) → comes_to_another z m t ≡ true → (u : ℕ) × (g : Goal) × (i : ℕ) × Meets z m t u g i
comes z m t c =
    let (g, i, q) = is_taking (phase m t) (search (and_0, and_1)) in
    let (u, o, ne) = owned (held m ((entry z m t (position_of (phase m t))).address % z.records)) (search (and_0, and_1)) in
    (u, g, position_of (phase m t), record { taking = q ∙ ap (Taking g) (sym (ap position_of q)); within = ltb-true _ _ (search (and_0, and_1)); owned = o; other = ne })
  where
    owned : (k : Held) → another t k ≡ true → (u : ℕ) × (k ≡ Owner u) × (u ≢ t)
    owned (Version v) a = absurd (false≢true a)
    owned (Owner u) a = (u, refl, eqb-false u t (not-true _ a))

fallen : (z : Sizes) (m : Memory) (t : ℕ) → sound z m ≡ true → t < z.tasks → phase (move m t (Releasing Failed 0)) t ≢ Asleep
fallen z m t ok lt q = omega (arith, ap (λ (x : Place). kind_of x.phase) (moved_to z m t ok lt m (Releasing Failed 0) refl), ap kind_of q)

module _ (O : Promised ours) where
  module _ (c : Claim) (z : Sizes) (m : Memory) (t : ℕ) where
    abbrev r : Reply
    r = call z m (SP t)

    abbrev Leaving : Memory → Type 0
    Leaving x = But c z m (SP t) (reply r.number r.value x)

    -- what is left is ours, but for where a test holds
    where_tested : (b : Bool) (x : Memory) → (b ≡ true → Leaving x) → Leaving (if b then x else r.after)
    where_tested b x h = if_cases Leaving b x r.after h (λ _. ours_but O c z m (SP t))

    -- the answers are still right, if the task does not sleep
    still_answers : r.number ≡ 0 → (x : Memory) → phase x t ≢ Asleep → Given (rows_of z m (SP t) x) r.number × (r.value ≡ 0)
    still_answers e x ne = (awake z m t r.after x e ne (O call_answers z m (SP t)).0, (O call_answers z m (SP t)).1)

  -- in Writing nothing changes
  pub steps_leave_needed : Needed steps_leave
  steps_leave_needed =
      record {
        wrong = writing_stays;
        breaks = writing_stays_lem;
        meets = steps O steps_leave 0 (λ z m t x. if is (Writing 0) (place m t).phase then m else x) (λ z m t e. where_tested steps_leave z m t (is (Writing 0) (phase m t)) m (λ w.
            stays z m t e (eqb-true _ _ (and_0 (eqb (kind_of (phase m t)) 5) _ w))));
      }
    where
      stays : (z : Sizes) (m : Memory) (t : ℕ) → (call z m (SP t)).number ≡ 0 → kind_of (phase m t) ≡ 5 → Leaving steps_leave z m t m
      stays z m t e w =
          record {
            answers = λ _. still_answers steps_leave z m t e m (λ q. absurd (omega (arith, w, ap kind_of q)));
            kept = λ _ _. refl;
            narrow = λ _. still z m t;
            leave = λ _. tt;
            stored = λ _. tt;
            step = λ ne. absurd (ne refl);
            clash = λ _ ok lt. alone z m t (elsewhere z m t (phase m t) refl (λ q. omega (arith, w, q))) (λ v ne. refl);
            lasts = λ _ ok. ok;
          }

  -- in a clash the owner stays
  pub clashes_end_needed : Needed clashes_end
  clashes_end_needed =
      record {
        wrong = owner_stays;
        breaks = owner_stays_lem;
        meets = steps O clashes_end 0 (λ z m t x. if comes_to_another z m t then move m t (Releasing Failed 0) else x) (λ z m t e. where_tested clashes_end z m t (comes_to_another z m t) _ (λ c. met z m t e (comes z m t c)));
      }
    where
      met : (z : Sizes) (m : Memory) (t : ℕ) → (call z m (SP t)).number ≡ 0 → (u : ℕ) × (g : Goal) × (i : ℕ) × Meets z m t u g i → Leaving clashes_end z m t (move m t (Releasing Failed 0))
      met z m t e (u, g, i, M) =
          let (ok, lt, _) = (allowed z m t _ _ (drop 3 (rows_of z m (SP t) (call z m (SP t)).after)) (ap refusal e) (O call_answers z m (SP t)).0).0 in
          record {
            answers = λ _. still_answers clashes_end z m t e _ (fallen z m t ok lt);
            kept = λ _ b. no_refusal 0 refl _ b e;
            narrow = λ _. moves_on z m t (Releasing Failed 0);
            leave = λ _. tt;
            stored = λ _. tt;
            step = λ _ ok lt. subst⁻¹ (Steps z m t (move m t (Releasing Failed 0))) M.taking (owned_by z m t ok lt g i u M.within M.owned M.other);
            clash = λ ne. absurd (ne refl);
            lasts = λ _ ok. phase-sound z m ok t lt (Releasing Failed 0) refl (omega arith) (omega arith) (ap wakes M.taking, λ _. refl);
          }
