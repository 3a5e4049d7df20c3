-- Each claim is needed: what the claims say of one reply. A machine with one kind of reply twisted has to be looked at there only.
use Prim.Native.Nat.{ℕ, ◌<◌}
use mathlib.Core.Path.{◌≡◌}
use mathlib.Core.Logic.{◌≢◌}
use mathlib.Core.Bool.{true}
use lib.Dec.{eqb}
use borrow.Author.Tests.{eqb-true}
use Rattle.memory.specs.{Sizes, Memory, sound, Reply, reply, Call, ST, CM, AB, WT, SP, RD, WR, call, ours, refusal, Given, rows_of, phase, Valued, Narrow, Leaves, Stores, Steps, Claim, Says, Promised, call_answers, opening_answers, look_answers, refusals_keep, refused_openings_keep, calls_are_narrow, requests_leave, entries_stored, steps_leave, clashes_end, sound_lasts, opening_leaves, opening_is_sound}
use Rattle.memory.specs.Wrong.{Twist, leaving, straight, twisted, calling, starting, aborting, stepping, reading}
use Rattle.memory.proofs.Tools.{if_cases}
use Rattle.memory.proofs.Stepping.{Meeting}

-- The claims at one reply ----------------------------------------------------------------------------------------------------------------

-- of what a step leaves; nothing of another call
abbrev OfStep : (Sizes → Memory → ℕ → Memory → Type 0) → Sizes → Memory → Call → Reply → Type 0
OfStep P z m (SP t) r = P z m t r.after
OfStep P z m (ST t) r = Unit {0}
OfStep P z m (CM t) r = Unit {0}
OfStep P z m (AB t) r = Unit {0}
OfStep P z m (WT t) r = Unit {0}
OfStep P z m (RD t a) r = Unit {0}
OfStep P z m (WR t a v) r = Unit {0}

of_step : (P : Sizes → Memory → ℕ → Memory → Type 0) → ((z : Sizes) (m : Memory) (t : ℕ) → P z m t (call z m (SP t)).after)
    → (z : Sizes) (m : Memory) (k : Call) → OfStep P z m k (call z m k)
of_step P h z m (SP t) = h z m t
of_step P h z m (ST t) = tt
of_step P h z m (CM t) = tt
of_step P h z m (AB t) = tt
of_step P h z m (WT t) = tt
of_step P h z m (RD t a) = tt
of_step P h z m (WR t a v) = tt

abbrev StepLeaves : Sizes → Memory → ℕ → Memory → Type 0
StepLeaves z m t m' = sound z m ≡ true → t < z.tasks → Steps z m t m' (phase m t)

abbrev StepMeets : Sizes → Memory → ℕ → Memory → Type 0
StepMeets z m t m' = sound z m ≡ true → t < z.tasks → Meeting z m t m'

-- every claim about calls but one
pub record But (c : Claim) (z : Sizes) (m : Memory) (k : Call) (r : Reply) : Type 0 where
  pub answers : call_answers ≢ c → Given (rows_of z m k r.after) r.number × Valued z m k r
  pub kept : refusals_keep ≢ c → refusal r.number ≡ true → r.after ≡ m
  pub narrow : calls_are_narrow ≢ c → Narrow z m k r.after
  pub leave : requests_leave ≢ c → Leaves z m k r
  pub stored : entries_stored ≢ c → Stores z m k r
  pub step : steps_leave ≢ c → OfStep StepLeaves z m k r
  pub clash : clashes_end ≢ c → OfStep StepMeets z m k r
  pub lasts : sound_lasts ≢ c → sound z m ≡ true → sound z r.after ≡ true

module _ (O : Promised ours) (c : Claim) where
  pub ours_but : (z : Sizes) (m : Memory) (k : Call) → But c z m k (call z m k)
  ours_but z m k =
      record {
        answers = λ _. O call_answers z m k;
        kept = λ _. O refusals_keep z m k;
        narrow = λ _. O calls_are_narrow z m k;
        leave = λ _. O requests_leave z m k;
        stored = λ _. O entries_stored z m k;
        step = λ _. of_step StepLeaves (O steps_leave) z m k;
        clash = λ _. of_step StepMeets (O clashes_end) z m k;
        lasts = λ _ ok. O sound_lasts z m ok k;
      }

  -- at every reply
  calls_but : (f : Sizes → Memory → Call → Reply) → ((z : Sizes) (m : Memory) (k : Call) → But c z m k (f z m k)) → (d : Claim) → d ≢ c → Says d (calling f)
  calls_but f B call_answers ne = λ z m k. (B z m k).answers ne
  calls_but f B refusals_keep ne = λ z m k. (B z m k).kept ne
  calls_but f B calls_are_narrow ne = λ z m k. (B z m k).narrow ne
  calls_but f B requests_leave ne = λ z m k. (B z m k).leave ne
  calls_but f B entries_stored ne = λ z m k. (B z m k).stored ne
  calls_but f B steps_leave ne = λ z m t. (B z m (SP t)).step ne
  calls_but f B clashes_end ne = λ z m t. (B z m (SP t)).clash ne
  calls_but f B sound_lasts ne = λ z m ok k. (B z m k).lasts ne ok
  calls_but f B opening_answers ne = O opening_answers
  calls_but f B look_answers ne = O look_answers
  calls_but f B refused_openings_keep ne = O refused_openings_keep
  calls_but f B opening_leaves ne = O opening_leaves
  calls_but f B opening_is_sound ne = O opening_is_sound

  -- One kind of call twisted -----------------------------------------------------------------------------------------------------------------

  abbrev At : (ℕ → Call) → Twist → Type 0
  At k f = (z : Sizes) (m : Memory) (t : ℕ) → But c z m (k t) (f z m t (call z m (k t)))

  as_ours : (k : ℕ → Call) → At k straight
  as_ours k z m t = ours_but z m (k t)

  each : (st ab sp : Twist) (rd : ℕ → Twist) → At ST st → At AB ab → At SP sp → ((a : ℕ) → At (λ t. RD t a) (rd a))
      → (d : Claim) → d ≢ c → Says d (calling (twisted st straight ab straight sp rd (λ a v. straight)))
  each st ab sp rd h₁ h₂ h₃ h₄ = calls_but _ go
    where
      go : (z : Sizes) (m : Memory) (k : Call) → But c z m k (twisted st straight ab straight sp rd (λ a v. straight) z m k)
      go z m (ST t) = h₁ z m t
      go z m (CM t) = ours_but z m (CM t)
      go z m (AB t) = h₂ z m t
      go z m (WT t) = ours_but z m (WT t)
      go z m (SP t) = h₃ z m t
      go z m (RD t a) = h₄ a z m t
      go z m (WR t a v) = ours_but z m (WR t a v)

  pub for_start : (f : Twist) → At ST f → (d : Claim) → d ≢ c → Says d (starting f)
  for_start f h = each f straight straight (λ a. straight) h (as_ours AB) (as_ours SP) (λ a. as_ours (λ t. RD t a))

  -- something else is left where the number is n
  module _ (n : ℕ) (f : Sizes → Memory → ℕ → Memory → Memory) where
    abbrev Leaving : Twist
    Leaving z m t = leaving n (f z m t)

    abbrev Changed : (ℕ → Call) → Type 0
    Changed k = (z : Sizes) (m : Memory) (t : ℕ) → let r = call z m (k t) in r.number ≡ n → But c z m (k t) (reply r.number r.value (f z m t r.after))

    changed : (k : ℕ → Call) → Changed k → At k Leaving
    changed k B z m t =
        let r = call z m (k t) in
        if_cases (λ (x : Memory). But c z m (k t) (reply r.number r.value x)) (eqb r.number n) _ _
        (λ e. B z m t (eqb-true _ _ e)) (λ e. ours_but z m (k t))

    pub starts : Changed ST → (d : Claim) → d ≢ c → Says d (starting Leaving)
    starts B = for_start Leaving (changed ST B)

    pub aborts : Changed AB → (d : Claim) → d ≢ c → Says d (aborting Leaving)
    aborts B = each straight Leaving straight (λ a. straight) (as_ours ST) (changed AB B) (as_ours SP) (λ a. as_ours (λ t. RD t a))

    pub steps : Changed SP → (d : Claim) → d ≢ c → Says d (stepping Leaving)
    steps B = each straight straight Leaving (λ a. straight) (as_ours ST) (as_ours AB) (changed SP B) (λ a. as_ours (λ t. RD t a))

    pub reads : ((a : ℕ) → Changed (λ t. RD t a)) → (d : Claim) → d ≢ c → Says d (reading (λ a. Leaving))
    reads B = each straight straight straight (λ a. Leaving) (as_ours ST) (as_ours AB) (as_ours SP) (λ a. changed (λ t. RD t a) (B a))
