-- A sleeper is woken, with all to whom its list leads (§7.17): the invariant lasts.
use Prim.Native.Nat.{ℕ}
use mathlib.Core.Path.{◌≡◌, refl, ap, ◌∙◌, subst, subst⁻¹}
use mathlib.Core.Logic.{◌⊎◌, inl, inr, ⊎_elim}
use mathlib.Core.List.{List}
use mathlib.Core.Bool.{Bool, true}
use lib.ListN.{drop}
use Rattle.memory.specs.{Phase, Idle, Open, Taking, Asleep, Writing, Releasing, Held, Entry, committed, wakes, ending, shows, ◌∈◌, Op}
use Rattle.memory.proofs.Invariant.{Task, State, Has, Owning, InPhase, TaskInv, Pending, Inv}

-- a task that ends has the entries that it had, and is on no list of those who end
pub record Ended (ends : ℕ → Bool) (v : ℕ) (T T' : Task) : Type 0 where
  pub hit : ends v ≡ true
  pub phase : T'.phase ≡ ending T.phase
  pub ents : T'.ents ≡ T.ents
  pub less : (w : ℕ) → T'.joins w ≡ true → (T.joins w ≡ true) × (ends w ≡ true → ⊥)

-- each task ends, or is as it was
abbrev pub EndsOrStays : (ℕ → Bool) → State → (ℕ → Task) → ℕ → Type 0
EndsOrStays ends S task' v = ((ends v ≡ true → ⊥) × (task' v ≡ S.task v)) ⊎ Ended ends v (S.task v) (task' v)

-- whoever ends counts as committed where it did
pub ending-committed : (p : Phase) → committed (ending p) ≡ committed p
ending-committed Idle = refl
ending-committed Open = refl
ending-committed (Taking g i) = refl
ending-committed Asleep = refl
ending-committed (Writing i) = refl
ending-committed (Releasing o i) = refl

module _ (n : ℕ) where
  ending-has : (r : ℕ) (es : List Entry) (p : Phase) → Has n r es p → Has n r es (ending p)
  ending-has r es Idle x = x
  ending-has r es Open x = x
  ending-has r es (Taking g i) x = x
  ending-has r es Asleep x = x
  ending-has r es (Writing i) x = x
  ending-has r es (Releasing o i) x = x

  ending_in : (B W : ℕ → ℕ) (held : ℕ → Held) (t : ℕ) (l : List Op) (j j' : ℕ → Bool) (es : List Entry) (p : Phase)
      → InPhase n B W held t l j es p → InPhase n B W held t l j' es (ending p)
  ending_in B W held t l j j' es Idle x = tt
  ending_in B W held t l j j' es Open x = x
  ending_in B W held t l j j' es (Taking g i) x = x.0
  ending_in B W held t l j j' es Asleep x = x.0
  ending_in B W held t l j j' es (Writing i) x = x
  ending_in B W held t l j j' es (Releasing o i) x = x

  module _ (B W : ℕ → ℕ) (S : State) (I : Inv n B W S) (ends : ℕ → Bool) (task' : ℕ → Task)
      (closed : (v w : ℕ) → ends w ≡ true → (S.task v).joins w ≡ true → ends v ≡ true)
      (logs : (v : ℕ) → (task' v).log ≡ (S.task v).log)
      (each : (v : ℕ) → EndsOrStays ends S task' v) where
    own : (r v : ℕ) → Owning n (W r) r (S.task v) → EndsOrStays ends S task' v → Owning n (W r) r (task' v)
    own r v o (inl x) = subst⁻¹ (Owning n (W r) r) x.1 o
    own r v o (inr x) =
        record {
          has = subst⁻¹ (Has n r (task' v).ents) x.phase
              (subst⁻¹ (λ (k : List Entry). Has n r k (ending (S.task v).phase)) x.ents (ending-has r _ (S.task v).phase o.has));
          versions = λ e m q.
              ap (λ (b : Bool). (shows b e).version) (ap committed x.phase ∙ ending-committed (S.task v).phase)
              ∙ o.versions e (subst (λ (k : List Entry). e ∈ k) x.ents m) q;
        }

    mine : (v : ℕ) → EndsOrStays ends S task' v → TaskInv n B W S.held v (task' v)
    mine v (inl x) = subst⁻¹ (TaskInv n B W S.held v) x.1 (I.tasks v)
    mine v (inr x) =
        subst⁻¹ (InPhase n B W S.held v (task' v).log (task' v).joins (task' v).ents) x.phase
        (subst⁻¹ (λ (k : List Entry). InPhase n B W S.held v (task' v).log (task' v).joins k (ending (S.task v).phase)) x.ents
        (subst⁻¹ (λ (k : List Op). InPhase n B W S.held v k (task' v).joins (S.task v).ents (ending (S.task v).phase)) (logs v)
        (ending_in B W S.held v _ (S.task v).joins (task' v).joins _ (S.task v).phase (I.tasks v))))

    pending : (a v : ℕ) → Pending n (S.task v) a → EndsOrStays ends S task' v → Pending n (task' v) a
    pending a v k (inl x) = subst⁻¹ (λ (T : Task). Pending n T a) x.1 k
    pending a v k (inr x) =
        record {
          at = k.at;
          phase = x.phase ∙ ap ending k.phase;
          entry = k.entry;
          among = subst⁻¹ (λ (l : List Entry). k.entry ∈ drop k.at l) x.ents k.among;
          address = k.address;
        }

    -- a list that is left is that of a sleeper who does not end
    left : (v w : ℕ) → (task' v).joins w ≡ true → EndsOrStays ends S task' v → ((S.task v).joins w ≡ true) × (ends w ≡ true → ⊥)
    left v w j (inl x) = let k = subst (λ (T : Task). T.joins w ≡ true) x.1 j in (k, λ h. x.0 (closed v w h k))
    left v w j (inr x) = x.less w j

    sleeps : (w : ℕ) → wakes (S.task w).phase ≡ true → (ends w ≡ true → ⊥) → EndsOrStays ends S task' w → wakes (task' w).phase ≡ true
    sleeps w a stays (inl x) = ap (λ (T : Task). wakes T.phase) x.1 ∙ a
    sleeps w a stays (inr x) = absurd (stays x.hit)

    pub wake_keeps : Inv n B W (record { word = S.word; held = S.held; task = task' })
    wake_keeps =
        record {
          pos = I.pos;
          ver = I.ver;
          own = λ r v o. own r v (I.own r v o) (each v);
          words = λ a. ⊎_elim (λ e. inl e) (λ k. inr (k.0, pending a k.0 k.1 (each k.0))) (I.words a);
          tasks = λ v. mine v (each v);
          listed = λ v w j. let k = left v w j (each v) in sleeps w (I.listed v w k.0) k.1 (each w);
        }
