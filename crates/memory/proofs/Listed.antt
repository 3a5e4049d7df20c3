-- Every transaction that commits is in the list, from its deciding step on, and is put there once.
use Rattle.std.specs.Prelude.{if◌then◌else◌}
use Prim.Native.Nat.{ℕ, suc, ◌<◌}
use mathlib.Core.Path.{◌≡◌, refl, sym, ap, ◌∙◌, subst, subst⁻¹}
use mathlib.Core.Logic.{◌⊎◌, inl, inr, ◌≢◌}
use mathlib.Core.List.Memᴰ
use mathlib.Core.List.{List, [], ◌∷◌}
use mathlib.Core.Bool.{Bool, true, false, false≢true}
use lib.Dec.{eqb}
use native.Mathlib.Omega.{arith}
use Rattle.memory.specs.{Sizes, Commit, Sleep, Committed, Failed, Woken, Phase, Open, Taking, Asleep, Releasing, Place, Entry, Memory, is_idle, is_open, steps, wakes, kind_of, which_of, position_of, committed, place, bare, ended, set_place, move, top_version, sound, joined, Reply, reply, refused, opened, open_board, start, abort, commit, wait, fresh, known, added, written, rewrite, read, store, write, Call, ST, CM, AB, WT, SP, RD, WR, call, asker, ◌∈◌, Op, Notes, nothing, logged, decides, stepped, noted, Event, request, lookup, opening, listed, Scene, scene, begun, next, ran, reached, refusal, Clashed, phase, Opened, CommittedIsListed}
use Rattle.memory.proofs.Tools.{same?, if_cases, upd_other}
use Rattle.memory.proofs.Codes.{phase_of_lem}
use Rattle.memory.proofs.Cases.{no_refusal, opening_cases, asked_cases, addressed_cases}
use Rattle.memory.proofs.Stores.{place_same, rewrite_places, place-from}
use Rattle.memory.proofs.Facts.{in_places}
use Rattle.memory.proofs.Fresh.{added-place}
use Rattle.memory.proofs.Narrow.{others_place}
use Rattle.memory.proofs.Wake.{ending-committed}
use Rattle.memory.proofs.Good.{never_self, refused_notes}
use Rattle.memory.proofs.Serial.{Fine, always}
use Rattle.memory.proofs.Went.{Does, takes, has, late, meets, differs, chooses, writes, wrote_all, gives, passes, Went, moves, joins, rests, ends, step_goes, moved_to, lands, step_cases}
use Rattle.memory.proofs.Effects.{opened_so, opening_leaves}

-- each task that counts as committed has its log in the list
abbrev In : Memory → Notes → Type 0
In m G = (t : ℕ) → committed (phase m t) ≡ true → G.logs t ∈ G.past

-- What a step adds to the list: at the deciding step of a commit its log; otherwise nothing, and then it does not become committed.
module _ (z : Sizes) (m : Memory) (t : ℕ) where
  abbrev Adds : Phase → Phase → Type 0
  Adds p q =
      ((p ≡ Taking Commit (place m t).count) × (decides p q ≡ true))
      ⊎ ((p ≢ Taking Commit (place m t).count) × (decides p q ≡ false) × (committed q ≡ true → committed p ≡ true))

  adds : {p p' : Phase} {m₁ : Memory} → Does z m t p m₁ p' → Adds p p'
  adds (takes g i h e) = inr (λ q. omega (arith, h, ap position_of q), refl, λ c. absurd (false≢true c))
  adds (has g i h e) = inr (λ q. omega (arith, h, ap position_of q), refl, λ c. absurd (false≢true c))
  adds (late g i h v e x) = inr (λ q. omega (arith, h, ap position_of q), refl, λ c. absurd (false≢true c))
  adds (meets g i h u e x j s) = inr (λ q. omega (arith, h, ap position_of q), refl, λ c. absurd (false≢true c))
  adds (differs i h u e x w v) = inr (λ q. omega (arith, ap which_of q), refl, λ c. absurd (false≢true c))
  adds (chooses Commit) = inl (refl, refl)
  adds (chooses Sleep) = inr (λ q. omega (arith, ap which_of q), refl, λ c. absurd (false≢true c))
  adds (writes i h) = inr (λ q. omega (arith, ap kind_of q), refl, λ c. refl)
  adds wrote_all = inr (λ q. omega (arith, ap kind_of q), refl, λ c. refl)
  adds (gives o i h e) = inr (λ q. omega (arith, ap kind_of q), refl, λ c. c)
  adds (passes o i h e) = inr (λ q. omega (arith, ap kind_of q), refl, λ c. c)

  went_adds : sound z m ≡ true → t < z.tasks → {p : Phase} {r : Reply} → phase m t ≡ p → Went z m t p r → Adds p (phase r.after t)
  went_adds ok lt q (moves {p = p} d) = subst⁻¹ (λ (x : Place). Adds p x.phase) (lands z m t ok lt d) (adds d)
  went_adds ok lt q (joins i h u e x w v) =
      subst⁻¹ (λ (x : Place). Adds (Taking Sleep i) x.phase) (place_same m t (joined z u (place m t) (Taking Sleep (suc i))) (in_places z m ok t lt))
      (unfold joined in inr (λ q. omega (arith, ap which_of q), refl, λ c. absurd (false≢true c)))
  went_adds ok lt q rests = subst⁻¹ (Adds Asleep) q (inr (λ q. omega (arith, ap kind_of q), refl, λ c. c))
  went_adds ok lt q (ends o) =
      subst⁻¹ (λ (x : Place). Adds (Releasing o (place m t).count) x.phase) (place_same m t ended (in_places z m ok t lt))
      (inr (λ q. omega (arith, ap kind_of q), refl, λ c. absurd (false≢true c)))

  -- 21 is answered at the end of releasing as committed
  ends_committed_lem : {p : Phase} {r : Reply} → Went z m t p r → r.number ≡ 21 → committed p ≡ true
  ends_committed_lem (moves {p = p} {p' = p'} d) =
      if_cases (λ (k : ℕ). k ≡ 21 → committed p ≡ true) (wakes p') _ _ (λ c e. absurd (omega (arith, e))) (λ c e. absurd (omega (arith, e)))
  ends_committed_lem (joins i h u e x w v) = λ e. absurd (omega (arith, e))
  ends_committed_lem rests = λ e. absurd (omega (arith, e))
  ends_committed_lem (ends Committed) = λ e. refl
  ends_committed_lem (ends Failed) = λ e. absurd (omega (arith, e))
  ends_committed_lem (ends Woken) = λ e. absurd (omega (arith, e))

module _ (G : Notes) where
  -- with one more listed
  abbrev adding : ℕ → Notes
  adding t = record { logs = G.logs; past = G.logs t ∷ G.past }

  pub same_past : (b : Bool) (t : ℕ) (l : List Op) → (if b then logged t l G else G).past ≡ G.past
  same_past true t l = refl
  same_past false t l = refl

  other_log : (b : Bool) (t : ℕ) (l : List Op) (u : ℕ) → u ≢ t → (if b then logged t l G else G).logs u ≡ G.logs u
  other_log true t l u ne = upd_other G.logs t l u ne
  other_log false t l u ne = refl

  step_logs : (t : ℕ) (p q : Phase) → (stepped t p q G).logs ≡ G.logs
  step_logs t p q = if_cases (λ (H : Notes). H.logs ≡ G.logs) (decides p q) _ _ (λ d. refl) (λ d. refl)

  step_past : (t : ℕ) (p q : Phase) {l : List Op} → l ∈ G.past → l ∈ (stepped t p q G).past
  step_past t p q {l} k = if_cases (λ (H : Notes). l ∈ H.past) (decides p q) _ _ (λ d. Memᴰ.tail k) (λ d. k)

  module _ (z : Sizes) (m : Memory) where
    -- another task's log, and what was listed
    others_log : (c : Call) (r : Reply) (u : ℕ) → u ≢ asker c → (noted z m r c G).logs u ≡ G.logs u
    others_log (ST t) r u ne = other_log (eqb r.number 0) t [] u ne
    others_log (CM t) r u ne = refl
    others_log (AB t) r u ne = refl
    others_log (WT t) r u ne = refl
    others_log (SP t) r u ne = ap (λ (l : ℕ → List Op). l u) (step_logs t (phase m t) (phase r.after t))
    others_log (RD t a) r u ne = other_log (eqb r.number 0) t _ u ne
    others_log (WR t a v) r u ne = other_log (eqb r.number 0) t _ u ne

    listed_on : (c : Call) (r : Reply) {l : List Op} → l ∈ G.past → l ∈ (noted z m r c G).past
    listed_on (ST t) r {l} k = subst⁻¹ (λ (h : List (List Op)). l ∈ h) (same_past (eqb r.number 0) t []) k
    listed_on (CM t) r k = k
    listed_on (AB t) r k = k
    listed_on (WT t) r k = k
    listed_on (SP t) r k = step_past t (phase m t) (phase r.after t) k
    listed_on (RD t a) r {l} k = subst⁻¹ (λ (h : List (List Op)). l ∈ h) (same_past (eqb r.number 0) t _) k
    listed_on (WR t a v) r {l} k = subst⁻¹ (λ (h : List (List Op)). l ∈ h) (same_past (eqb r.number 0) t _) k

    -- nobody else makes a task committed
    others_phase : (c : Call) (u : ℕ) → u ≢ asker c → committed (phase (call z m c).after u) ≡ true → committed (phase m u) ≡ true
    others_phase c u ne h = go (others_place z m c u ne)
      where
        go : (place (call z m c).after u ≡ place m u) ⊎ Clashed (place m u) (place (call z m c).after u) → committed (phase m u) ≡ true
        go (inl e) = sym (ap committed (phase_of_lem e)) ∙ h
        go (inr k) = sym (ap committed k.phase ∙ ending-committed (phase m u)) ∙ h

    -- the task's own call
    module _ (I : In m G) (t : ℕ) where
      abbrev Mine : Call → Reply → Type 0
      Mine c r = committed (phase r.after t) ≡ true → (noted z m r c G).logs t ∈ (noted z m r c G).past

      as_was : (c : Call) (k : ℕ) → refusal k ≡ true → Mine c (refused k m)
      as_was c k d h = subst⁻¹ (λ (H : Notes). H.logs t ∈ H.past) (refused_notes z m G c k d) (I t h)

      uncommitted : (c : Call) (r : Reply) (q : Place) → place r.after t ≡ q → committed q.phase ≡ false → Mine c r
      uncommitted c r q e n h = absurd (false≢true (sym n ∙ sym (ap (λ (x : Place). committed x.phase) e) ∙ h))

      step_in : (r : Reply) → Adds z m t (phase m t) (phase r.after t) → Mine (SP t) r
      step_in r (inl (x, d)) h = subst⁻¹ (λ (b : Bool). (if b then adding t else G).logs t ∈ (if b then adding t else G).past) d (Memᴰ.head refl)
      step_in r (inr (x, d, f)) h = subst⁻¹ (λ (b : Bool). (if b then adding t else G).logs t ∈ (if b then adding t else G).past) d (I t (f h))

      stored : (c : Call) (with_it : Memory) (a v n : ℕ) (e : Entry) → (place with_it t).phase ≡ Open → Mine c (store z m with_it t a v n e)
      unfolding store
      stored c with_it a v n e op =
          let f = written z.records a v in
          if_cases (Mine c) (eqb e.old.version top_version) _ _ (λ d. as_was c 8 refl) (λ d.
          uncommitted c (reply 0 0 (rewrite z with_it t f n)) (place with_it t) (place-from with_it _ (rewrite_places z with_it t f n) t) (ap committed op))

    mine : (I : In m G) (c : Call) → Mine I (asker c) c (call z m c)
    unfolding call start abort commit wait read write
    mine I (ST t) = asked_cases z m t is_idle _ (Mine I t (ST t)) (as_was I t (ST t)) (λ ok lt c.
        uncommitted I t (ST t) (reply 0 0 (set_place m t (bare 0 Open))) (bare 0 Open) (place_same m t _ (in_places z m ok t lt)) refl)
    mine I (CM t) = asked_cases z m t is_open _ (Mine I t (CM t)) (as_was I t (CM t)) (λ ok lt c.
        uncommitted I t (CM t) (reply 0 0 (move m t (Taking Commit 0))) _ (moved_to z m t ok lt m (Taking Commit 0) refl) refl)
    mine I (AB t) = asked_cases z m t is_open _ (Mine I t (AB t)) (as_was I t (AB t)) (λ ok lt c.
        uncommitted I t (AB t) (reply 0 0 (set_place m t ended)) ended (place_same m t _ (in_places z m ok t lt)) refl)
    mine I (WT t) = asked_cases z m t is_open _ (Mine I t (WT t)) (as_was I t (WT t)) (λ ok lt c.
        if_cases (Mine I t (WT t)) (eqb (place m t).count 0) _ _ (λ d. as_was I t (WT t) 7 refl) (λ d.
        uncommitted I t (WT t) (reply 0 0 (move m t (Taking Sleep 0))) _ (moved_to z m t ok lt m (Taking Sleep 0) refl) refl))
    mine I (SP t) = step_cases z m t (Mine I t (SP t)) (as_was I t (SP t)) (λ ok lt r w. step_in I t r (went_adds z m t ok lt refl w))
    mine I (RD t a) =
        addressed_cases z m t a _ _ (Mine I t (RD t a)) (as_was I t (RD t a))
        (λ ok lt op. uncommitted I t (RD t a) (reply 9 0 (set_place m t ended)) ended (place_same m t _ (in_places z m ok t lt)) refl)
        (λ ok lt op w k. uncommitted I t (RD t a) (reply 0 (known z m t a).new.value m) (place m t) refl (ap committed op))
        (λ ok lt op w k room o. uncommitted I t (RD t a) (reply 0 (fresh z m t a).new.value (added z m t a)) _ (added-place z m ok t lt a) (ap committed op))
    mine I (WR t a v) =
        addressed_cases z m t a _ _ (Mine I t (WR t a v)) (as_was I t (WR t a v))
        (λ ok lt op. uncommitted I t (WR t a v) (reply 9 0 (set_place m t ended)) ended (place_same m t _ (in_places z m ok t lt)) refl)
        (λ ok lt op w k. stored I t (WR t a v) m a v _ (known z m t a) op)
        (λ ok lt op w k room o. stored I t (WR t a v) (added z m t a) a v _ (fresh z m t a) (phase_of_lem (added-place z m ok t lt a) ∙ op))

    call_in : In m G → (c : Call) → In (call z m c).after (noted z m (call z m c) c G)
    call_in I c u h = go (same? u (asker c))
      where
        H : Notes
        H = noted z m (call z m c) c G

        go : (u ≡ asker c) ⊎ (u ≢ asker c) → H.logs u ∈ H.past
        go (inl e) = subst⁻¹ (λ (t : ℕ). H.logs t ∈ H.past) e (mine I c (subst (λ (t : ℕ). committed (phase (call z m c).after t) ≡ true) e h))
        go (inr ne) = subst⁻¹ (λ (l : List Op). l ∈ H.past) (others_log c (call z m c) u ne) (listed_on c (call z m c) (I u (others_phase c u ne h)))

-- Every scene ----------------------------------------------------------------------------------------------------------------------------

opened_in : (z : Sizes) (v : ℕ) (m : Memory) → Opened z v m → In m nothing
opened_in z v m O t h = absurd (false≢true (sym (ap (λ (q : Place). committed q.phase) (O.idle t)) ∙ h))

next_in : (s : Scene) → In s.memory s.notes → (e : Event) → In (next s e).memory (next s e).notes
next_in s I (request c) = call_in s.notes s.sizes s.memory I c
next_in s I (lookup a) = I
next_in s I (opening z v) =
    opening_cases z v s.memory (λ r. In (begun s z v r).memory (begun s z v r).notes) I I (λ c. opened_in z v (opened z v) (opened_so z v))

ran_in : (s : Scene) → In s.memory s.notes → (es : List Event) → In (ran s es).memory (ran s es).notes
ran_in s I [] = I
ran_in s I (e ∷ es) = ran_in (next s e) (next_in s I e) es

-- What the list gains ----------------------------------------------------------------------------------------------------------------------

module _ (z : Sizes) (m : Memory) (G : Notes) where
  abbrev n : ℕ → ℕ
  n t = (place m t).count

  answers_21 : (t : ℕ) → (call z m (SP t)).number ≡ 21 → committed (phase m t) ≡ true
  answers_21 t =
      step_cases z m t (λ r. r.number ≡ 21 → committed (phase m t) ≡ true) (no_refusal 21 refl) (λ ok lt r w. ends_committed_lem z m t w)

  deciding : sound z m ≡ true → (t : ℕ) → t < z.tasks → phase m t ≡ Taking Commit (n t) → (noted z m (call z m (SP t)) (SP t) G).past ≡ G.logs t ∷ G.past
  deciding ok t lt q = go (went_adds z m t ok lt refl (step_goes z m t ok lt (ap steps q)))
    where
      go : Adds z m t (phase m t) (phase (call z m (SP t)).after t) → (noted z m (call z m (SP t)) (SP t) G).past ≡ G.logs t ∷ G.past
      go (inl (x, d)) = ap (λ (b : Bool). (if b then adding G t else G).past) d
      go (inr (ne, d, f)) = absurd (ne q)

  -- a step that is not the deciding one of a commit
  step_unlisted : (t : ℕ) → phase m t ≢ Taking Commit (n t) → (noted z m (call z m (SP t)) (SP t) G).past ≡ G.past
  step_unlisted t ne =
      step_cases z m t (λ r. (noted z m r (SP t) G).past ≡ G.past) (λ k d. ap (λ (H : Notes). H.past) (never_self G t (phase m t))) (λ ok lt r w.
      go r (went_adds z m t ok lt refl w))
    where
      go : (r : Reply) → Adds z m t (phase m t) (phase r.after t) → (noted z m r (SP t) G).past ≡ G.past
      go r (inl (x, d)) = absurd (ne x)
      go r (inr (x, d, f)) = ap (λ (b : Bool). (if b then adding G t else G).past) d

  unlisting : (c : Call) → ((t : ℕ) → c ≡ SP t → phase m t ≢ Taking Commit (n t)) → (noted z m (call z m c) c G).past ≡ G.past
  unlisting (ST t) calm = same_past G (eqb (call z m (ST t)).number 0) t []
  unlisting (CM t) calm = refl
  unlisting (AB t) calm = refl
  unlisting (WT t) calm = refl
  unlisting (SP t) calm = step_unlisted t (calm t refl)
  unlisting (RD t a) calm = same_past G (eqb (call z m (RD t a)).number 0) t _
  unlisting (WR t a v) calm = same_past G (eqb (call z m (WR t a v)).number 0) t _

pub committed_is_listed : CommittedIsListed listed
committed_is_listed z v m o es =
    let s = reached z v m es in
    record {
      committed = λ t e.
          ran_in (scene z v (open_board z v m).after nothing) (opened_in z v _ (opening_leaves z v m o)) es t
          (answers_21 s.sizes s.memory s.notes t e);
      decided = λ t lt q. deciding s.sizes s.memory s.notes (always (λ s. Fine s) (λ s f. f) z v m o es).0 t lt q;
      otherwise = λ c no. unlisting s.sizes s.memory s.notes c no;
    }
