-- Two machines that meet the claims are one.
use Prim.Native.Nat.{ℕ}
use mathlib.Core.Path.{◌≡◌, refl, sym, ◌∙◌, subst}
use mathlib.Core.Logic.{◌⊎◌, inl, inr, ◌≢◌, ⊎_elim}
use mathlib.Core.List.{List, [], ◌∷◌, map}
use mathlib.Core.Bool.{true, false}
use Rattle.memory.specs.{Sizes, Idle, Open, Place, Entry, Memory, place, ended, entries, Reply, looked, Call, ST, CM, AB, WT, SP, RD, WR, ◌∈◌, refusal, KeepsOthers, Narrow, Row, Given, phase, New, refusals, unusable, rows_of, Valued, Machine, ours, StoredFrom, Stores, Promised, OneMachine}
use Rattle.memory.specs.Effects.{Goes, Leaves}
use Rattle.memory.specs.Fixed.Claim.{call_answers, opening_answers, look_answers, refusals_keep, refused_openings_keep, calls_are_narrow, requests_leave, entries_stored, steps_leave, clashes_end, sound_lasts, opening_leaves, opening_is_sound}
use Rattle.memory.proofs.StepAnswers.{ending}
use Rattle.memory.proofs.Tools.{same?}
use Rattle.memory.proofs.Find.{find?}
use Rattle.memory.proofs.Answers.{one_number}
use Rattle.memory.proofs.Alike.{same_memory, same_places, same_goes, same-stored, entered-same, one_written}
use Rattle.memory.proofs.AlikeReplies.{past, refusing, only_0, Allowed, allowed, others_give, same-reply}
use Rattle.memory.proofs.AlikeSteps.{same_step}

module _ (M N : Machine) (P : Promised M) (Q : Promised N) (z : Sizes) (m : Memory) where
  -- what the one and the other answer to a call
  abbrev r : Call → Reply
  r c = M.call z m c

  abbrev s : Call → Reply
  s c = N.call z m c

  -- what is so of a machine that meets the claims, whichever it is
  abbrev Any : Call → (Reply → Type 0) → Type 0
  Any c X = (K : Machine) → Promised K → X (K.call z m c)

  told : (c : Call) → Any c (λ x. (Given (rows_of z m c x.after) x.number × Valued z m c x) × Narrow z m c x.after × Leaves z m c x × Stores z m c x)
  told c K R = (R call_answers z m c, R calls_are_narrow z m c, R requests_leave z m c, R entries_stored z m c)

  -- every call goes by this: rows that do not speak of what it leaves, its value, and what it leaves where it is allowed
  alike : (c : Call) (t : ℕ) (D : Type 0) (rows : List Row) → Given (refusals z m t D rows) (r c).number → Given (refusals z m t D rows) (s c).number
      → ((r c).number ≡ (s c).number → (r c).value ≡ (s c).value)
      → (Allowed z m t D → Given rows (r c).number → refusal (r c).number ≡ false → (r c).number ≡ (s c).number → (r c).after ≡ (s c).after) → r c ≡ s c
  alike c t D rows x y value after =
      same-reply (refusals z m t D rows) m (r c) (s c) x y (P refusals_keep z m c) (Q refusals_keep z m c) value
      (λ b q. let (a, g) = allowed z m t D (r c).number rows b x in after a g b q)

  -- Start, Commit, Abort and Wait: the task goes to a place
  goes : (c : Call) (t : ℕ) (D : Type 0) (rows : List Row) (q : Place) → refusing rows ≡ true
      → Any c (λ x. (Given (refusals z m t D rows) x.number × (x.value ≡ 0)) × KeepsOthers z m t x.after
      × (x.number ≡ 0 → Goes m t x.after q) × Unit {0}) → r c ≡ s c
  goes c t D rows q all is =
      let (x, k, g, _) = is M P in
      let (y, l, h, _) = is N Q in
      alike c t D rows x.0 y.0 (λ _. x.1 ∙ sym y.1) (λ (ok, _, _) w b e.
      let n = only_0 rows all (r c).number b w in
      same_goes z _ _ (P sound_lasts z m ok c) (Q sound_lasts z m ok c) m t k l q (g n) (h (sym e ∙ n)))

  -- Read and Write: overtaken, they go as Abort does; with 0 their entries tell what they leave
  enters : (c : Call) (t a : ℕ) (rows : List Row) (from : ℕ) → refusing rows ≡ true
      → Any c (λ x. Given (unusable z m t a rows) x.number × KeepsOthers z m t x.after
      × (x.number ≡ 9 → Goes m t x.after ended) × (x.number ≡ 0 → StoredFrom from z m t x.after))
      → ((r c).number ≡ (s c).number → (r c).value ≡ (s c).value)
      → ((r c).number ≡ 0 → (s c).number ≡ 0
      → (phase (r c).after t ≡ Open) × (phase (s c).after t ≡ Open) × (entries z (r c).after t ≡ entries z (s c).after t)) → r c ≡ s c
  enters c t a rows from all is value after =
      let (x, k, g, S) = is M P in
      let (y, l, h, T) = is N Q in
      alike c t _ ((5, _) ∷ (6, _) ∷ (9, _) ∷ rows) x y value (λ (ok, lt, _) w b e.
      ⊎_elim (λ (_, n). same_goes z _ _ (P sound_lasts z m ok c) (Q sound_lasts z m ok c) m t k l ended (g n) (h (sym e ∙ n))) (λ (_, u).
      let n = only_0 rows all (r c).number b u in
      let (o, p, es) = after n (sym e ∙ n) in
      same-stored z _ _ (P sound_lasts z m ok c) (Q sound_lasts z m ok c) m t k l from lt (S n) (T (sym e ∙ n)) o p es)
      (past 6 refl b (past 5 refl b w).1).1)

  read-value : (t a : ℕ) → (r (RD t a)).number ≡ (s (RD t a)).number → (r (RD t a)).value ≡ (s (RD t a)).value
  read-value t a q = go (same? (r (RD t a)).number 0) (find? (λ e. e.address) a (entries z m t))
    where
      x : Valued z m (RD t a) (r (RD t a))
      x = (P call_answers z m (RD t a)).1

      y : Valued z m (RD t a) (s (RD t a))
      y = (Q call_answers z m (RD t a)).1

      go : ((r (RD t a)).number ≡ 0) ⊎ ((r (RD t a)).number ≢ 0) → ((e : Entry) × e ∈ entries z m t × (e.address ≡ a)) ⊎ New z m t a
          → (r (RD t a)).value ≡ (s (RD t a)).value
      go (inr n) k = x.0 n ∙ sym (y.0 (λ d. n (q ∙ d)))
      go (inl n) (inl (e, k, d)) = x.1 n e k d ∙ sym (y.1 (sym q ∙ n) e k d)
      go (inl n) (inr new) = x.2 n new ∙ sym (y.2 (sym q ∙ n) new)

  -- the step: its rows speak of what it leaves, which is the same where it is allowed
  step : (t : ℕ) → r (SP t) ≡ s (SP t)
  step t =
      let (x, v) = P call_answers z m (SP t) in
      let (y, w) = Q call_answers z m (SP t) in
      alike (SP t) t D (rows m₂) (others_give z m t D _ (rows m₁) (rows m₂) (λ a. subst (λ (k : Memory). Given (rows k) (r (SP t)).number) (after a)) x) y
      (λ _. v ∙ sym w) (λ a _ _ _. after a)
    where
      m₁ : Memory
      m₁ = (r (SP t)).after

      m₂ : Memory
      m₂ = (s (SP t)).after

      D : Type 0
      D = (phase m t ≡ Idle) ⊎ (phase m t ≡ Open)

      rows : Memory → List Row
      rows k = ending (place m t).count (phase m t) (phase k t)

      after : Allowed z m t D → m₁ ≡ m₂
      after (ok, lt, d) =
          same_step z m t ok lt m₁ m₂ (P sound_lasts z m ok (SP t)) (Q sound_lasts z m ok (SP t)) (P clashes_end z m t ok lt) (Q clashes_end z m t ok lt) d
          (P steps_leave z m t ok lt) (Q steps_leave z m t ok lt)

  one_call : (c : Call) → r c ≡ s c
  one_call (ST t) = goes (ST t) t _ [] _ refl (told (ST t))
  one_call (CM t) = goes (CM t) t _ [] _ refl (told (CM t))
  one_call (AB t) = goes (AB t) t _ [] _ refl (told (AB t))
  one_call (WT t) = goes (WT t) t _ ((7, _) ∷ []) _ refl (told (WT t))
  one_call (SP t) = step t
  one_call (RD t a) =
      enters (RD t a) t a [] (place m t).count refl (λ K R. let (x, k, L, S) = told (RD t a) K R in (x.0, k, L.0, S)) (read-value t a) (λ n n'.
      let (o, E) = (P requests_leave z m (RD t a)).1 n in
      let (p, E') = (Q requests_leave z m (RD t a)).1 n' in
      (o, p, entered-same z t a m m refl refl _ _ E' E))
  one_call (WR t a v) =
      enters (WR t a v) t a ((8, _) ∷ []) 0 refl (λ K R. let (x, k, L, S) = told (WR t a v) K R in (x.0, k, L.0, S))
      (λ _. (P call_answers z m (WR t a v)).1 ∙ sym (Q call_answers z m (WR t a v)).1) (λ n n'.
      let (o, es, E, f, F, x) = (P requests_leave z m (WR t a v)).1 n in
      let (p, es', E', f', F', y) = (Q requests_leave z m (WR t a v)).1 n' in
      (o, p, x ∙ (λ i. map (λ e. one_written z.records a v e (f e) (f' e) (F e) (F' e) i) (entered-same z t a m m refl refl es' es E' E i)) ∙ sym y))

  -- Opening and the look-up --------------------------------------------------------------------------------------------------------------

  one_opening : (v : ℕ) → M.open_board z v m ≡ N.open_board z v m
  one_opening v =
      let (x, w) = P opening_answers z v m in
      let (y, w') = Q opening_answers z v m in
      same-reply ((2, _) ∷ (1, _) ∷ []) m _ _ x y (P refused_openings_keep z v m) (Q refused_openings_keep z v m) (λ _. w ∙ sym w') (λ b q.
      let n = only_0 ((2, _) ∷ (1, _) ∷ []) refl _ b x in opened n (sym q ∙ n))
    where
      opened : (M.open_board z v m).number ≡ 0 → (N.open_board z v m).number ≡ 0 → (M.open_board z v m).after ≡ (N.open_board z v m).after
      opened n n' =
          let x = P opening_leaves z v m n in
          let y = Q opening_leaves z v m n' in
          same_memory _ _ (x.words ∙ sym y.words) (x.records ∙ sym y.records)
          (same_places z _ _ (P opening_is_sound z v m n) (Q opening_is_sound z v m n') (λ u h. x.idle u ∙ sym (y.idle u))) (x.entries ∙ sym y.entries)

  one_look : (a : ℕ) → M.look z m a ≡ N.look z m a
  one_look a =
      let (x, zeros, seen) = P look_answers z m a in
      let (y, zeros', seen') = Q look_answers z m a in
      let q = one_number ((1, _) ∷ (5, _) ∷ []) _ _ x y in
      let e = ⊎_elim (λ n. joined (seen n) (seen' (sym q ∙ n))) (λ n. joined (zeros n) (zeros' (λ d. n (q ∙ d)))) (same? (M.look z m a).number 0) in
      λ i. looked (q i) (e.0 i) (e.1 i)
    where
      joined : {a b c d e f : ℕ} → (a ≡ c) × (b ≡ d) → (e ≡ c) × (f ≡ d) → (a ≡ e) × (b ≡ f)
      joined (p, q) (u, v) = (p ∙ sym u, q ∙ sym v)

pub one_machine : OneMachine
one_machine M N P Q = λ i.
    record {
      call = λ z m c. one_call M N P Q z m c i;
      open_board = λ z v m. one_opening M N P Q z m v i;
      look = λ z m a. one_look M N P Q z m a i;
    }

-- so a machine that meets the claims is ours, if ours does
pub it_is_ours : Promised ours → (M : Machine) → Promised M → M ≡ ours
it_is_ours O M P = one_machine M ours P O
