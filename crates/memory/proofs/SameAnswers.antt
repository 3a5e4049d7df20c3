-- On two tables that a task cannot tell apart, its Start, Reads and Writes are answered the same.
use Prim.Native.Nat.{ℕ, ◌<◌}
use mathlib.Core.Path.{◌≡◌, refl, sym, ap, ◌∙◌, subst, subst⁻¹}
use mathlib.Core.Logic.{◌≢◌, ⊎_elim}
use mathlib.Core.List.{List, [], ◌∷◌, map}
use mathlib.Core.Bool.{true}
use lib.ListN.{length, drop}
use Rattle.memory.specs.{Sizes, Idle, Open, Place, Seen, Entry, Memory, steps, place, entries, run, bare, logical, sound, Reply, Call, ST, RD, WR, call, numbers, rows_of, Row, Given, refusals, ◌∈◌, phase, Entered, Use, reads, writes, use_by, body, AllZero, said, ours}
use Rattle.memory.proofs.Alike.{entered-same, one_written}
use Rattle.memory.proofs.Codes.{phase_of_lem}
use Rattle.memory.proofs.Find.{find?}
use Rattle.memory.proofs.Facts.{entries_count}
use Rattle.memory.proofs.SoundLasts.{call-sound}
use Rattle.memory.proofs.Narrow.{calls_are_narrow}
use Rattle.memory.proofs.Answers.{one_number, call_answers}
use Rattle.memory.proofs.AlikeReplies.{allowed}
use Rattle.memory.proofs.Effects.{requests_leave}
use Rattle.memory.proofs.Runs.{not-refused}
use Rattle.memory.proofs.Begun.{use_keeps}
use Rattle.memory.proofs.SameBoard.{logical_kept}

module _ (z : Sizes) (t : ℕ) (lt : t < z.tasks) where
  -- two tables that the task, Open, cannot tell apart
  record Alike (m m' : Memory) : Type 0 where
    ok : sound z m ≡ true
    ok' : sound z m' ≡ true
    opened : phase m t ≡ Open
    opened' : phase m' t ≡ Open
    same_entries : entries z m' t ≡ entries z m t
    same-logical : (a : ℕ) → logical z m' a ≡ logical z m a

  module _ (m m' : Memory) (A : Alike m m') where
    there : (e : Entry) → e ∈ entries z m t → e ∈ entries z m' t
    there e k = subst⁻¹ (λ (l : List Entry). e ∈ l) A.same_entries k

    back : (e : Entry) → e ∈ entries z m' t → e ∈ entries z m t
    back e k = subst (λ (l : List Entry). e ∈ l) A.same_entries k

    entered : (a : ℕ) (es es' : List Entry) → Entered z m t a es → Entered z m' t a es' → es' ≡ es
    entered a = entered-same z t a m m' A.same_entries (A.same-logical a)

    -- The number and the value -----------------------------------------------------------------------------------------------------

    same_count : (place m' t).count ≡ (place m t).count
    same_count = sym (entries_count z m' A.ok' t lt) ∙ ap length A.same_entries ∙ entries_count z m A.ok t lt

    -- past the refusals the rows speak of the entries, their number and the logical version
    again_from : (c : Call) (rows rows' : List Row) → (Given rows 0 → Given rows' 0)
        → Given (refusals z m t (phase m t ≢ Open) rows) (call z m c).number → Given (refusals z m' t (phase m' t ≢ Open) rows') (call z m' c).number
        → (call z m c).number ≡ 0 → (call z m' c).number ≡ 0
    again_from c rows rows' f g g' h =
        one_number (refusals z m' t (phase m' t ≢ Open) rows') _ _ g'
        (not-refused z m' t A.ok' lt _ rows' 0 (λ d. d A.opened')
        (f (allowed z m t _ 0 rows refl (subst (Given (refusals z m t (phase m t ≢ Open) rows)) h g)).1))

    again_0 : (u : Use) → (call z m (use_by t u)).number ≡ 0 → (call z m' (use_by t u)).number ≡ 0
    again_0 (reads a) =
        again_from (RD t a) (drop 3 (rows_of z m (RD t a) m)) (drop 3 (rows_of z m' (RD t a) m'))
        (λ g. rw (← A.same_entries, ← same_count, ← A.same-logical a) at g) (call_answers z m (RD t a)).0 (call_answers z m' (RD t a)).0
    again_0 (writes a v) =
        again_from (WR t a v) (drop 3 (rows_of z m (WR t a v) m)) (drop 3 (rows_of z m' (WR t a v) m'))
        (λ g. rw (← A.same_entries, ← same_count, ← A.same-logical a) at g) (call_answers z m (WR t a v)).0 (call_answers z m' (WR t a v)).0

    again_value : (u : Use) → (call z m (use_by t u)).number ≡ 0 → (call z m' (use_by t u)).value ≡ (call z m (use_by t u)).value
    again_value (writes a v) h = (call_answers z m' (WR t a v)).1 ∙ sym (call_answers z m (WR t a v)).1
    again_value (reads a) h =
        let x = (call_answers z m (RD t a)).1 in
        let y = (call_answers z m' (RD t a)).1 in
        let h' = again_0 (reads a) h in
        ⊎_elim (λ k. y.1 h' k.0 (there k.0 k.1) k.2 ∙ sym (x.1 h k.0 k.1 k.2))
        (λ new. y.2 h' (λ e k. new e (back e k)) ∙ ap (λ (s : Seen). s.value) (A.same-logical a) ∙ sym (x.2 h new))
        (find? (λ e. e.address) a (entries z m t))

    -- What is left -----------------------------------------------------------------------------------------------------------------

    again_left : (u : Use) → (call z m (use_by t u)).number ≡ 0
        → (phase (call z m (use_by t u)).after t ≡ Open) × (phase (call z m' (use_by t u)).after t ≡ Open)
        × (entries z (call z m' (use_by t u)).after t ≡ entries z (call z m (use_by t u)).after t)
    again_left (reads a) h =
        let x = (requests_leave z m (RD t a)).1 h in
        let y = (requests_leave z m' (RD t a)).1 (again_0 (reads a) h) in
        (x.0, y.0, entered a _ _ x.1 y.1)
    again_left (writes a v) h =
        let x = (requests_leave z m (WR t a v)).1 h in
        let y = (requests_leave z m' (WR t a v)).1 (again_0 (writes a v) h) in (
          x.0,
          y.0,
          y.5 ∙ (λ i. map (λ e. one_written z.records a v e (y.3 e) (x.3 e) (y.4 e) (x.4 e) i) (entered a _ _ x.2 y.2 i)) ∙ sym x.5,
        )

    alike_on : (u : Use) → (call z m (use_by t u)).number ≡ 0 → Alike (call z m (use_by t u)).after (call z m' (use_by t u)).after
    alike_on u h =
        let x = again_left u h in
        record {
          ok = call-sound z m A.ok (use_by t u);
          ok' = call-sound z m' A.ok' (use_by t u);
          opened = x.0;
          opened' = x.1;
          same_entries = x.2;
          same-logical = λ a.
              logical_kept z m' _ t A.ok' (call-sound z m' A.ok' (use_by t u)) (ap steps A.opened') (use_keeps z m' t u) a
              ∙ A.same-logical a ∙ sym (logical_kept z m _ t A.ok (call-sound z m A.ok (use_by t u)) (ap steps A.opened) (use_keeps z m t u) a);
        }

  -- one answer more that is the same
  more_said : (r r' : Reply) (l l' : List (ℕ × ℕ)) → r.number ≡ 0 → r'.number ≡ 0 → r'.value ≡ r.value → l' ≡ l
      → ◌≡◌ {A = List (ℕ × ℕ)} ((r'.number, r'.value) ∷ l') ((r.number, r.value) ∷ l)
  more_said r r' l l' h h' v e =
      ap (λ (s : List (ℕ × ℕ)). (r'.number, r'.value) ∷ s) e ∙ ap (λ (k : ℕ). (k, r'.value) ∷ l) (h' ∙ sym h) ∙ ap (λ (k : ℕ). (r.number, k) ∷ l) v

  uses_same : (us : List Use) (m m' : Memory) → Alike m m' → AllZero ours z m (map (use_by t) us)
      → said ours z m' (map (use_by t) us) ≡ said ours z m (map (use_by t) us)
  unfolding numbers said
  uses_same [] m m' A e = refl
  uses_same (u ∷ us) m m' A e =
      let h : (call z m (use_by t u)).number ≡ 0 = cc in
      let l : AllZero ours z (call z m (use_by t u)).after (map (use_by t) us) = cc in
      more_said (call z m (use_by t u)) (call z m' (use_by t u)) _ _ h (again_0 m m' A u h) (again_value m m' A u h) (uses_same us _ _ (alike_on m m' A u h) l)

  -- the body, from two tables where the task is Idle
  module _ (m m' : Memory) (ok : sound z m ≡ true) (ok' : sound z m' ≡ true) (idle : phase m t ≡ Idle) (idle' : phase m' t ≡ Idle)
      (same : (a : ℕ) → logical z m' a ≡ logical z m a) where
    starts : (x : Memory) → sound z x ≡ true → phase x t ≡ Idle → (call z x (ST t)).number ≡ 0
    starts x okx i = one_number (rows_of z x (ST t) x) _ _ (call_answers z x (ST t)).0 (not-refused z x t okx lt _ [] 0 (λ d. d i) refl)

    opens : (x : Memory) → sound z x ≡ true → phase x t ≡ Idle → place (call z x (ST t)).after t ≡ bare 0 Open
    opens x okx i = (requests_leave z x (ST t) (starts x okx i)).0

    empty : (x : Memory) → sound z x ≡ true → phase x t ≡ Idle → entries z (call z x (ST t)).after t ≡ []
    empty x okx i = ap (λ (q : Place). run z (call z x (ST t)).after t q.count) (opens x okx i)

    begins : Alike (call z m (ST t)).after (call z m' (ST t)).after
    begins =
        record {
          ok = call-sound z m ok (ST t);
          ok' = call-sound z m' ok' (ST t);
          opened = phase_of_lem (opens m ok idle);
          opened' = phase_of_lem (opens m' ok' idle');
          same_entries = empty m' ok' idle' ∙ sym (empty m ok idle);
          same-logical = λ a.
              logical_kept z m' _ t ok' (call-sound z m' ok' (ST t)) (ap steps idle') (calls_are_narrow z m' (ST t)) a
              ∙ same a ∙ sym (logical_kept z m _ t ok (call-sound z m ok (ST t)) (ap steps idle) (calls_are_narrow z m (ST t)) a);
        }

    pub said_same : (us : List Use) → AllZero ours z m (body t us) → said ours z m' (body t us) ≡ said ours z m (body t us)
    unfolding numbers said
    said_same us e =
        let l : AllZero ours z (call z m (ST t)).after (map (use_by t) us) = cc in
        more_said (call z m (ST t)) (call z m' (ST t)) _ _ (starts m ok idle) (starts m' ok' idle')
        ((call_answers z m' (ST t)).1 ∙ sym (call_answers z m (ST t)).1) (uses_same us _ _ begins l)
