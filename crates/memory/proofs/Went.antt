-- The step, taken apart once: every step of a sound table by a task that may step goes by one of these lines.
use Rattle.std.specs.Prelude.{if◌then◌else◌}
use Prim.Native.Nat.{ℕ, suc, ◌%◌, ◌<◌, ◌≤◌}
use mathlib.Core.Path.{◌≡◌, refl, sym, ap, ◌∙◌, subst, subst⁻¹}
use mathlib.Core.Logic.{◌⊎◌, inl, inr, ◌≢◌, ⊎_elim}
use mathlib.Core.Bool.{true, false, not, false≢true, true≢false}
use lib.Dec.{eqb, ltb}
use lib.ListN.{length}
use native.Mathlib.Omega.{arith}
use native.Mathlib.Nat.{mod-lt}
use borrow.Author.Tests.{ltb-true, ltb-false, eqb-true, eqb-false, not-true, not-false}
use Rattle.memory.specs.{Sizes, Goal, Commit, Sleep, Outcome, Committed, Failed, Phase, Idle, Open, Taking, Asleep, Writing, Releasing, Place, Held, Version, Owner, Memory, position_of, steps, place, entry, held, ended, moved, set_word, set_held, set_place, move, sound, may_join, ends_with, joining, version_on, joined, Led, Reply, reply, refused, refusal, wakes, clash, meet, take_step, decide, end_number, release_step, step_in, step, SP, call, decided, final}
use Rattle.memory.proofs.Tools.{both, if_cases}
use Rattle.memory.proofs.Leads.{led_cases, ends_led}
use Rattle.memory.proofs.Codes.{not_owner, owner_inj, final-is}
use Rattle.memory.proofs.Cases.{asked_cases, asked_0}
use Rattle.memory.proofs.Stores.{place_same}
use Rattle.memory.proofs.Clashes.{clash_other, clash-length, clash-entries}
use Rattle.memory.proofs.Facts.{some_record, in_places, position_n, owner_task, on_none}

-- a task that does not step is Idle or Open, and one that does is neither
pub not-steps : (p : Phase) → steps p ≡ false → (p ≡ Idle) ⊎ (p ≡ Open)
not-steps Idle s = inl refl
not-steps Open s = inr refl
not-steps (Taking g i) s = absurd (true≢false s)
not-steps Asleep s = absurd (true≢false s)
not-steps (Writing i) s = absurd (true≢false s)
not-steps (Releasing o i) s = absurd (true≢false s)

pub steps-not : (p : Phase) → steps p ≡ true → (p ≡ Idle) ⊎ (p ≡ Open) → ⊥
steps-not p s (inl e) = true≢false (sym s ∙ ap steps e)
steps-not p s (inr e) = true≢false (sym s ∙ ap steps e)

-- the number of a step that moves its task on
abbrev pub told : Phase → ℕ
told p = if wakes p then 20 else 0

module _ (z : Sizes) (m : Memory) (t : ℕ) where
  abbrev n : ℕ
  n = (place m t).count

  -- the record of an entry
  abbrev pub record_at : ℕ → ℕ
  record_at i = (entry z m t i).address % z.records

  -- From a phase, by stores that leave the task's place and all entries alone, to a phase. At entry i a task that takes finds its
  -- record at the old version, its own, at another version, or another's, which it may not join or whose version differs; one that
  -- releases finds it its own or not.
  pub data Does : Phase → Memory → Phase → Type 0 where
    takes : (g : Goal) (i : ℕ) → i < n → held m (record_at i) ≡ Version (entry z m t i).old.version
        → Does (Taking g i) (set_held m (record_at i) (Owner t)) (Taking g (suc i))
    has : (g : Goal) (i : ℕ) → i < n → held m (record_at i) ≡ Owner t → Does (Taking g i) m (Taking g (suc i))
    late : (g : Goal) (i : ℕ) → i < n → (v : ℕ) → held m (record_at i) ≡ Version v → v ≢ (entry z m t i).old.version
        → Does (Taking g i) m (Releasing Failed 0)
    meets : (g : Goal) (i : ℕ) → i < n → (u : ℕ) → held m (record_at i) ≡ Owner u → u ≢ t → joining g (place m u).phase ≡ false
        → place (clash z m u) t ≡ place m t → Does (Taking g i) (clash z m u) (Releasing Failed 0)
    differs : (i : ℕ) → i < n → (u : ℕ) → held m (record_at i) ≡ Owner u → u ≢ t → wakes (place m u).phase ≡ true
        → version_on z m u (record_at i) ≢ (entry z m t i).old.version → Does (Taking Sleep i) m (Releasing Failed 0)
    chooses : (g : Goal) → Does (Taking g n) m (decided g)
    writes : (i : ℕ) → i < n → Does (Writing i) (set_word m (entry z m t i).address (entry z m t i).new.value) (Writing (suc i))
    wrote_all : Does (Writing n) m (Releasing Committed 0)
    gives : (o : Outcome) (i : ℕ) → i < n → held m (record_at i) ≡ Owner t
        → Does (Releasing o i) (set_held m (record_at i) (Version (final o (entry z m t i)))) (Releasing o (suc i))
    passes : (o : Outcome) (i : ℕ) → i < n → held m (record_at i) ≢ Owner t → Does (Releasing o i) m (Releasing o (suc i))

  -- from a phase, with this reply
  pub data Went : Phase → Reply → Type 0 where
    moves : {p p' : Phase} {m₁ : Memory} → Does p m₁ p' → Went p (reply (told p') 0 (move m₁ t p'))
    joins : (i : ℕ) → i < n → (u : ℕ) → held m (record_at i) ≡ Owner u → u ≢ t → wakes (place m u).phase ≡ true
        → version_on z m u (record_at i) ≡ (entry z m t i).old.version
        → Went (Taking Sleep i) (reply 0 0 (set_place m t (joined z u (place m t) (Taking Sleep (suc i)))))
    rests : Went Asleep (reply 20 0 m)
    ends : (o : Outcome) → Went (Releasing o n) (reply (end_number o) 0 (set_place m t ended))

module _ (z : Sizes) (m : Memory) (t : ℕ) (ok : sound z m ≡ true) (lt : t < z.tasks) where
  abbrev c : ℕ
  c = (place m t).count

  -- The walk -------------------------------------------------------------------------------------------------------------------

  -- a position that is not below the number of entries is that number
  at_end : (p : Phase) → (place m t).phase ≡ p → c ≤ position_of p → c ≡ position_of p
  at_end p e h = omega (arith, h, subst (λ (x : Phase). position_of x ≤ c) e (position_n z m ok t lt))

  -- Who clashes with a sleeper takes to commit, so it is on no list, and does not end with the sleeper.
  may_not_join : (g : Goal) (i : ℕ) (p : Phase) → joining g p ≡ false → wakes p ≡ true → may_join (Taking g i) ≡ false
  may_not_join Commit i p j w = refl
  may_not_join Sleep i p j w = absurd (true≢false (sym w ∙ j))

  pub comer_stays : (g : Goal) (i u : ℕ) → (place m t).phase ≡ Taking g i → u ≢ t → joining g (place m u).phase ≡ false → place (clash z m u) t ≡ place m t
  comer_stays g i u e ne j = clash_other z m u t (λ q. ne (sym q)) (λ w. ⊎_elim (λ x. absurd (led w (ends_led m z u t x))) (λ x. x) (both (ends_with z m u t)))
    where
      led : wakes (place m u).phase ≡ true → Led m u t → ⊥
      led w l =
          ⊎_elim (λ q. ne (sym q)) (λ k. on_none z m ok t (ap may_join e ∙ may_not_join g i (place m u).phase j w) k.0 k.2) (led_cases m l)

  goes : (p : Phase) → (place m t).phase ≡ p → steps p ≡ true → Went z m t p (step_in z m t c p)
  unfolding step_in
  goes Idle e s = absurd (false≢true s)
  goes Open e s = absurd (false≢true s)
  goes Asleep e s = rests
  goes (Taking g i) e s =
      if_cases (Went z m t (Taking g i)) (ltb i c) _ _ (λ d. take (ltb-true _ _ d) (held m (record_at z m t i)) refl)
      (λ d. subst (λ (j : ℕ). Went z m t (Taking g j) (decide m t g)) (at_end _ e (ltb-false _ _ d)) (chosen g))
    where
      P : Memory → Type 0
      P m' = Went z m t (Taking g i) (reply 0 0 m')

      -- who would sleep joins a sleeper at the same version
      beside : (g : Goal) → i < c → (u : ℕ) → held m (record_at z m t i) ≡ Owner u → u ≢ t → joining g (place m u).phase ≡ true
          → Went z m t (Taking g i) (reply 0 0 (if eqb (version_on z m u (record_at z m t i)) (entry z m t i).old.version then set_place m t (joined z u (place m t) (Taking g (suc i))) else
          move m t (Releasing Failed 0)))
      beside Commit h u q ne j = absurd (false≢true j)
      beside Sleep h u q ne j =
          if_cases (λ m'. Went z m t (Taking Sleep i) (reply 0 0 m')) (eqb (version_on z m u (record_at z m t i)) (entry z m t i).old.version) _ _
          (λ d. joins i h u q ne j (eqb-true _ _ d)) (λ d. moves (differs i h u q ne j (eqb-false _ _ d)))

      met : i < c → (u : ℕ) → held m (record_at z m t i) ≡ Owner u → u ≢ t → P (meet z m t g i (entry z m t i) u)
      met h u q ne = unfold meet in
          if_cases P (not (joining g (place m u).phase)) _ _
          (λ d. moves (meets g i h u q ne (not-true _ d) (comer_stays g i u e ne (not-true _ d)))) (λ d. beside g h u q ne (not-false _ d))

      take : i < c → (k : Held) → held m (record_at z m t i) ≡ k → P (take_step z m t g i (record_at z m t i) (entry z m t i) k)
      take h (Version v) q = unfold take_step in
          if_cases P (eqb v (entry z m t i).old.version) _ _
          (λ d. moves (takes g i h (q ∙ ap Version (eqb-true _ _ d)))) (λ d. moves (late g i h v q (eqb-false _ _ d)))
      take h (Owner u) q = unfold take_step in
          if_cases P (eqb u t) _ _ (λ d. moves (has g i h (q ∙ ap Owner (eqb-true _ _ d)))) (λ d. met h u q (eqb-false _ _ d))

      chosen : (g : Goal) → Went z m t (Taking g c) (decide m t g)
      chosen Commit = unfold decide in moves (chooses Commit)
      chosen Sleep = unfold decide in moves (chooses Sleep)
  goes (Writing i) e s =
      if_cases (Went z m t (Writing i)) (ltb i c) _ _ (λ d. moves (writes i (ltb-true _ _ d)))
      (λ d. subst (λ (j : ℕ). Went z m t (Writing j) (reply 0 0 (move m t (Releasing Committed 0)))) (at_end _ e (ltb-false _ _ d)) (moves wrote_all))
  goes (Releasing o i) e s =
      if_cases (Went z m t (Releasing o i)) (ltb i c) _ _ (λ d. release (ltb-true _ _ d) (held m (record_at z m t i)) refl)
      (λ d. subst (λ (j : ℕ). Went z m t (Releasing o j) (reply (end_number o) 0 (set_place m t ended))) (at_end _ e (ltb-false _ _ d)) (ends o))
    where
      P : Memory → Type 0
      P m' = Went z m t (Releasing o i) (reply 0 0 m')

      release : i < c → (k : Held) → held m (record_at z m t i) ≡ k → P (release_step m t o i (record_at z m t i) (entry z m t i) k)
      release h (Version v) q = unfold release_step in moves (passes o i h (λ x. not_owner v t (sym q ∙ x)))
      release h (Owner u) q = unfold release_step in
          if_cases P (eqb u t) _ _
          (λ d. subst⁻¹ (λ (v : ℕ). P (move (set_held m (record_at z m t i) (Version v)) t (Releasing o (suc i)))) (final-is o _)
          (moves (gives o i h (q ∙ ap Owner (eqb-true _ _ d)))))
          (λ d. moves (passes o i h (λ x. eqb-false _ _ d (owner_inj u t (sym q ∙ x)))))

  pub step_goes : steps (place m t).phase ≡ true → Went z m t (place m t).phase (call z m (SP t))
  unfolding call step
  step_goes s = subst⁻¹ (Went z m t (place m t).phase) (asked_0 z m t steps _ ok lt s) (goes (place m t).phase refl s)

  -- Where the task stands afterwards -----------------------------------------------------------------------------------------------

  -- a task stands where it is moved to
  pub moved_to : (m₁ : Memory) (p : Phase) → length m₁.places ≡ length m.places → place (move m₁ t p) t ≡ moved (place m₁ t) p
  unfolding move
  moved_to m₁ p l = place_same m₁ t (moved (place m₁ t) p) (subst⁻¹ (λ (k : ℕ). t < k) l (in_places z m ok t lt))

  -- what the stores leave alone
  abbrev Aside : Memory → Phase → Type 0
  Aside m₁ p' =
      (place m₁ t ≡ place m t) × (length m₁.places ≡ length m.places) × (m₁.entries ≡ m.entries)
      × ((m₁.places ≡ m.places) ⊎ (p' ≡ Releasing Failed 0))

  aside : {p p' : Phase} {m₁ : Memory} → Does z m t p m₁ p' → Aside m₁ p'
  unfolding set_held set_word place
  aside (takes g i h e) = (refl, refl, refl, inl refl)
  aside (has g i h e) = (refl, refl, refl, inl refl)
  aside (late g i h v e x) = (refl, refl, refl, inl refl)
  aside (meets g i h u e x j stays) = (stays, clash-length z m u, clash-entries z m u, inr refl)
  aside (differs i h u e x a v) = (refl, refl, refl, inl refl)
  aside (chooses g) = (refl, refl, refl, inl refl)
  aside (writes i h) = (refl, refl, refl, inl refl)
  aside wrote_all = (refl, refl, refl, inl refl)
  aside (gives o i h e) = (refl, refl, refl, inl refl)
  aside (passes o i h e) = (refl, refl, refl, inl refl)

  pub lands : {p p' : Phase} {m₁ : Memory} → Does z m t p m₁ p' → place (move m₁ t p') t ≡ moved (place m t) p'
  lands {p' = p'} {m₁ = m₁} d = moved_to m₁ p' (aside d).1 ∙ ap (λ (q : Place). moved q p') (aside d).0

  pub keeps_entries : {p p' : Phase} {m₁ : Memory} → Does z m t p m₁ p' → (move m₁ t p').entries ≡ m.entries
  unfolding move set_place
  keeps_entries d = (aside d).2

  -- another's place is moved on only where the task fails
  pub moves_alone : {p p' : Phase} {m₁ : Memory} → Does z m t p m₁ p' → (m₁.places ≡ m.places) ⊎ (p' ≡ Releasing Failed 0)
  moves_alone d = (aside d).3

-- the owner of an entry's record is one of the tasks
pub owner_inside : (z : Sizes) (m : Memory) → sound z m ≡ true → (t i u : ℕ) → held m (record_at z m t i) ≡ Owner u → u < length m.places
owner_inside z m ok t i u e = in_places z m ok u (owner_task z m ok _ u (mod-lt (entry z m t i).address (some_record z m ok)) e)

-- a step is refused, or goes by one of the lines
pub step_cases : (z : Sizes) (m : Memory) (t : ℕ) (P : Reply → Type 0) → ((k : ℕ) → refusal k ≡ true → P (refused k m))
    → (sound z m ≡ true → t < z.tasks → (r : Reply) → Went z m t (place m t).phase r → P r) → P (call z m (SP t))
unfolding call step
step_cases z m t P f g = asked_cases z m t steps _ P f (λ ok lt s. g ok lt _ (goes z m t ok lt (place m t).phase refl s))
