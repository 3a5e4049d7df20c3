-- One step of a task, by the phase that it is in: the number, and what it leaves. All is told against a table b from which the task
-- set out, with the entries that it had there.
use Prim.Native.Nat.{ℕ, suc, ◌%◌, ◌<◌}
use mathlib.Core.Path.{◌≡◌, refl, sym, ap, ◌∙◌, subst}
use mathlib.Core.Logic.{◌≢◌}
use mathlib.Core.Bool.{true}
use lib.ListN.{drop}
use native.Mathlib.Omega.{arith}
use Rattle.memory.specs.{Sizes, Goal, Commit, Outcome, Committed, Failed, Phase, Taking, Writing, Releasing, Place, Held, Version, Owner, Entry, Memory, kind_of, position_of, steps, place, entry, held, ended, moved, sound, end_number, SP, call, phase, Given, rows_of, word, Same, ButAt, Left, final, Steps, Meets, BothSleep, PlacesChange, Failing, EndsWith}
use Rattle.memory.proofs.Codes.{not_owner, owner_inj, count_of, phase_of_lem}
use Rattle.memory.proofs.Stores.{entry-from}
use Rattle.memory.proofs.Went.{steps-not}
use Rattle.memory.proofs.SoundLasts.{call-sound}
use Rattle.memory.proofs.Answers.{one_number, numbers_given}
use Rattle.memory.proofs.StepAnswers.{ending, moved-given, ended-given}
use Rattle.memory.proofs.Stepping.{steps_leave, clashes_end}
use Rattle.memory.proofs.Runs.{not-refused}
use Rattle.memory.proofs.Tables.{same_all, but_all}

module _ (z : Sizes) (t : ℕ) (lt : t < z.tasks) (b : Memory) where
  abbrev n : ℕ
  n = (place b t).count

  abbrev e : ℕ → Entry
  e i = entry z b t i

  abbrev rec : ℕ → ℕ
  rec i = (e i).address % z.records

  abbrev next : Memory → Memory
  next m = (call z m (SP t)).after

  -- the task is in a place; nobody else's place and no entry has changed since b
  pub record Stands (m : Memory) (q : Place) : Type 0 where
    pub ok : sound z m ≡ true
    pub own : place m t ≡ q
    pub others : (u : ℕ) → u ≢ t → place m u ≡ place b u
    pub entries : m.entries ≡ b.entries

  -- a step that answers a number and leads to a place; words and records change in these ways
  pub record Stepped (m : Memory) (k : ℕ) (q : Place) (Words : (ℕ → ℕ) → (ℕ → ℕ) → Type 0) (Records : (ℕ → Held) → (ℕ → Held) → Type 0) : Type 0 where
    pub number : (call z m (SP t)).number ≡ k
    pub stands : Stands (next m) q
    pub words : Words (word m) (word (next m))
    pub records : Records (held m) (held (next m))

  -- no word has changed since b either, and the records in some way only
  pub record Since (R : ℕ → Held → Type 0) (m : Memory) (q : Place) : Type 0 where
    pub standing : Stands m q
    pub words : Same (word b) (word m)
    pub records : (r : ℕ) → R r (held m r)

  pub sets_out : {R : ℕ → Held → Type 0} → sound z b ≡ true → (p : Phase) → phase b t ≡ p → ((r : ℕ) → R r (held b r)) → Since R b (moved (place b t) p)
  sets_out ok p q f =
      record { standing = record { ok = ok; own = ap (moved (place b t)) q; others = λ u ne. refl; entries = refl }; words = λ a. refl; records = f }

  module _ {R : ℕ → Held → Type 0} {m : Memory} {k : ℕ} {q q' : Place} (L : Since R m q) where
    pub since_same : Stepped m k q' Same Same → Since R (next m) q'
    since_same S = record { standing = S.stands; words = λ a. S.words a ∙ L.words a; records = same_all R (held m) _ L.records S.records }

    pub since_but : {i : ℕ} {x : Held} → Stepped m k q' Same (ButAt i x) → R i x → Since R (next m) q'
    since_but S new = record { standing = S.stands; words = λ a. S.words a ∙ L.words a; records = but_all R (held m) _ L.records _ _ S.records new }

  module _ (m : Memory) (p : Phase) (S : Stands m (moved (place b t) p)) where
    abbrev m' : Memory
    m' = next m

    in_p : phase m t ≡ p
    in_p = phase_of_lem S.own

    count : (place m t).count ≡ n
    count = count_of S.own

    same : (i : ℕ) → entry z m t i ≡ e i
    same i = entry-from b m z S.entries t i

    left : Steps z m t m' p
    left = subst (Steps z m t m') in_p (steps_leave z m t S.ok lt)

    -- whom it meets, it meets in Taking, as the owner of this entry's record
    met : (u : ℕ) (g : Goal) (i : ℕ) → Meets z m t u g i → (kind_of p ≡ 2) × (position_of p < n) × (held m (rec (position_of p)) ≡ Owner u)
    met u g i M =
        let w : p ≡ Taking g i = sym in_p ∙ M.taking in
        let at : position_of p ≡ i = ap position_of w in (
          ap kind_of w,
          omega (arith, at, M.within, count),
          ap (λ (j : ℕ). held m (rec j)) at ∙ sym (ap (λ (f : Entry). held m (f.address % z.records)) (same i)) ∙ M.owned,
        )

    -- the number, by the phases before and after
    said : (k : ℕ) (p' : Phase) → steps p ≡ true → phase m' t ≡ p' → Given (ending n p p') k → (call z m (SP t)).number ≡ k
    said k p' moves to g =
        one_number (rows_of z m (SP t) m') _ _ (numbers_given z m (SP t))
        (not-refused z m t S.ok lt _ (drop 3 (rows_of z m (SP t) m')) k (steps-not (phase m t) (ap steps in_p ∙ moves)) (rw (count, in_p, to) g))

    stepped : {k : ℕ} {q : Place} {Words : (ℕ → ℕ) → (ℕ → ℕ) → Type 0} {Records : (ℕ → Held) → (ℕ → Held) → Type 0}
        → Left m t m' q Words Records → steps p ≡ true → Given (ending n p q.phase) k
        → ((u : ℕ) (g : Goal) (i : ℕ) → Meets z m t u g i → ⊥)
        → Stepped m k q Words Records
    stepped {k = k} {q = q} L moves g nobody =
        record {
          number = said k q.phase moves (phase_of_lem L.own) g;
          stands = record {
            ok = call-sound z m S.ok (SP t);
            own = L.own;
            others = λ u ne. (clashes_end z m t S.ok lt).1 nobody u ne ∙ S.others u ne;
            entries = L.entries ∙ S.entries;
          };
          words = L.words;
          records = L.records;
        }

  -- Taking -----------------------------------------------------------------------------------------------------------------------

  module _ (m : Memory) (g : Goal) (i : ℕ) (S : Stands m (moved (place b t) (Taking g i))) (h : i < n) where
    pub takes : held m (rec i) ≡ Version (e i).old.version → Stepped m 0 (moved (place b t) (Taking g (suc i))) Same (ButAt (rec i) (Owner t))
    takes q =
        stepped m _ S (rw (S.own, same m _ S i) at (left m _ S).1 h q) refl (moved-given n _ _ (λ o x. omega (arith, ap kind_of x)))
        (λ u g j x. not_owner (e i).old.version u (sym q ∙ (met m _ S u g j x).2))

    pub has : held m (rec i) ≡ Owner t → Stepped m 0 (moved (place b t) (Taking g (suc i))) Same Same
    has q =
        stepped m _ S (rw (S.own, same m _ S i) at (left m _ S).2 h q) refl (moved-given n _ _ (λ o x. omega (arith, ap kind_of x)))
        (λ u g j x. x.other (owner_inj u t (sym (met m _ S u g j x).2 ∙ q)))

    -- it clashes with the owner
    pub meets : (u : ℕ) → u ≢ t → held m (rec i) ≡ Owner u → (BothSleep m u g → ⊥)
        → ((call z m (SP t)).number ≡ 0) × PlacesChange m t (next m) Failing (EndsWith m u)
    meets u ne q apart =
        (said m _ S 0 (Releasing Failed 0) refl (phase_of_lem clashed.comer) (moved-given n _ _ (λ o x. omega (arith, ap kind_of x))), clashed)
      where
        meeting : Meets z m t u g i
        meeting =
            record {
              taking = in_p m _ S;
              within = omega (arith, h, count m _ S);
              owned = ap (λ (f : Entry). held m (f.address % z.records)) (same m _ S i) ∙ q;
              other = ne;
            }

        clashed : PlacesChange m t (next m) Failing (EndsWith m u)
        clashed = ((clashes_end z m t S.ok lt).0 u g i meeting).2 apart

  pub decides : (m : Memory) → Stands m (moved (place b t) (Taking Commit n)) → Stepped m 0 (moved (place b t) (Writing 0)) Same Same
  decides m S =
      stepped m _ S (rw S.own at (left m _ S).0 refl) refl (moved-given n _ _ (λ o x. omega (arith, ap kind_of x)))
      (λ u g j x. omega (arith, (met m _ S u g j x).1))

  -- Writing ----------------------------------------------------------------------------------------------------------------------

  pub writes : (m : Memory) (i : ℕ) → Stands m (moved (place b t) (Writing i)) → i < n
      → Stepped m 0 (moved (place b t) (Writing (suc i))) (ButAt (e i).address (e i).new.value) Same
  writes m i S h =
      stepped m _ S (rw (S.own, same m _ S i) at (left m _ S).1 h) refl (moved-given n _ _ (λ o x. omega (arith, ap kind_of x)))
      (λ u g j x. omega (arith, (met m _ S u g j x).0))

  pub wrote_all : (m : Memory) → Stands m (moved (place b t) (Writing n)) → Stepped m 0 (moved (place b t) (Releasing Committed 0)) Same Same
  wrote_all m S =
      stepped m _ S (rw S.own at (left m _ S).0 refl) refl (moved-given n _ _ (λ o x. omega (arith, ap kind_of x)))
      (λ u g j x. omega (arith, (met m _ S u g j x).0))

  -- Releasing --------------------------------------------------------------------------------------------------------------------

  module _ (m : Memory) (o : Outcome) (i : ℕ) (S : Stands m (moved (place b t) (Releasing o i))) (h : i < n) where
    pub frees : held m (rec i) ≡ Owner t → Stepped m 0 (moved (place b t) (Releasing o (suc i))) Same (ButAt (rec i) (Version (final o (e i))))
    frees q =
        stepped m _ S (rw (S.own, same m _ S i) at (left m _ S).1 h q) refl (moved-given n _ _ (λ o x. omega (arith, h, ap position_of x)))
        (λ u g j x. omega (arith, (met m _ S u g j x).0))

    pub passes : held m (rec i) ≢ Owner t → Stepped m 0 (moved (place b t) (Releasing o (suc i))) Same Same
    passes q =
        stepped m _ S (rw (S.own, same m _ S i) at (left m _ S).2 h q) refl (moved-given n _ _ (λ o x. omega (arith, h, ap position_of x)))
        (λ u g j x. omega (arith, (met m _ S u g j x).0))

  pub ends : (m : Memory) (o : Outcome) → Stands m (moved (place b t) (Releasing o n)) → Stepped m (end_number o) ended Same Same
  ends m o S = stepped m _ S (rw S.own at (left m _ S).0 refl) refl (ended-given n o) (λ u g j x. omega (arith, (met m _ S u g j x).0))
