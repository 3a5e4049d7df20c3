-- A task whose Commit was just answered takes up to a record that another task owns, clashes with it, and lets go: all is as before,
-- but for the one met and those who end with it.
use Prim.Native.Nat.{ℕ, suc, ◌+◌, ◌%◌, ◌<◌}
use mathlib.Core.Path.{◌≡◌, refl, sym, ap, ◌∙◌, subst, subst⁻¹}
use mathlib.Core.Logic.{inl, inr, ◌≢◌, ⊎_elim}
use mathlib.Core.Bool.{true}
use native.Mathlib.Omega.{arith}
use Rattle.memory.specs.{Sizes, Commit, Failed, Taking, Place, goal_of, Version, Owner, Entry, Memory, place, entry, held, ended, sound, SP, call, has, Joined, phase, Ending, EndsWith, PlacesChange, Failing}
use Rattle.memory.proofs.Tools.{everywhere}
use Rattle.memory.proofs.Codes.{not_owner, count_of, phase_of_lem}
use Rattle.memory.proofs.Stores.{held-from, entry-from}
use Rattle.memory.proofs.Leads.{led_from}
use Rattle.memory.proofs.Facts.{owner_entry}
use Rattle.memory.proofs.SoundLasts.{call-sound}
use Rattle.memory.proofs.Tables.{words_back, records_back}
use Rattle.memory.proofs.Runs.{Reaches, goes_on, reaches}
use Rattle.memory.proofs.OneStep.{meets}
use Rattle.memory.proofs.LetGo.{LetGo, lets_go, freed, kept}
use Rattle.memory.proofs.Takes.{Free, Taken, Took, takes_then}

-- Where the same are on lists, the same end with u --------------------------------------------------------------------------------------------

module _ (m m' : Memory) (there : (t w : ℕ) → Joined m t w → Joined m' t w) (back : (t w : ℕ) → Joined m' t w → Joined m t w) (u : ℕ) where
  ending-from : {q q' : Place} → Ending m u q q' → Ending m' u q q'
  ending-from E =
      record {
        count = E.count;
        phase = E.phase;
        joins = λ w. (
          λ h. let k = (E.joins w).0 h in (k.0, λ l. k.1 (led_from m' m back u l)),
          λ k. (E.joins w).1 (k.0, λ l. k.1 (led_from m m' there u l)),
        );
      }

  pub ends-from : (v : ℕ) {q q' : Place} → EndsWith m u v q q' → EndsWith m' u v q q'
  ends-from v (led, apart) = (λ l. ending-from (led (led_from m' m back u l)), λ n. apart (λ l. n (led_from m m' there u l)))

-- The fall -------------------------------------------------------------------------------------------------------------------------------------

-- against the table at the beginning
pub record Fell (z : Sizes) (c : Memory) (t u : ℕ) (m : Memory) : Type 0 where
  pub own : place m t ≡ ended
  pub others : (w : ℕ) → w ≢ t → EndsWith c u w (place c w) (place m w)
  pub words : m.words ≡ c.words
  pub records : m.records ≡ c.records
  pub entries : m.entries ≡ c.entries

module _ (z : Sizes) (t : ℕ) (lt : t < z.tasks) (c : Memory) (ok : sound z c ≡ true) (none : (r : ℕ) → r < z.records → held c r ≢ Owner t) where
  abbrev n : ℕ
  n = (place c t).count

  abbrev rec : ℕ → ℕ
  rec j = (entry z c t j).address % z.records

  module _ (i : ℕ) (hi : i < n) (u : ℕ) (ne : u ≢ t) (met : held c (rec i) ≡ Owner u) (m : Memory) (T : Took z t lt c m i) where
    abbrev d : Memory
    d = (call z m (SP t)).after

    okd : sound z d ≡ true
    okd = call-sound z m T.standing.ok (SP t)

    owns : held m (rec i) ≡ Owner u
    owns = ⊎_elim (λ x. x ∙ met) (λ x. not_owner (entry z c t i).old.version u (sym (x.1 i hi refl) ∙ met)) (T.records (rec i))

    meeting : ((call z m (SP t)).number ≡ 0) × PlacesChange m t d Failing (EndsWith m u)
    meeting = meets z t lt c m Commit i T.standing hi u ne owns (λ x. let k : ◌≡◌ {A = ℕ} 0 1 = ap goal_of x.0 in omega (arith, k))

    abbrev clashed : PlacesChange m t d Failing (EndsWith m u)
    clashed = meeting.1

    -- the takes put nobody on a list, and take nobody off
    same_joins : (w : ℕ) → (place m w).joins.bits ≡ (place c w).joins.bits
    same_joins =
        everywhere (λ w. (place m w).joins.bits ≡ (place c w).joins.bits) t (ap (λ (q : Place). q.joins.bits) T.standing.own)
        (λ w ne. ap (λ (q : Place). q.joins.bits) (T.standing.others w ne))

    ends_so : (w : ℕ) → w ≢ t → EndsWith c u w (place c w) (place d w)
    ends_so w nt =
        ends-from m c (λ x y j. subst (λ (s : ℕ). has s y ≡ true) (same_joins x) j) (λ x y j. subst⁻¹ (λ (s : ℕ). has s y ≡ true) (same_joins x) j) u w
        (subst (λ (q : Place). EndsWith m u w q (place d w)) (T.standing.others w nt) (clashed.others w nt))

    same-entry : (k : ℕ) → entry z d t k ≡ entry z c t k
    same-entry k = entry-from c d z (clashed.entries ∙ T.standing.entries) t k

    count_d : (place d t).count ≡ n
    count_d = count_of clashed.comer ∙ count_of T.standing.own

    fell : (m' : Memory) → LetGo z t lt Failed d okd m' ended → Fell z c t u m'
    fell m' L =
        record {
          own = L.standing.own;
          others = λ w nt. subst⁻¹ (λ (q : Place). EndsWith c u w (place c w) q) (L.standing.others w nt) (ends_so w nt);
          words = words_back z d m' okd L.standing.ok L.words ∙ clashed.words ∙ words_back z c m ok T.standing.ok T.words;
          records = records_back z c m' ok L.standing.ok (λ r h. back r h (T.records r));
          entries = L.standing.entries ∙ clashed.entries ∙ T.standing.entries;
        }
      where
        same_d : (r : ℕ) → held d r ≡ held m r
        same_d = held-from m d clashed.records

        back : (r : ℕ) → r < z.records → Taken z t lt c r (held m r) → held m' r ≡ held c r
        back r h (inl x) = kept z t lt Failed d okd m' L r (λ q. none r h (sym (same_d r ∙ x) ∙ q)) ∙ same_d r ∙ x
        back r h (inr x) =
            let mine = same_d r ∙ x.0 in
            let k = owner_entry z d okd r t h mine in
            freed z t lt Failed d okd m' L r h mine k.0 k.1 k.2
            ∙ ap (λ (f : Entry). Version f.old.version) (same-entry k.0)
            ∙ sym (x.1 k.0 (omega (arith, k.1, count_d)) (ap (λ (f : Entry). f.address % z.records) (sym (same-entry k.0)) ∙ k.2))

    lets_go_then : Reaches z t d n 22 (Fell z c t u)
    lets_go_then =
        subst (λ (k : ℕ). Reaches z t d k 22 (Fell z c t u)) count_d
        (reaches z t d 22 (Fell z c t u) _ fell _ (lets_go z t lt Failed d okd (phase_of_lem clashed.comer)))

  -- i takes, the step that meets, n + 1 to the end
  pub falls : phase c t ≡ Taking Commit 0 → (i : ℕ) → i < n → Free z t lt c i → (u : ℕ) → u ≢ t → held c (rec i) ≡ Owner u
      → Reaches z t c (i + suc n) 22 (Fell z c t u)
  falls q i hi free u ne met =
      takes_then z t lt c ok i (omega arith) free (suc n) 22 (Fell z c t u) (λ m T.
      goes_on z t m 22 (Fell z c t u) n (meeting i hi u ne met m T).0 (lets_go_then i hi u ne met m T)) q
