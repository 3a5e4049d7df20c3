-- What a clash makes of the places, as the claims say it: of the owner, of those to whom its list leads, and of nobody else.
use Rattle.std.specs.Prelude.{if◌then◌else◌}
use Prim.Native.Nat.{ℕ, suc, ◌%◌, ◌^◌, ◌<◌}
use mathlib.Core.Path.{◌≡◌, refl, sym, ap, ◌∙◌, subst⁻¹}
use mathlib.Core.Logic.{◌⊎◌, inl, inr, ◌≢◌, ◌↔◌, ⊎_elim}
use mathlib.Core.List.{[]}
use mathlib.Core.Bool.{Bool, true, false, not, ◌&&◌, ◌||◌, true≢false}
use lib.Dec.{eqb, ltb}
use lib.ListN.{length, get_or}
use lib.Seq.{get_or-set_other}
use native.Mathlib.Omega.{arith}
use native.Mathlib.Nat.{mod-lt}
use borrow.Author.Tests.{ltb-true, ltb-false, eqb-true, eq-eqb, not-true}
use Rattle.memory.specs.{Sizes, Sleep, Failed, Woken, Phase, Idle, Open, Taking, Asleep, Writing, Releasing, Place, Owner, Entry, Memory, row_of, place, entry, entries, held, index_on, moved, set_place, move, sound, has, fails, wakes, ends_with, ended_with, end_all, ending, clash, version_on, joined, ◌∈◌, Led, itself, onward, Clashed, struck, Ending, EndsWith, OneVersion, Joining}
use Rattle.memory.proofs.Tools.{both, and_0, and_1, and_make, or_left_make, or_right_make, same?}
use Rattle.memory.proofs.Sets.{in_set, set_in, small_in}
use Rattle.memory.proofs.Leads.{or_cases, led_cases, ends_led, led_ends}
use Rattle.memory.proofs.Codes.{is_asleep}
use Rattle.memory.proofs.Find.{index_found, index-some}
use Rattle.memory.proofs.Stores.{place_same}
use Rattle.memory.proofs.Clashes.{end_all_stays, place_stays, place-ends, clash_cases, clash_other}
use Rattle.memory.proofs.Facts.{some_record, in_places, owner_task, owner_entry, joins_small, joined_in, joined_small, none_on}
use Rattle.memory.proofs.Fresh.{entry_in, agreed}

-- Row by row ----------------------------------------------------------------------------------------------

-- one who takes and fails
failed_clashed : (q : Place) → fails q.phase ≡ true → Clashed q (moved q (Releasing Failed 0))
failed_clashed q c = record { count = refl; phase = sym (ap (λ (b : Bool). if b then Releasing Failed 0 else if wakes q.phase then Releasing Woken 0 else q.phase) c); joins = λ w j. j }

-- one who ends with a sleeper
ended_clashed : (z : Sizes) (ends : ℕ → Bool) (q : Place) → Clashed q (ended_with z ends q)
unfolding ended_with
ended_clashed z ends q =
    record { count = refl; phase = refl; joins = λ w j. and_0 (has q.joins.bits w) (not (ends w)) (in_set z.tasks _ w j).1 }

module _ (z : Sizes) (m : Memory) (ok : sound z m ≡ true) (w : ℕ) (inside : w < length m.places) where
  -- a row is as it was, or it is of one to whom the list leads
  abbrev RowOk : Memory → ℕ → Type 0
  RowOk m₁ u = (get_or m₁.places u [] ≡ get_or m.places u []) ⊎ (Led m w u × Clashed (place m u) (place m₁ u))

  fails-row : fails (place m w).phase ≡ true → (u : ℕ) → RowOk (move m w (Releasing Failed 0)) u
  unfolding move
  fails-row c u = go (same? u w)
    where
      q : Place
      q = moved (place m w) (Releasing Failed 0)

      go : (u ≡ w) ⊎ (u ≢ w) → RowOk (set_place m w q) u
      go (inl d) =
          inr (subst⁻¹ (λ (x : ℕ). Led m w x × Clashed (place m x) (place (set_place m w q) x)) d
          (itself, subst⁻¹ (λ (k : Place). Clashed (place m w) k) (place_same m w q inside) (failed_clashed (place m w) c)))
      go (inr d) = inl (unfold set_place in get_or-set_other m.places w u (row_of q) [] d)

  ends-row : (u : ℕ) → RowOk (end_all z m (ends_with z m w) z.tasks) u
  ends-row u = go (both (ends_with z m w u)) (ltb u z.tasks) refl
    where
      go : (ends_with z m w u ≡ true) ⊎ (ends_with z m w u ≡ false) → (b : Bool) → ltb u z.tasks ≡ b → RowOk (end_all z m (ends_with z m w) z.tasks) u
      go (inl e) true c =
          inr (
            ends_led m z w u e,
            subst⁻¹ (λ (k : Place). Clashed (place m u) k) (place-ends z m (ends_with z m w) z.tasks u (ltb-true _ _ c) e (in_places z m ok u (ltb-true _ _ c)))
                (ended_clashed z (ends_with z m w) (place m u)),
          )
      go (inl e) false c = inl (end_all_stays z m (ends_with z m w) z.tasks u (λ h. absurd (omega (arith, h, ltb-false u z.tasks c))))
      go (inr e) b c = inl (end_all_stays z m (ends_with z m w) z.tasks u (λ h. e))

  pub clash_rows : (u : ℕ) → RowOk (clash z m w) u
  clash_rows u = clash_cases z m w (λ m₁. RowOk m₁ u) (λ c. fails-row c u) (λ c. ends-row u) (inl refl)

-- Place by place -------------------------------------------------------------------------------------------------------------------------

ending-struck : (p : Phase) → ending p ≡ struck p
ending-struck Idle = refl
ending-struck Open = refl
ending-struck (Taking g i) = refl
ending-struck Asleep = refl
ending-struck (Writing i) = refl
ending-struck (Releasing o i) = refl

module _ (z : Sizes) (m : Memory) (ok : sound z m ≡ true) (u : ℕ) where
  pub led_task : (v : ℕ) → u < z.tasks → Led m u v → v < z.tasks
  led_task v h l = ⊎_elim (λ e. omega (arith, h, e)) (λ k. (joined_in z m ok v k.0 k.2).0) (led_cases m l)

  -- those who end are those to whom the list leads
  led_in : (v : ℕ) → Led m u v → ends_with z m u v ≡ true
  led_in v l = led_ends m z (joined_small z m ok) u v l

  not_led : (v : ℕ) → (Led m u v → ⊥) → ends_with z m u v ≡ false
  not_led v none = ⊎_elim (λ e. absurd (none (ends_led m z u v e))) (λ e. e) (both (ends_with z m u v))

  -- one who is woken with the sleeper u, or failed with it
  ended-ends : (q : Place) → q.joins.bits < 2 ^ z.tasks → Ending m u q (ended_with z (ends_with z m u) q)
  unfolding ended_with
  ended-ends q small =
      record {
        count = refl;
        phase = ending-struck q.phase;
        joins = λ w. (
          λ j. let k = (in_set z.tasks (λ w. has q.joins.bits w && not (ends_with z m u w)) w j).1 in
              (and_0 (has q.joins.bits w) _ k, λ l. true≢false (sym (led_in w l) ∙ not-true _ (and_1 (has q.joins.bits w) _ k))),
          λ k. set_in z.tasks (λ w. has q.joins.bits w && not (ends_with z m u w)) w (small_in z.tasks q.joins.bits w small k.0)
              (and_make k.0 (ap not (not_led w k.1))),
        );
      }

  -- one who does not sleep has no list
  led_alone : wakes (place m u).phase ≡ false → {v : ℕ} → Led m u v → v ≡ u
  led_alone c itself = refl
  led_alone c (onward {w = w} t l j) =
      absurd (none_on z m ok w (ap (λ (x : ℕ). wakes (place m x).phase) (led_alone c l) ∙ c) t j)

  alone-ends : wakes (place m u).phase ≡ false → Ending m u (place m u) (moved (place m u) (struck (place m u).phase))
  alone-ends c =
      record {
        count = refl;
        phase = refl;
        joins = λ w. (
          λ j. (j, λ l. none_on z m ok w (ap (λ (x : ℕ). wakes (place m x).phase) (led_alone c l) ∙ c) u j),
          λ k. k.0,
        );
      }

  -- the owner's own place, where it does not sleep
  struck-alone : u < z.tasks → wakes (place m u).phase ≡ false → place (clash z m u) u ≡ moved (place m u) (struck (place m u).phase)
  unfolding clash move
  struck-alone h c = go (place m u).phase refl c
    where
      P : Phase → Type 0
      P p =
          place (if fails p then set_place m u (moved (place m u) (Releasing Failed 0)) else if wakes p then end_all z m (ends_with z m u) z.tasks else m) u
          ≡ moved (place m u) (struck p)

      go : (p : Phase) → (place m u).phase ≡ p → wakes p ≡ false → P p
      go Idle e w = ap (moved (place m u)) e
      go Open e w = ap (moved (place m u)) e
      go (Taking g i) e w = place_same m u _ (in_places z m ok u h)
      go Asleep e w = absurd (true≢false w)
      go (Writing i) e w = ap (moved (place m u)) e
      go (Releasing o i) e w = ap (moved (place m u)) e

  woken_all : wakes (place m u).phase ≡ true → clash z m u ≡ end_all z m (ends_with z m u) z.tasks
  unfolding clash
  woken_all c =
      ap (λ (p : Phase). if fails p then move m u (Releasing Failed 0) else if wakes p then end_all z m (ends_with z m u) z.tasks else m)
      (is_asleep (place m u).phase c)

  pub clash-ends : u < z.tasks → (v : ℕ) → EndsWith m u v (place m v) (place (clash z m u) v)
  clash-ends h v = go (both (wakes (place m u).phase))
    where
      go : (wakes (place m u).phase ≡ true) ⊎ (wakes (place m u).phase ≡ false) → EndsWith m u v (place m v) (place (clash z m u) v)
      go (inl c) =
          let whole : clash z m u ≡ end_all z m (ends_with z m u) z.tasks = woken_all c in
          subst⁻¹ (λ (k : Memory). EndsWith m u v (place m v) (place k v)) whole (
            λ l. let d = led_task v h l in
                subst⁻¹ (λ (k : Place). Ending m u (place m v) k) (place-ends z m (ends_with z m u) z.tasks v d (led_in v l) (in_places z m ok v d)) (ended-ends (place m v) (joins_small z m ok v d)),
            λ none. place_stays z m (ends_with z m u) z.tasks v (λ d. not_led v none),
          )
      go (inr c) = (
        λ l. subst⁻¹ (λ (x : ℕ). Ending m u (place m x) (place (clash z m u) x)) (led_alone c l)
            (subst⁻¹ (λ (k : Place). Ending m u (place m u) k) (struck-alone h c) (alone-ends c)),
        λ none. clash_other z m u v (λ e. none (subst⁻¹ (λ (x : ℕ). Led m u x) e itself)) (λ w. absurd (true≢false (sym w ∙ c))),
      )

-- The version that an owner has seen -------------------------------------------------------------------------------------------------------

module _ (z : Sizes) (m : Memory) (ok : sound z m ≡ true) (u : ℕ) (lt : u < z.tasks) where
  pub version_on_lem : (r : ℕ) (f : Entry) → f ∈ entries z m u → f.address % z.records ≡ r → version_on z m u r ≡ f.old.version
  unfolding version_on index_on
  version_on_lem r f k q =
      let on : Entry → Bool = λ e. eqb (e.address % z.records) r in
      let x = index_found on (entries z m u) (index-some on (entries z m u) f k (eq-eqb _ _ q)) in
      (agreed z m ok u lt _ f x.0 k (eqb-true _ _ x.1 ∙ sym q)).0

-- the owner of an entry's record has seen it at that entry's version
pub one_version : (z : Sizes) (m : Memory) (ok : sound z m ≡ true) (t i u : ℕ) → held m ((entry z m t i).address % z.records) ≡ Owner u
    → OneVersion z m t u i ↔ (version_on z m u ((entry z m t i).address % z.records) ≡ (entry z m t i).old.version)
one_version z m ok t i u e =
    let r = (entry z m t i).address % z.records in
    let inside = mod-lt (entry z m t i).address (some_record z m ok) in
    let w = owner_task z m ok r u inside e in
    let (j, d, on) = owner_entry z m ok r u inside e in (
      λ x. version_on_lem z m ok u w r x.0 x.1 x.2 ∙ x.3,
      λ v. (entry z m u j, entry_in z m ok u w j d, on, sym (version_on_lem z m ok u w r (entry z m u j) (entry_in z m ok u w j d) on) ∙ v),
    )

-- Who joins a sleeper ---------------------------------------------------------------------------------------------------------------------

pub joined_joins : (z : Sizes) (u : ℕ) (q : Place) (i : ℕ) → q.joins.bits < 2 ^ z.tasks → u < z.tasks → Joining u i q (joined z u q (Taking Sleep (suc i)))
unfolding joined
joined_joins z u q i small h =
    let on : ℕ → Bool = λ w. eqb w u || has q.joins.bits w in
    record {
      count = refl;
      phase = refl;
      joins = λ w. (
        λ j. ⊎_elim (λ e. inl (eqb-true w u e)) (λ e. inr e) (or_cases (eqb w u) (has q.joins.bits w) (in_set z.tasks on w j).1),
        ⊎_elim (λ e. set_in z.tasks on w (omega (arith, h, e)) (or_left_make (has q.joins.bits w) (eq-eqb w u e)))
            (λ e. set_in z.tasks on w (small_in z.tasks q.joins.bits w small e) (or_right_make (eqb w u) e)),
      );
    }
