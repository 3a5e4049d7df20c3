-- What a request and an opening leave where they are not refused.
use Rattle.std.specs.Prelude.{if◌then◌else◌}
use Prim.Native.Nat.{ℕ, suc, ◌+◌, ◌%◌, ◌<◌, ◌≤◌}
use mathlib.Core.Path.{◌≡◌, refl, sym, ap, ◌∙◌, subst⁻¹}
use mathlib.Core.Logic.{inl, inr}
use mathlib.Core.List.{List, map}
use mathlib.Core.Bool.{Bool, true, false}
use lib.Dec.{eqb}
use lib.ListN.{length, length-replicate}
use native.Mathlib.Omega.{arith}
use borrow.Author.Tests.{eq-eqb, ne_eqb}
use Rattle.memory.specs.{Sizes, Commit, Sleep, Phase, Open, Taking, Place, Entry, Memory, is_idle, is_open, place, moved, bare, ended, entries, run, run_start, limit, set_place, move, top_version, index_of, logical, sound, Reply, start, abort, commit, wait, fresh, known, added, overtaken, opened, row_of, row_of_entry, blank, read, written, rewrite, store, write, ST, CM, AB, WT, SP, RD, WR, call, ours, ◌∈◌, phase, OnRecord, Fresh, Entered, Written, RequestsLeave, Opened, OpeningLeaves}
use Rattle.memory.specs.Effects.{Goes, Leaves}
use Rattle.memory.proofs.SoundLasts.{opened_idle}
use Rattle.memory.proofs.Tools.{if_cases}
use Rattle.memory.proofs.Codes.{count_of, phase_of_lem}
use Rattle.memory.proofs.Cases.{no_refusal, opening_cases, asked_cases, addressed_cases}
use Rattle.memory.proofs.Stores.{place_same, rewrite_places, rewrite_all, place-from}
use Rattle.memory.proofs.Facts.{in_places, run_fits}
use Rattle.memory.proofs.Fresh.{no_entry, Beside, beside, added-place, added-run, added-fits, agreed}
use Rattle.memory.proofs.Answers.{not_new}

-- The requests -----------------------------------------------------------------------------------------------------------------------

is-written : (n a v : ℕ) (e : Entry) → Written n a v e (written n a v e)
unfolding written
is-written n a v e =
    record {
      address = refl;
      old = refl;
      value = λ q. ap (λ (b : Bool). if b then v else e.new.value) (eq-eqb _ _ q);
      other_value = λ q. ap (λ (b : Bool). if b then v else e.new.value) (ne_eqb _ _ q);
      version = λ q. ap (λ (b : Bool). if b then suc e.old.version else e.new.version) (eq-eqb _ _ q);
      other_version = λ q. ap (λ (b : Bool). if b then suc e.old.version else e.new.version) (ne_eqb _ _ q);
    }

module _ (z : Sizes) (m : Memory) (t : ℕ) where
  module _ (ok : sound z m ≡ true) (lt : t < z.tasks) where
    set_to : (q : Place) → Goes m t (set_place m t q) q
    set_to q = (place_same m t q (in_places z m ok t lt), unfold set_place in refl)

    moves_to : (p : Phase) → Goes m t (move m t p) (moved (place m t) p)
    unfolding move
    moves_to p = set_to (moved (place m t) p)

    module _ (a : ℕ) where
      is-fresh : overtaken z m t a ≡ false → Fresh z m t a (fresh z m t a)
      unfolding fresh
      is-fresh o =
          record {
            address = refl;
            old = refl;
            value = refl;
            others = λ f k q. others f k q (beside z m ok t lt a o);
            none = λ no_one. nobody no_one (beside z m ok t lt a o);
          }
        where
          x : Entry
          x = fresh z m t a

          others : (f : Entry) → f ∈ entries z m t → f.address % z.records ≡ a % z.records → Beside z m ok t lt a → x.new.version ≡ f.new.version
          others f k q (inl (e, j, s, v, w)) = w ∙ (agreed z m ok t lt e f j k (s ∙ sym q)).1
          others f k q (inr (no_one, w)) = absurd (no_one f k q)

          nobody : (OnRecord z m t a (λ v. Unit {0}) → ⊥) → Beside z m ok t lt a → x.new.version ≡ (logical z m a).version
          nobody no_one (inl (e, j, s, v, w)) = absurd (no_one (e, j, s, tt))
          nobody no_one (inr (_, w)) = w

      entered-known : index_of a (entries z m t) < (place m t).count → Entered z m t a (entries z m t)
      entered-known k = record { known = λ _. refl; new = λ n. absurd (not_new z m t a ok lt k n) }

      entered_new : (place m t).count ≤ index_of a (entries z m t) → (place m t).count < limit z → overtaken z m t a ≡ false
          → Entered z m t a (run z (added z m t a) t (suc (place m t).count))
      entered_new k room o =
          record {
            known = λ no-new. absurd (no-new (no_entry z m ok t lt a k));
            new = λ _. (fresh z m t a, is-fresh o, added-run z m ok t lt a room);
          }

      added-entries : entries z (added z m t a) t ≡ run z (added z m t a) t (suc (place m t).count)
      added-entries = ap (λ (q : Place). run z (added z m t a) t q.count) (added-place z m ok t lt a)

  module _ (a v : ℕ) where
    abbrev Stored : Reply → Type 0
    Stored r = r.number ≡ 0 → (phase r.after t ≡ Open)
        × (es : List Entry) × Entered z m t a es × (f : Entry → Entry) × ((e : Entry) → Written z.records a v e (f e)) × (entries z r.after t ≡ map f es)

    abbrev Answered : Reply → Type 0
    Answered r = (r.number ≡ 9 → Goes m t r.after ended) × Stored r

    stored : (with_it : Memory) (n : ℕ) (e : Entry) → phase with_it t ≡ Open → n ≡ (place with_it t).count → run_start z t + n ≤ length with_it.entries
        → Entered z m t a (run z with_it t n) → Answered (store z m with_it t a v n e)
    unfolding store
    stored with_it n e op c fits E =
        if_cases Answered (eqb e.old.version top_version) _ _ (λ d. (λ x. absurd (omega (arith, x)), λ x. absurd (omega (arith, x)))) (λ d.
        (λ x. absurd (omega (arith, x)), λ x. (phase_of_lem here ∙ op, run z with_it t n, E, f, is-written z.records a v, all)))
      where
        f : Entry → Entry
        f = written z.records a v

        m' : Memory
        m' = rewrite z with_it t f n

        here : place m' t ≡ place with_it t
        here = place-from with_it m' (rewrite_places z with_it t f n) t

        all : entries z m' t ≡ map f (run z with_it t n)
        all = ap (λ (k : ℕ). run z m' t k) (count_of here ∙ sym c) ∙ rewrite_all z with_it t f n fits

pub requests_leave : RequestsLeave ours
unfolding call start abort commit wait read write
requests_leave z m (ST t) = asked_cases z m t is_idle _ (Leaves z m (ST t)) (no_refusal 0 refl) (λ ok lt c x. set_to z m t ok lt (bare 0 Open))
requests_leave z m (CM t) = asked_cases z m t is_open _ (Leaves z m (CM t)) (no_refusal 0 refl) (λ ok lt c x. moves_to z m t ok lt (Taking Commit 0))
requests_leave z m (AB t) = asked_cases z m t is_open _ (Leaves z m (AB t)) (no_refusal 0 refl) (λ ok lt c x. set_to z m t ok lt ended)
requests_leave z m (WT t) = asked_cases z m t is_open _ (Leaves z m (WT t)) (no_refusal 0 refl) (λ ok lt c.
    if_cases (Leaves z m (WT t)) (eqb (place m t).count 0) _ _ (λ d x. absurd (omega (arith, x))) (λ d x. moves_to z m t ok lt (Taking Sleep 0)))
requests_leave z m (SP t) = tt
requests_leave z m (RD t a) =
    addressed_cases z m t a _ _ (Leaves z m (RD t a)) (λ n k. (no_refusal 9 refl n k, no_refusal 0 refl n k))
    (λ ok lt op. (λ x. set_to z m t ok lt ended, λ x. absurd (omega (arith, x))))
    (λ ok lt op w k. (λ x. absurd (omega (arith, x)), λ x. (op, entered-known z m t ok lt a k)))
    (λ ok lt op w k room o. (
      λ x. absurd (omega (arith, x)),
      λ x. (
        phase_of_lem (added-place z m ok t lt a) ∙ op,
        subst⁻¹ (Entered z m t a) (added-entries z m t ok lt a) (entered_new z m t ok lt a k room o),
      ),
    ))
requests_leave z m (WR t a v) =
    addressed_cases z m t a _ _ (Leaves z m (WR t a v)) (λ n k. (no_refusal 9 refl n k, no_refusal 0 refl n k))
    (λ ok lt op. (λ x. set_to z m t ok lt ended, λ x. absurd (omega (arith, x))))
    (λ ok lt op w k. stored z m t a v m (place m t).count (known z m t a) op refl (run_fits z m ok t lt) (entered-known z m t ok lt a k))
    (λ ok lt op w k room o. stored z m t a v (added z m t a) (suc (place m t).count) (fresh z m t a) (phase_of_lem (added-place z m ok t lt a) ∙ op)
    (sym (count_of (added-place z m ok t lt a))) (added-fits z m ok t lt a room) (entered_new z m t ok lt a k room o))

pub opened_so : (z : Sizes) (v : ℕ) → Opened z v (opened z v)
unfolding opened
opened_so z v =
    record {
      words = refl;
      records = refl;
      places = length-replicate z.tasks (row_of ended);
      idle = opened_idle z v;
      entries = unfold row_of_entry blank in refl;
    }

pub opening_leaves : OpeningLeaves ours
opening_leaves z v m =
    opening_cases z v m (λ r. r.number ≡ 0 → Opened z v r.after) (no_refusal 0 refl 2 refl) (no_refusal 0 refl 1 refl) (λ c x. opened_so z v)
