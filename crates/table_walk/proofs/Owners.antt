-- Owners and their entries: what the walk marks as owned, and that this is what every record asks.
use Rattle.std.specs.Prelude.{if◌then◌else◌}
use Prim.Native.Nat.{ℕ, zero, suc, ◌+◌, ◌%◌, ◌≤◌, ◌<◌}
use native.Mathlib.Omega.{arith}
use native.Mathlib.Numerals.{add-one}
use mathlib.Core.Path.{◌≡◌, refl, sym, ap, ◌∙◌}
use mathlib.Core.Logic.{⊎_elim}
use mathlib.Core.List.{List, []}
use mathlib.Core.Bool.{Bool, true, false, ◌&&◌, ◌||◌, or-false}
use lib.ListN.{length, get_or, set, length-set}
use lib.Dec.{leb, ltb, eqb}
use borrow.Author.Tests.{lt-ltb, le-ltb, le-leb, lt-leb, eq-eqb, ne_eqb, leb-true, ltb-true, ltb-false}
use Rattle.memory.specs.declared.Sizes.{Sizes}
use Rattle.memory.specs.declared.Held.{Held}
use Rattle.memory.specs.declared.Held.TheVariants.{Version, Owner}
use Rattle.memory.specs.declared.Place.{Place}
use Rattle.memory.specs.declared.Entry.{Entry}
use Rattle.memory.specs.Pieces.{Memory, steps, held_of, number_of, held, first_owner, place, place_of, entry, limit}
use Rattle.memory.specs.Sound.{all_below, some_below, counts_from, place_ok, owner_ok, held_ok, task_ok}
use Rattle.table_parts.specs.Parts.{record_ok}
use Rattle.table_places.specs.Places.{owns_from}
use Rattle.table_walk.specs.Walk.{records_ok}
use Rattle.memory.proofs.Tools.{same?, or_right_make, and_0, and_1, below_at}
use Rattle.memory.proofs.Codes.{number_back, owner_back}
use Rattle.table_parts.proofs.Tests.{and-false, below_same, after-set}

-- a row that is right has no more entries than a task may have
pub count_most : (z : Sizes) (row : List ℕ) → place_ok z row (place_of row) ≡ true → get_or row 0 0 ≤ limit z
unfolding place_ok place_of
count_most z row h = leb-true (get_or row 0 0) (limit z) (search (and_0, and_1))

-- of the first i entries, one from place `from` on is on record r
unfoldable pub on_record : ℕ → ℕ → ℕ → (ℕ → Entry) → ℕ → Bool
on_record n r from e i = some_below i (λ j. leb from j && eqb ((e j).address % n) r)

none : (n : ℕ) (p : ℕ → Bool) → ((i : ℕ) → i < n → p i ≡ false) → some_below n p ≡ false
unfolding some_below
none zero p f = refl
none (suc n) p f = rw (none n p (λ i h. f i (omega arith)), f n (omega arith))

-- over all entries of a task this is what an owner needs
owner_all : (z : Sizes) (r : ℕ) (q : Place) (e : ℕ → Entry) → q.count ≤ limit z → on_record z.records r (owns_from z q) e q.count ≡ owner_ok z.records r q e
unfolding on_record owns_from owner_ok
owner_all z r q e h = go (steps q.phase)
  where
    go : (b : Bool)
        → some_below q.count (λ j. leb (if b then counts_from q.phase else limit z) j && eqb ((e j).address % z.records) r)
        ≡ (b && some_below q.count (λ j. leb (counts_from q.phase) j && eqb ((e j).address % z.records) r))
    go true = refl
    go false = none q.count _ (λ j k. rw (lt-leb (limit z) j (omega arith)))

-- how far the walk has come in the entries of task u, where it stands at entry i of task t
unfoldable pub reach : Memory → ℕ → ℕ → ℕ → ℕ
reach m t i u = if ltb u t then (place m u).count else if eqb u t then i else 0

module _ (m : Memory) (t i u : ℕ) where
  reach_before : u < t → reach m t i u ≡ (place m u).count
  unfolding reach
  reach_before h = rw (lt-ltb u t h) refl

  reach_at : u ≡ t → reach m t i u ≡ i
  unfolding reach
  reach_at h = rw (le-ltb u t (omega arith), eq-eqb u t h)

  reach_after : t < u → reach m t i u ≡ 0
  unfolding reach
  reach_after h = rw (le-ltb u t (omega arith), ne_eqb u t (λ e. omega arith))

reach_kept : (m : Memory) (t i j u : ℕ) → (u ≡ t → ⊥) → reach m t i u ≡ reach m t j u
unfolding reach
reach_kept m t i j u d = rw (ne_eqb u t d) refl

reach_rest : (m : Memory) (t u : ℕ) → t ≤ u → reach m t 0 u ≡ 0
reach_rest m t u h = ⊎_elim (λ (e : u ≡ t). reach_at m t 0 u e) (λ (d : u ≡ t → ⊥). reach_after m t 0 u (omega arith)) (same? u t)

reach_next : (m : Memory) (t u : ℕ) → reach m t (place m t).count u ≡ reach m (t + 1) 0 u
reach_next m t u = go (ltb u (t + 1)) refl
  where
    n : ℕ
    n = (place m t).count

    go : (b : Bool) → ltb u (t + 1) ≡ b → reach m t n u ≡ reach m (t + 1) 0 u
    go true h =
        let k : u < t + 1 = ltb-true u (t + 1) h in
        ⊎_elim (λ (e : u ≡ t). reach_at m t n u e ∙ ap (λ (x : ℕ). (place m x).count) (sym e)) (λ (d : u ≡ t → ⊥). reach_before m t n u (omega arith)) (same? u t)
        ∙ sym (reach_before m (t + 1) 0 u k)
    go false h =
        let k : t + 1 ≤ u = ltb-false u (t + 1) h in
        reach_after m t n u (omega arith) ∙ sym (reach_rest m (t + 1) u k)

-- the number of an owner is that of no other
owner_number : (x t : ℕ) → held_of x ≡ Owner t → x ≡ first_owner + t
unfolding number_of
owner_number x t e = sym (number_back x) ∙ ap number_of e

number_owner : (t : ℕ) → held_of (first_owner + t) ≡ Owner t
unfolding number_of
number_owner t = owner_back t

-- record r is owned, as far as the walk has come, and its owner has an entry on it
unfoldable pub vouched : Sizes → Memory → ℕ → ℕ → ℕ → Held → Bool
vouched z m t i r (Version v) = false
vouched z m t i r (Owner u) = on_record z.records r (owns_from z (place m u)) (entry z m u) (reach m t i u)

pub record Vouched (z : Sizes) (m : Memory) (t i : ℕ) (owned : List Bool) : Type 0 where
  pub size : z.records ≤ length owned
  pub each : (r : ℕ) → r < z.records → get_or owned r false ≡ vouched z m t i r (held m r)

module _ (z : Sizes) (m : Memory) where
  pub vouched_none : {owned : List Bool} → z.records ≤ length owned → ((r : ℕ) → r < z.records → get_or owned r false ≡ false) → Vouched z m 0 0 owned
  unfolding vouched on_record some_below
  vouched_none k f = record { size = k; each = λ r h. f r h ∙ sym (go r (held m r)) }
    where
      go : (r : ℕ) (h : Held) → vouched z m 0 0 r h ≡ false
      go r (Version v) = refl
      go r (Owner u) = ap (on_record z.records r (owns_from z (place m u)) (entry z m u)) (reach_rest m 0 u (omega arith))

  module _ {t : ℕ} {owned : List Bool} where
    pub vouched_next : Vouched z m t (place m t).count owned → Vouched z m (t + 1) 0 owned
    unfolding vouched
    vouched_next v = record { size = v.size; each = λ r h. v.each r h ∙ go r (held m r) }
      where
        go : (r : ℕ) (h : Held) → vouched z m t (place m t).count r h ≡ vouched z m (t + 1) 0 r h
        go r (Version v) = refl
        go r (Owner u) = ap (on_record z.records r (owns_from z (place m u)) (entry z m u)) (reach_next m t u)

  -- entry i of task t changes nothing for record r, unless t owns r and the entry is on r and counts
  module _ (t i r : ℕ) where
    abbrev counts : Bool
    counts = leb (owns_from z (place m t)) i && eqb ((entry z m t i).address % z.records) r

    abbrev on : ℕ → Bool
    on k = on_record z.records r (owns_from z (place m t)) (entry z m t) k

    more : on (i + 1) ≡ (on i || counts)
    unfolding on_record some_below
    more = rw add-one refl

    kept : (h : Held) → (h ≡ Owner t → counts ≡ false) → vouched z m t (i + 1) r h ≡ vouched z m t i r h
    unfolding vouched
    kept (Version v) f = refl
    kept (Owner u) f =
        ⊎_elim
        (λ (e : u ≡ t). rw (e, reach_at m t (i + 1) t refl, reach_at m t i t refl) (more ∙ rw (f (ap Owner e)) (or-false _)))
        (λ (d : u ≡ t → ⊥). ap (on_record z.records r (owns_from z (place m u)) (entry z m u)) (reach_kept m t (i + 1) i u d))
        (same? u t)

    found : held m r ≡ Owner t → counts ≡ true → vouched z m t (i + 1) r (held m r) ≡ true
    unfolding vouched
    found e h = rw (e, reach_at m t (i + 1) t refl) (more ∙ or_right_make (on i) h)

  module _ {t i : ℕ} {owned : List Bool} (v : Vouched z m t i owned) where
    vouched_kept : ((r : ℕ) → held m r ≡ Owner t → counts t i r ≡ false) → Vouched z m t (i + 1) owned
    vouched_kept f = record { size = v.size; each = λ r h. v.each r h ∙ sym (kept t i r (held m r) (f r)) }

    -- the entry is before those that count; its record is another's; its record is the task's
    module _ {r : ℕ} (at : r ≡ (entry z m t i).address % z.records) where
      pub vouched_early : i < owns_from z (place m t) → Vouched z m t (i + 1) owned
      vouched_early l = vouched_kept (λ x e. rw (lt-leb (owns_from z (place m t)) i l))

      pub vouched_other : (get_or m.records r 0 ≡ first_owner + t → ⊥) → Vouched z m t (i + 1) owned
      unfolding held
      vouched_other d =
          vouched_kept (λ x e. and-false (leb (owns_from z (place m t)) i) (ne_eqb _ x (λ q. d (ap (λ (y : ℕ). get_or m.records y 0) (at ∙ q) ∙ owner_number _ t e))))

      pub vouched_more : r < z.records → owns_from z (place m t) ≤ i → get_or m.records r 0 ≡ first_owner + t → Vouched z m t (i + 1) (set owned r true)
      unfolding held
      vouched_more k l e =
          record {
            size = omega (arith, length-set owned r true, v.size);
            each = λ x h.
                ⊎_elim
                (λ w. w.1 ∙ sym (found t i x (ap (λ (y : ℕ). held m y) w.0 ∙ ap held_of e ∙ number_owner t) (rw (le-leb (owns_from z (place m t)) i l) (eq-eqb _ x (sym at ∙ sym w.0)))))
                (λ w. w.1 ∙ v.each x h ∙ sym (kept t i x (held m x) (λ q. and-false (leb (owns_from z (place m t)) i) (ne_eqb _ x (λ p. w.0 (sym (at ∙ p)))))))
                (after-set owned r x true false (omega (arith, v.size)));
          }

  count_few : (u : ℕ) → task_ok z m u ≡ true → (place m u).count ≤ limit z
  unfolding task_ok place place_of
  count_few u h = count_most z (get_or m.places u []) (search and_0)

  owned-same : all_below z.tasks (λ t. task_ok z m t) ≡ true → (r : ℕ) (h : Held) → record_ok h (vouched z m z.tasks 0 r h) ≡ held_ok z m r h
  unfolding record_ok held_ok vouched on_record some_below
  owned-same ok r (Version v) = refl
  owned-same ok r (Owner u) = go (ltb u z.tasks) refl
    where
      go : (b : Bool) → ltb u z.tasks ≡ b
          → on_record z.records r (owns_from z (place m u)) (entry z m u) (reach m z.tasks 0 u) ≡ (b && owner_ok z.records r (place m u) (entry z m u))
      go true h =
          let k : u < z.tasks = ltb-true u z.tasks h in
          rw (reach_before m z.tasks 0 u k) (owner_all z r (place m u) (entry z m u) (count_few u (below_at z.tasks _ ok u k)))
      go false h = rw (reach_rest m z.tasks u (ltb-false u z.tasks h)) refl

  -- at the walk's end the marks are what each record asks of its owner
  pub records-same : {owned : List Bool} → all_below z.tasks (λ t. task_ok z m t) ≡ true → Vouched z m z.tasks 0 owned
      → records_ok m.records owned z.records ≡ all_below z.records (λ r. held_ok z m r (held m r))
  unfolding records_ok held
  records-same {owned} ok v = below_same _ _ z.records (λ r h. ap (record_ok (held m r)) (v.each r h) ∙ owned-same ok r (held m r))
