-- What the walk has found so far: a record for each of its loops, and how each begins, goes on and ends.
use Prim.Native.Nat.{ℕ, ◌+◌, ◌-◌, ◌%◌, ◌≤◌, ◌<◌}
use native.Mathlib.Omega.{arith}
use mathlib.Core.Path.{◌≡◌, refl, sym, ap, ◌∙◌}
use mathlib.Core.Logic.{◌⊎◌}
use mathlib.Core.List.{List, []}
use mathlib.Core.Bool.{Bool, true, false, ◌&&◌}
use lib.ListN.{length, get_or, set, take, drop, length-set, length-drop}
use lib.Seq.{get_or-take, get_or-drop, length-take-le}
use Rattle.memory.specs.declared.Sizes.{Sizes}
use Rattle.memory.specs.declared.Entry.{Entry}
use Rattle.memory.specs.Pieces.{Memory, place_of, place, entry_of, entry, run_start, limit, most_entries}
use Rattle.memory.specs.Sound.{all_below, apart, entry_ok, entries_ok, place_ok, task_ok}
use Rattle.table_parts.specs.Parts.{agree}
use Rattle.table_places.specs.Places.{owns_from}
use Rattle.table_walk.specs.Walk.{Fit, Room}
use Rattle.memory.proofs.Tools.{and_make}
use Rattle.memory.proofs.Limits.{most_rows, limit-some, limit_most, run-next, runs_most, runs-apart}
use Rattle.table_parts.proofs.Tests.{and-false, below_more, below_all, below_fault}
use Rattle.table_walk.proofs.Pairs.{Noted, noted_none, noted_more, none_on, fresh, latest_on, Covers, Under, covers_latest, under_more, cells_below, apart_one, apart_never, apart_all, agree_of}
use Rattle.table_walk.proofs.Owners.{Vouched, vouched_none, vouched_next, count_most}

-- The tables with a cell for each record. A table more, as one of sleepers, is a field more here, in `Kept` and in `Wide`.
pub record Marks : Type 0 where
  pub met : List ℕ
  pub owned : List Bool

-- their lengths are those lent
pub record Kept (lent now : Marks) : Type 0 where
  pub met : length now.met ≡ length lent.met
  pub owned : length now.owned ≡ length lent.owned

-- a cell for each entry of a task, and one for each record
pub record Wide (z : Sizes) (told : List ℕ) (now : Marks) : Type 0 where
  pub addresses : length told ≡ most_entries
  pub met : z.records ≤ length now.met

-- Before task t. What later requests ask of every task passed goes here.
pub record TasksFound (z : Sizes) (m : Memory) (lent : Marks) (told : List ℕ) (now : Marks) (t : ℕ) : Type 0 where
  pub within : t ≤ z.tasks
  pub right : all_below t (λ u. task_ok z m u) ≡ true
  pub marks : (r : ℕ) → r < z.records → get_or now.met r 0 < run_start z (t + 1)
  pub owned : Vouched z m t 0 now.owned
  pub wide : Wide z told now
  pub kept : Kept lent now

-- Before entry i of task t, which has n entries, each noted from its base on. `lent` are the tables as the task began.
pub record EntriesFound (z : Sizes) (m : Memory) (t n base : ℕ) (lent : Marks) (told : List ℕ) (now : Marks) (top i : ℕ) : Type 0 where
  pub within : i ≤ n
  pub most : n ≤ most_entries
  pub small : base ≤ most_rows
  pub right : entries_ok z (entry z m t) i ≡ true
  pub noted : Noted z.records (entry z m t) base told now.met i
  pub under : Under z.records (entry z m t) base now.met top i
  pub owned : Vouched z m t i now.owned
  pub wide : Wide z told now
  pub kept : Kept lent now

-- Before pair (j, i), of those that are tried: none of the first j entries has the address.
pub record PairsFound (told : List ℕ) (address until j : ℕ) : Type 0 where
  pub within : j ≤ until
  pub others : (k : ℕ) → k < j → get_or told k 0 ≡ address → ⊥

-- The task at hand: its row is right, and says how many entries it has and from which on it may own a record; where its run starts, and
-- its base, which is where the next one starts.
pub record Task (z : Sizes) (m : Memory) (t n from base start : ℕ) : Type 0 where
  pub fit : Fit z m
  pub known : t < z.tasks
  pub row : place_ok z (get_or m.places t []) (place m t) ≡ true
  pub count : (place m t).count ≡ n
  pub most : n ≤ limit z
  pub owns : from ≡ owns_from z (place m t)
  pub next : base ≡ run_start z (t + 1)
  pub first : start ≡ run_start z t

-- The entry at hand: it is right by itself, and on record r.
pub record AtEntry (z : Sizes) (m : Memory) (t n from base start : ℕ) (lent : Marks) (told : List ℕ) (now : Marks) (top i r : ℕ) : Type 0 where
  pub task : Task z m t n from base start
  pub found : EntriesFound z m t n base lent told now top i
  pub more : i < n
  pub right : entry_ok z (entry z m t i) ≡ true
  pub on : r ≡ (entry z m t i).address % z.records
  pub known : r < z.records

-- The walk went to its end, and every task is right.
pub record Passed (z : Sizes) (m : Memory) (t : ℕ) (owned : List Bool) : Type 0 where
  pub over : t ≡ z.tasks
  pub right : all_below z.tasks (λ u. task_ok z m u) ≡ true
  pub marked : Vouched z m z.tasks 0 owned

-- The walk was left at a fault of task t. Which entry it is goes here, where a request is to tell it.
pub record Fault (z : Sizes) (m : Memory) (t : ℕ) : Type 0 where
  pub known : t < z.tasks
  pub wrong : all_below z.tasks (λ u. task_ok z m u) ≡ false

pub record Ended (z : Sizes) (m : Memory) (lent now : Marks) (t : ℕ) : Type 0 where
  pub kept : Kept lent now
  pub how : Passed z m t now.owned ⊎ Fault z m t

pub kept_none : {a : Marks} → Kept a a
kept_none = record { met = refl; owned = refl }

pub kept_then : {a b c : Marks} → Kept a b → Kept b c → Kept a c
kept_then h k = record { met = k.met ∙ h.met; owned = k.owned ∙ h.owned }

-- the same tables by other names
pub kept_as : {a b c : Marks} → c.met ≡ b.met → c.owned ≡ b.owned → Kept a b → Kept a c
kept_as p q k = record { met = ap length p ∙ k.met; owned = ap length q ∙ k.owned }

-- a run as the walk has it, the entry table from where it starts
abbrev pub run : Memory → ℕ → List (List ℕ)
run m start = take (length m.entries - start) (drop start m.entries)

-- entry i of task t is apart from all before it
abbrev pub Apart : Sizes → Memory → ℕ → ℕ → Type 0
Apart z m t i = all_below i (λ k. apart z.records (entry z m t k) (entry z m t i)) ≡ true

-- those on its record have addresses up to `top`
abbrev pub Covered : Sizes → Memory → ℕ → ℕ → ℕ → ℕ → Type 0
Covered z m t i r top = Covers z.records (entry z m t) i r top

module _ {z : Sizes} {m : Memory} where
  pub tasks_none : {lent : Marks} {told : List ℕ} → Room z lent.met lent.owned → length told ≡ most_entries → TasksFound z m lent told lent 0
  unfolding all_below
  tasks_none r h =
      record {
        within = omega arith;
        right = refl;
        marks = λ x l. omega (arith, r.unmarked x l, run-next z 0, limit-some z);
        owned = vouched_none z m r.owned_size r.unowned;
        wide = record { addresses = h; met = r.met_size };
        kept = kept_none;
      }

  pub place_fault : {t : ℕ} → t < z.tasks → place_ok z (get_or m.places t []) (place_of (get_or m.places t [])) ≡ false → Fault z m t
  unfolding task_ok place
  place_fault {t} l h = record { known = l; wrong = below_fault _ z.tasks t l (rw h) }

  pub task_of : {t from base start : ℕ} → let row = get_or m.places t [] in
      Fit z m → t < z.tasks → place_ok z row (place_of row) ≡ true → from ≡ owns_from z (place_of row) → base ≡ run_start z (t + 1) → start ≡ run_start z t
      → Task z m t (get_or row 0 0) from base start
  unfolding place place_of
  task_of {t} g l h f b s =
      record { fit = g; known = l; row = h; count = refl; most = count_most z (get_or m.places t []) h; owns = f; next = b; first = s }

  -- every task was passed
  pub all_passed : {lent : Marks} {told : List ℕ} {now : Marks} {t : ℕ} {owned : List Bool} → TasksFound z m lent told now t → z.tasks ≤ t → owned ≡ now.owned → Passed z m t owned
  all_passed {t = t} f h o =
      let e : t ≡ z.tasks = omega (arith, f.within) in
      record { over = e; right = below_all _ t z.tasks f.right h f.within; marked = rw o (rw e at f.owned) }

module _ {z : Sizes} {m : Memory} {t n from base start : ℕ} (task : Task z m t n from base start) where
  -- an entry of the run is the table's
  pub inside : start + limit z ≤ length m.entries
  inside = omega (arith, runs-apart z t z.tasks task.known, task.fit.entries, task.first)

  pub run-entry : (i : ℕ) → i < limit z → entry_of (get_or (run m start) i []) ≡ entry z m t i
  unfolding entry
  run-entry i h =
      ap entry_of
      (get_or-take (length m.entries - start) (drop start m.entries) i [] (omega (arith, inside))
      ∙ get_or-drop start m.entries i [] ∙ ap (λ (s : ℕ). get_or m.entries (s + i) []) task.first)

  pub run_length : (i : ℕ) → i < limit z → i < length (run m start)
  run_length i h =
      let d = length-drop start m.entries in
      omega (arith, inside, length-take-le (length m.entries - start) (drop start m.entries) (omega arith))

  entry_wrong : {i : ℕ} → i < n → (entry_ok z (entry z m t i) && all_below i (λ k. apart z.records (entry z m t k) (entry z m t i))) ≡ false → Fault z m t
  unfolding task_ok entries_ok
  entry_wrong {i} l h =
      record {
        known = task.known;
        wrong = below_fault _ z.tasks t task.known (and-false (place_ok z (get_or m.places t []) (place m t)) (below_fault _ (place m t).count i (omega (arith, task.count)) h));
      }

  pub entry_fault : {i : ℕ} → i < n → entry_ok z (entry_of (get_or (run m start) i [])) ≡ false → Fault z m t
  entry_fault {i} l h = entry_wrong l (rw (ap (entry_ok z) (sym (run-entry i (omega (arith, task.most)))) ∙ h))

  module _ {lent : Marks} {told : List ℕ} {now : Marks} where
    pub entries_none : TasksFound z m lent told now t → EntriesFound z m t n base now told now 0 0
    unfolding entries_ok all_below
    entries_none f =
        record {
          within = omega arith;
          most = omega (arith, task.most, limit_most z);
          small = omega (arith, task.next, runs_most z (t + 1) (omega (arith, task.known, task.fit.tasks)));
          right = refl;
          noted = noted_none (λ r l. omega (arith, f.marks r l, task.next));
          under = λ k l. absurd (omega arith);
          owned = f.owned;
          wide = f.wide;
          kept = kept_none;
        }

    pub at_entry : {top i r : ℕ} → let e = entry_of (get_or (run m start) i []) in
        EntriesFound z m t n base lent told now top i → i < n → entry_ok z e ≡ true → r ≡ e.address % z.records → r < z.records
        → AtEntry z m t n from base start lent told now top i r
    at_entry {i = i} f l h q k =
        let e = run-entry i (omega (arith, task.most)) in
        record { task = task; found = f; more = l; right = ap (entry_ok z) (sym e) ∙ h; on = q ∙ ap (λ (x : Entry). x.address % z.records) e; known = k }

    pub tasks_more : {told' : List ℕ} {now' : Marks} {top i : ℕ}
        → TasksFound z m lent told now t → EntriesFound z m t n base now told' now' top i → n ≤ i → TasksFound z m lent told' now' (t + 1)
    unfolding task_ok entries_ok
    tasks_more {i = i} f g h =
        let k = task.known in
        let e : i ≡ (place m t).count = omega (arith, task.count, g.within) in
        record {
          within = omega arith;
          right = below_more _ t f.right (and_make task.row (rw e at g.right));
          marks = λ r l. omega (arith, cells_below {most = limit z} g.noted (omega (arith, g.within, task.most)) r l, task.next, run-next z (t + 1));
          owned = vouched_next z m (rw e at g.owned);
          wide = g.wide;
          kept = kept_then f.kept g.kept;
        }

module _ {z : Sizes} {m : Memory} {t n from base start : ℕ} {lent : Marks} {told : List ℕ} {now : Marks} {top i r : ℕ}
    (e : AtEntry z m t n from base start lent told now top i r) where
  pub in_run : i < limit z
  in_run = omega (arith, e.more, e.task.most)

  same_address : (entry_of (get_or (run m start) i [])).address ≡ (entry z m t i).address
  same_address = ap (λ (x : Entry). x.address) (run-entry e.task i in_run)

  pair_wrong : (j : ℕ) → j < i → apart z.records (entry z m t j) (entry z m t i) ≡ false → Fault z m t
  pair_wrong j k h = entry_wrong e.task e.more (and-false (entry_ok z (entry z m t i)) (below_fault _ i j k h))

  pub address_fault : (j : ℕ) → j < i → get_or told j 0 ≡ (entry_of (get_or (run m start) i [])).address → Fault z m t
  address_fault j k h = pair_wrong j k (apart_never z.records _ _ (sym (e.found.noted.told_at j k) ∙ h ∙ same_address))

  pub cell_below : get_or now.met r 0 < base + limit z
  cell_below = cells_below e.found.noted (omega (arith, in_run)) r e.known

  -- the record's cell is below the task's base: no entry before is on it
  pub apart-fresh : get_or now.met r 0 < base → Apart z m t i
  apart-fresh = fresh e.found.noted e.on e.known

  pub covers_fresh : {top' : ℕ} → get_or now.met r 0 < base → Covered z m t i r top'
  covers_fresh q k l p = absurd (none_on e.found.noted e.on e.known q k l p)

  -- it is not: the latest entry on it
  module _ (q : base ≤ get_or now.met r 0) where
    abbrev before : ℕ
    before = get_or now.met r 0 - base

    pub latest_at : (before < i) × ((entry z m t before).address % z.records ≡ (entry z m t i).address % z.records)
    latest_at = latest_on e.found.noted e.on e.known q

    pub covers_met : {top' : ℕ} → top ≤ top' → (entry_of (get_or (run m start) before [])).address ≤ top' → Covered z m t i r top'
    covers_met l h =
        let s = ap (λ (x : Entry). x.address) (run-entry e.task before (omega (arith, latest_at.0, in_run))) in
        covers_latest z.records (entry z m t) base now.met e.found.under l before (omega (arith, q)) (omega (arith, s, h))

    abbrev agreement : Bool
    agreement = agree (entry_of (get_or (run m start) before [])) (entry_of (get_or (run m start) i []))

    same : {b : Bool} → agreement ≡ b → agree (entry z m t before) (entry z m t i) ≡ b
    same h = agree_of (run-entry e.task before (omega (arith, latest_at.0, in_run))) (run-entry e.task i in_run) h

    pub versions_fault : agreement ≡ false → Fault z m t
    versions_fault h = pair_wrong before latest_at.0 (apart_one z.records _ _ latest_at.1 ∙ same h)

    pub apart_met : agreement ≡ true → ((k : ℕ) → k < i → get_or told k 0 ≡ (entry_of (get_or (run m start) i [])).address → ⊥) → Apart z m t i
    apart_met h d =
        apart_all z (entry z m t) i e.found.right (entry z m t i) before latest_at.0 latest_at.1 (same h)
        (λ k p a. d k p (e.found.noted.told_at k p ∙ a ∙ sym same_address))

  -- an address above those of all entries before it on its record is another one than each of all before it
  pub above_all : {top' : ℕ} → Covered z m t i r top' → top' < (entry_of (get_or (run m start) i [])).address
      → (k : ℕ) → k < i → get_or told k 0 ≡ (entry_of (get_or (run m start) i [])).address → ⊥
  above_all c h k l q =
      let p : (entry z m t k).address ≡ (entry z m t i).address = sym (e.found.noted.told_at k l) ∙ q ∙ same_address in
      omega (arith, h, p, same_address, c k l (ap (λ (a : ℕ). a % z.records) p ∙ sym e.on))

  pub entries_more : {top' : ℕ} {owned : List Bool} → let a = (entry_of (get_or (run m start) i [])).address in
      Apart z m t i → top ≤ top' → Covered z m t i r top' → Vouched z m t (i + 1) owned → length owned ≡ length now.owned
      → EntriesFound z m t n base lent (set told i a) (record { met = set now.met r (base + i); owned = owned }) top' (i + 1)
  unfolding entries_ok
  entries_more h l c v s =
      let f = e.found in
      let w = f.wide in
      record {
        within = omega (arith, e.more);
        most = f.most;
        small = f.small;
        right = below_more _ i f.right (and_make e.right h);
        noted = noted_more f.noted e.on same_address (omega (arith, in_run, limit_most z, w.addresses)) (omega (arith, e.known, w.met));
        under = under_more z.records (entry z m t) base now.met f.under l c e.on (omega (arith, e.known, w.met));
        owned = v;
        wide =
            record {
              addresses = length-set told i _ ∙ w.addresses;
              met = omega (arith, length-set now.met r (base + i), w.met);
            };
        kept = kept_then f.kept record { met = length-set now.met r (base + i); owned = s };
      }
