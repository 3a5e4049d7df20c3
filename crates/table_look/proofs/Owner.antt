-- What the owner of a record shows at an address of that record, and that it has what is needed to show it.
use Prim.Native.Nat.{ℕ, ◌+◌, ◌%◌, ◌<◌, ◌≤◌}
use mathlib.Core.Path.{◌≡◌, ap, ◌∙◌}
use mathlib.Core.List.{List, map}
use mathlib.Core.Bool.{Bool, true}
use lib.Dec.{eqb}
use lib.ListN.{length, get_or, take, drop, length-drop, length-map}
use lib.Seq.{length-take-le}
use native.Mathlib.Nat.{mod-lt}
use native.Mathlib.Omega.{arith}
use borrow.Author.Tests.{eq-eqb, lt-ltb, le-ltb}
use Rattle.std.specs.Prelude.{Option, Some, None}
use Rattle.std.specs.Option.{IsSome}
use Rattle.memory.specs.declared.Sizes.{Sizes}
use Rattle.memory.specs.declared.Seen.{Seen}
use Rattle.memory.specs.declared.Place.{Place}
use Rattle.memory.specs.declared.Entry.{Entry}
use Rattle.memory.specs.declared.Held.TheVariants.{Owner}
use Rattle.memory.specs.Pieces.{Memory, entry_of, held, place, run_start, run, entry, committed}
use Rattle.memory.specs.Logical.{index_of, index_on, blank, shows, owned_at, logical_at, logical}
use Rattle.memory.specs.Sound.{sound}
use Rattle.memory.proofs.Tools.{in_get_or}
use Rattle.memory.proofs.Find.{index-some}
use Rattle.memory.proofs.Stores.{run_length, run_at}
use Rattle.memory.proofs.Facts.{some_record, run_fits, owner_task, owner_entry}
use Rattle.table_search.specs.Contract.{found}
use Rattle.table_search.proofs.Found.{finds, when_some, when_none}

module _ (rows : List (List ℕ)) (k : ℕ) (done : Bool) (a word : ℕ) where
  abbrev es : List Entry
  es = map entry_of rows

  pub with_entry : (e : Entry) → found (index_of a es) es ≡ Some e → shows done e ≡ owned_at k done es a word
  unfolding owned_at
  with_entry e q = let (h, s) = when_some _ _ e q in rw (s, lt-ltb (index_of a es) (length es) h)

  pub without_entry : found (index_of a es) es ≡ None → (e : Entry) → found (index_on k (a % k) es) es ≡ Some e
      → (shown : Seen) → shown ≡ shows done e → record { value = word; version = shown.version } ≡ owned_at k done es a word
  unfolding owned_at
  without_entry n e q shown s = rw (s, (when_some _ _ e q).1, le-ltb (index_of a es) (length es) (when_none _ _ n))

-- a run with an entry on the record has one beside the address
pub finds_beside : (rows : List (List ℕ)) (k a : ℕ) (r : Option Entry) → let es = map entry_of rows in index_on k (a % k) es < length rows
    → r ≡ found (index_on k (a % k) es) es → IsSome r
finds_beside rows k a r h q =
    let es = map entry_of rows in
    rw (q, finds (index_on k (a % k) es) es (omega (arith, h, length-map rows entry_of)))

-- on a sound table
module _ (z : Sizes) (m : Memory) (ok : sound z m ≡ true) (a t : ℕ) (owns : held m (a % z.records) ≡ Owner t) where
  pub task_below : t < z.tasks
  task_below = owner_task z m ok (a % z.records) t (mod-lt a (some_record z m ok)) owns

  pub run_inside : run_start z t + (place m t).count ≤ length m.entries
  run_inside = run_fits z m ok t task_below

  pub run_long : (place m t).count ≤ length (drop (run_start z t) m.entries)
  run_long = omega (arith, run_inside, length-drop (run_start z t) m.entries)

  -- it has an entry on the record
  pub on_record : index_on z.records (a % z.records) (run z m t (place m t).count) < (place m t).count
  unfolding index_on
  on_record =
      let n = (place m t).count in
      let long = run_length z m t n (run_fits z m ok t task_below) in
      let mine = owner_entry z m ok (a % z.records) t (mod-lt a (some_record z m ok)) owns in
      let at : get_or (run z m t n) mine.0 blank ≡ entry z m t mine.0 = run_at z m t n mine.0 mine.1 in
      let passes = eq-eqb _ _ (ap (λ (e : Entry). e.address % z.records) at ∙ mine.2) in
      omega (
        arith,
        index-some (λ e. eqb (e.address % z.records) (a % z.records)) (run z m t n) _ (in_get_or (run z m t n) mine.0 blank (omega (arith, long, mine.1))) passes,
        long,
      )

  -- so that a search of its run finds one
  pub beside : index_on z.records (a % z.records) (run z m t (place m t).count) < length (take (place m t).count (drop (run_start z t) m.entries))
  beside = omega (arith, on_record, run_inside, length-take-le (place m t).count (drop (run_start z t) m.entries), length-drop (run_start z t) m.entries)

  pub owner_shows : (done : Bool) (q : Place) → q ≡ place m t → done ≡ committed q.phase
      → owned_at z.records done (run z m t q.count) a (get_or m.words a 0) ≡ logical z m a
  unfolding logical logical_at
  owner_shows done q p d = rw (owns, d, p)
