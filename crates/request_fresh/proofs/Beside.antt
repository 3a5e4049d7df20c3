-- A new address by the entry beside it.
use Rattle.std.specs.Prelude.{Option, Some, None, if◌then◌else◌}
use Prim.Native.Nat.{ℕ, ◌%◌}
use mathlib.Core.Path.{◌≡◌, refl}
use mathlib.Core.List.{List}
use mathlib.Core.Bool.{Bool, true, false, not, ◌&&◌}
use lib.Dec.{eqb, ltb}
use lib.ListN.{length, get_or}
use Rattle.memory.specs.declared.Sizes.{Sizes}
use Rattle.memory.specs.declared.Seen.{Seen}
use Rattle.memory.specs.declared.Entry.{Entry}
use Rattle.memory.specs.Pieces.{Memory, place, entries, run}
use Rattle.memory.specs.Logical.{blank, index_on, logical}
use Rattle.memory.specs.Requests.{fresh, overtaken}
use Rattle.table_search.specs.Contract.{found}
use Rattle.request_fresh.specs.Contract.{entry_beside, overtaken_by, fresh_beside}

by_test : (b : Bool) (v : ℕ) (e : Entry) → (b && not (eqb v e.old.version)) ≡ overtaken_by v (if b then Some e else None)
by_test true v e = refl
by_test false v e = refl

made_by : (b : Bool) (a : ℕ) (s : Seen) (e : Entry)
    → record { address = a; old = s; new = record { value = s.value; version = if b then e.new.version else s.version } } ≡ fresh_beside a s (if b then Some e else None)
made_by true a s e = refl
made_by false a s e = refl

module _ (z : Sizes) (m : Memory) (t a : ℕ) where
  abbrev es : List Entry
  es = entries z m t

  abbrev at : ℕ
  at = index_on z.records (a % z.records) es

  overtaken_beside : overtaken z m t a ≡ overtaken_by (logical z m a).version (entry_beside z.records a es)
  unfolding overtaken found
  overtaken_beside = by_test (ltb at (length es)) (logical z m a).version (get_or es at blank)

  fresh_beside_lem : fresh z m t a ≡ fresh_beside a (logical z m a) (entry_beside z.records a es)
  unfolding fresh found
  fresh_beside_lem = made_by (ltb at (length es)) a (logical z m a) (get_or es at blank)

  module _ (n : ℕ) (here : (place m t).count ≡ n) (s : Seen) (seen : s ≡ logical z m a) (b : Option Entry) (beside : b ≡ entry_beside z.records a (run z m t n)) where
    pub overtaken-by : overtaken_by s.version b ≡ overtaken z m t a
    overtaken-by = cc overtaken_beside

    pub fresh-by : fresh_beside a s b ≡ fresh z m t a
    fresh-by = cc fresh_beside_lem
