-- What the functions of a new address are held to, in the terms of crate memory's definitions (§6.6 to §6.8).
use Rattle.std.specs.Prelude.{ℕ, ◌%◌, Bool, false, not, List, eqb, leb, Option, Some, None, Result, Ok, Err, if◌then◌else◌}
use Rattle.memory.specs.declared.Sizes.{Sizes}
use Rattle.memory.specs.declared.Seen.{Seen}
use Rattle.memory.specs.declared.Entry.{Entry}
use Rattle.memory.specs.declared.refusal.Refusal.{Refusal}
use Rattle.memory.specs.declared.refusal.Refusal.TheVariants.{Full, Overtaken}
use Rattle.memory.specs.Pieces.{Memory, limit}
use Rattle.memory.specs.Logical.{index_on}
use Rattle.memory.specs.Requests.{fresh, overtaken}
use Rattle.table_search.specs.Contract.{found}

-- the first of some entries on the record of an address
abbrev pub entry_beside : ℕ → ℕ → List Entry → Option Entry
entry_beside n a es = found (index_on n (a % n) es) es

-- what it tells of a new address
abbrev pub overtaken_by : ℕ → Option Entry → Bool
overtaken_by v None = false
overtaken_by v (Some e) = not (eqb v e.old.version)

abbrev pub version_beside : Seen → Option Entry → ℕ
version_beside s None = s.version
version_beside s (Some e) = e.new.version

abbrev pub fresh_beside : ℕ → Seen → Option Entry → Entry
fresh_beside a s b = record { address = a; old = s; new = record { value = s.value; version = version_beside s b } }

-- the entry for a new address of a task that has so many, or what refuses it
unfoldable pub new_entry : Sizes → Memory → ℕ → ℕ → ℕ → Result Entry Refusal
new_entry z m t a n =
    if leb (limit z) n then Err Full else
    if overtaken z m t a then Err Overtaken else
    Ok (fresh z m t a)
