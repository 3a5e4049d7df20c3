-- What is found of an entry and the last one before it on its record, and what is left of the records that are known to be owned.
pub use Rattle.table_pairs.specs.declared.Against.{Against}
use Rattle.std.specs.Prelude.{ℕ, ◌+◌, ◌-◌, ◌≤◌, ◌<◌, ◌≡◌, ◌⊎◌, ◌≢◌, List, [], Bool, true, false, not, get_or, set}
use Rattle.memory.specs.Pieces.{entry_of, first_owner}
use Rattle.table_parts.specs.Parts.{agree}

-- the record's cell is below the task's base: no entry of the task is on it yet
pub record New (base seen top : ℕ) (r : Against) : Type 0 where
  pub none : seen < base
  pub good : r.fault ≡ false
  pub same : r.top ≡ top

-- it is not: the last entry on it has the same versions or is at fault; and an address above `top` is no other's
pub record Met (run : List (List ℕ)) (base seen top i : ℕ) (row : List ℕ) (r : Against) : Type 0 where
  pub some : base ≤ seen
  pub versions : r.fault ≡ not (agree (entry_of (get_or run (seen - base) [])) (entry_of row))
  pub raised : top ≤ r.top
  pub covers : (entry_of (get_or run (seen - base) [])).address ≤ r.top
  pub pairs : (r.until ≡ i) ⊎ (r.top < (entry_of row).address)

-- A record is marked for an entry from `from` on, if it says that the task owns it; else nothing changes.
abbrev pub Marked : List ℕ → List Bool → ℕ → ℕ → ℕ → ℕ → List Bool → Type 0
Marked records owned r t from i left =
    ((from ≤ i) × (get_or records r 0 ≡ first_owner + t) × (left ≡ set owned r true))
    ⊎ ((get_or records r 0 ≢ first_owner + t) × (left ≡ owned))
    ⊎ ((i < from) × (left ≡ owned))
