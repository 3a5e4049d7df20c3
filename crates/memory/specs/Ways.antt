-- §2.15, §7.17: to whom a list leads, link by link. The claims are made of this, and not of `leads`, which counts the tasks between.
use Rattle.std.specs.Prelude.{ℕ, ◌≡◌, true}
use Rattle.memory.specs.Pieces.{Memory, place}
use Rattle.memory.specs.Lists.{has}

-- the task t has joined the sleeper w, and so is on its list
abbrev pub Joined : Memory → ℕ → ℕ → Type 0
Joined m t w = has (place m t).joins.bits w ≡ true

-- u itself, and whoever is on the list of one to whom it leads
pub data Led (m : Memory) (u : ℕ) : ℕ → Type 0 where
  itself : Led m u u
  onward : {w : ℕ} (t : ℕ) → Led m u w → Joined m t w → Led m u t
