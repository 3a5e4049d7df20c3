-- What the contracts of a task's row cite beside crate memory's definitions.
use Rattle.std.specs.Prelude.{ℕ, if◌then◌else◌}
use Rattle.memory.specs.declared.Sizes.{Sizes}
use Rattle.memory.specs.declared.Phase.{Phase}
use Rattle.memory.specs.declared.Place.{Place}
use Rattle.memory.specs.Pieces.{steps, limit}
use Rattle.memory.specs.Sound.{counts_from}

-- the first entry by which a task in a phase may own a record, none where the phase owns nothing; the same of its place
abbrev pub owns_in : Sizes → Phase → ℕ
owns_in z p = if steps p then counts_from p else limit z

unfoldable pub owns_from : Sizes → Place → ℕ
owns_from z q = owns_in z q.phase
