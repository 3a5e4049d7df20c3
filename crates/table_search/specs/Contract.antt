-- What a search for an entry answers, in the terms of crate memory's definitions (§2.2, §2.8).
use Rattle.std.specs.Prelude.{ℕ, List, Option, Some, None, ltb, length, get_or, if◌then◌else◌}
use Rattle.memory.specs.declared.Entry.{Entry}
use Rattle.memory.specs.Logical.{blank}

-- the entry at a number; none past the last, where the number tells that nothing was found
unfoldable pub found : ℕ → List Entry → Option Entry
found k es = if ltb k (length es) then Some (get_or es k blank) else None
