-- What the contracts of a table's parts cite beside crate memory's definitions.
use Rattle.std.specs.Prelude.{ℕ, ◌+◌, ◌/◌, Bool, not, ◌&&◌, ◌==◌}
use Rattle.memory.specs.declared.Held.{Held}
use Rattle.memory.specs.declared.Held.TheVariants.{Version, Owner}
use Rattle.memory.specs.declared.Entry.{Entry}
use Rattle.memory.specs.Pieces.{top_version}
use Rattle.memory.specs.Sound.{within}

-- two entries on one record: other addresses, and the same versions
unfoldable pub agree : Entry → Entry → Bool
agree e f =
    not (e.address == f.address)
    && (e.old.version == f.old.version && e.new.version == f.new.version)

-- what a record holds, where it is known whether its owner has an entry on it
unfoldable pub record_ok : Held → Bool → Bool
record_ok (Version v) owned = within 1 top_version v
record_ok (Owner t) owned = owned

-- one divided by a number of records, and a little more, with 32 bits behind the point
abbrev pub inverse : ℕ → ℕ
inverse n = 4294967296 / n + 1
