-- What the contracts of the code cite besides the run itself.
use Rattle.std.specs.Prelude.{ℕ, ◌+◌, ◌*◌}
use Rattle.session_split.specs.Session.{most_bytes}
use Rattle.session_end.specs.Contract.{line_room}

-- How far the places in the buffer can go after the lines of all records. No place wraps, and that is all that this is for.
abbrev pub records_room : ℕ
records_room = line_room * most_bytes + line_room
