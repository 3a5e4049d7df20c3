-- §12, the player: the text that it prints for the bytes of a session.
use Rattle.std.specs.Prelude.{ℕ, List, [], ◌++◌, if◌then◌else◌}
use Rattle.memory.specs.declared.Sizes.{Sizes}
use Rattle.memory.specs.Pieces.{Memory}
use Rattle.memory.specs.Requests.{opened}
use Rattle.session_fields.specs.Fields as fields
use Rattle.session_split.specs.Session as file
use Rattle.session_marks.specs.declared.Kind.TheVariants.{Open}
use Rattle.session_ask.specs.Asking.{sizes_of}
use Rattle.session_show.specs.Showing.{word_lines}
use Rattle.session_run.specs.Run.{Run, run_on}

-- §12.2: the sizes and the first version that the first record of a session asks.
unfoldable pub sizes_asked : List ℕ → Sizes
sizes_asked bytes = sizes_of (file.body Open bytes)

unfoldable pub first_asked : List ℕ → ℕ
first_asked bytes = fields.first_version (file.body Open bytes)

-- Tables of these sizes. Opening sets all that they hold.
abbrev pub lent : Sizes → Memory
lent z = opened z 0

-- §12.6: the lines of the records, and if none of them stopped the player those of the board
unfoldable pub printed : Sizes → ℕ → Run → List ℕ
printed z v r = r.lines ++ (if r.whole then word_lines z v r.board z.words else [])

unfoldable pub text : List ℕ → List ℕ
text bytes =
    let z = sizes_asked bytes in
    let v = first_asked bytes in
    printed z v (run_on z v (lent z) bytes)
