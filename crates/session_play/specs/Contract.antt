-- What the contract of the code cites besides the text itself.
use Rattle.std.specs.Prelude.{ℕ, Option, Some, None, List, Bool, ◌&&◌, leb, length, if◌then◌else◌}
use Rattle.memory.specs.Pieces.{Memory, most_words, most_records, most_tasks, most_rows}
use Rattle.session_text.specs.Text.{written}
use Rattle.session_print.specs.Print.{text}

-- lent tables of the largest sizes
unfoldable pub roomy : Memory → Bool
roomy m =
    leb most_words (length m.words) && leb most_records (length m.records) && leb most_tasks (length m.places)
    && leb most_rows (length m.entries)

-- What is answered and what the buffer holds, of any tables, session and buffer: the length of the whole text, and as much of it as
-- fits; or none where a table is too short, and the buffer is as it was.
unfoldable pub playing : Memory → List ℕ → List ℕ → Option ℕ × List ℕ
playing m bytes out = if roomy m then (Some (length (text bytes)), written out (text bytes)) else (None, out)
