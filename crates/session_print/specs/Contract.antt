-- What the contracts of the code cite besides the text itself.
use Rattle.std.specs.Prelude.{ℕ, ◌+◌, ◌*◌, ◌≤◌}
use Rattle.memory.specs.Pieces.{most_words, most_records, most_tasks, most_rows}
use Rattle.session_show.specs.Showing.{word_line_room}
use Rattle.session_run.specs.Contract.{records_room}

-- How far the places in the buffer can go after the whole text. No place wraps, and that is all that this is for: `TextIsShort` in
-- crates/session_play has the length of the longest text.
abbrev pub text_room : ℕ
text_room = records_room + word_line_room * 65535

-- lent tables of the largest sizes, by their lengths
pub record Roomy (words records places entries : ℕ) : Type 0 where
  pub for_words : most_words ≤ words
  pub for_records : most_records ≤ records
  pub for_tasks : most_tasks ≤ places
  pub for_entries : most_rows ≤ entries
