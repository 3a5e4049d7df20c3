-- `session_play::play` meets its contract: the tables are long enough, and the run is the whole of it.
use native.Mathlib.Omega.{arith}
use Rattle.session_play.proofs.Room.{no_room, whole-text}
use Rattle.session_play.proofs.play.Goals as goal

pub returns-then-words-lt-MOST_WORDS : goal.returns-then-words-lt-MOST_WORDS
returns-then-words-lt-MOST_WORDS c =
    no_room _ _ _ (λ h. omega arith)

pub returns : goal.returns
returns c =
    let played = whole-text _ _ _ (record { for_words = c.if-words-lt-MOST_WORDS.false; for_records = c.if-records-lt-MOST_RECORDS.false; for_tasks = c.if-places-lt-MOST_TASKS.false; for_entries = c.if-entries-lt-MOST_ROWS.false }) c.run.ensures in
    grind (arith, played)
