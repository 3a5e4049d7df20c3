-- `session_end::put_end` meets its contract: the line of a refusal, or nothing.
use mathlib.Core.Path.{refl}
use Rattle.session_text.proofs.Laws.{put_none}
use Rattle.session_end.specs.Contract.{line_room}
use Rattle.session_end.proofs.Ends.{not-refused}
use Rattle.session_end.proofs.put_end.Goals as goal

pub returns-in_default : goal.returns-in_default
returns-in_default c =
    λ m. rw (not-refused _ m _ c.in_default.not-Err) (record { lines = put_none line_room _; whole = refl; board = refl })

pub returns : goal.returns
returns c =
    λ m. rw (c.in-Err.is, ← c.number.ensures) (record { lines = c.put_line.ensures; whole = refl; board = refl })
