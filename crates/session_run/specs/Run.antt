-- §12.2, §12.3: what the records of a session come to, by the calls of the memory.
use Rattle.std.specs.Prelude.{ℕ, suc, List, [], ◌∷◌, false, if◌then◌else◌}
use Rattle.memory.specs.declared.Sizes.{Sizes}
use Rattle.memory.specs.Pieces.{Memory}
use Rattle.session_split.specs.Session.{Split, Piece, session}
use Rattle.session_text.specs.Text.{line}
use Rattle.session_ask.specs.Asking.{requested}
pub use Rattle.session_end.specs.Run.{Run, runs, after, over, stops}

-- §12.3: a line for each record
unfoldable pub run : Sizes → ℕ → ℕ → Memory → List Piece → Split → Run
run z v i m [] ended = over i m ended
run z v i m (p ∷ ps) ended =
    let r = requested z v m p.kind p.body in
    after (line i r.number r.value) (if stops r.number then runs [] false r.after else run z v (suc i) r.after ps ended)

-- the records of a session, run on tables that are lent
unfoldable pub run_on : Sizes → ℕ → Memory → List ℕ → Run
run_on z v m bytes = run z v 0 m (session bytes).pieces (session bytes).ended
