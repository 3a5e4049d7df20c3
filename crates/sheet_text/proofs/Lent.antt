-- What is answered where a buffer is lent, and what it holds then, case by case.
use Rattle.std.specs.Prelude.{Ok, Err}
use Prim.Native.Nat.{ℕ, ◌<◌, ◌≤◌}
use mathlib.Core.Path.{◌≡◌}
use mathlib.Core.List.{List}
use lib.ListN.{length}
use borrow.Author.Tests.{lt-ltb, le-ltb}
use Rattle.session_text.specs.Text.{stored}
use Rattle.session_text.proofs.Laws.{stored_front}
use Rattle.sheet_text.specs.Answer.{Done, Refused, NoRoom, Answer, refused, lent}

module _ (made out : List ℕ) {known : Answer} where
  pub faulty : {r : Refused} → Err r ≡ known → lent known made out ≡ (Err r, out)
  faulty is = rw (← is)

  module _ {w : Done} (is : Ok w ≡ known) where
    pub short : length out < w.length → lent known made out ≡ (refused NoRoom w.lines, out)
    short less = rw (← is, lt-ltb (length out) w.length less)

    pub fits : {left : List ℕ} → w.length ≤ length out → left ≡ stored out 0 made → lent known made out ≡ (Ok w, left)
    fits enough holds = rw (← is, le-ltb (length out) w.length enough, holds, stored_front out made)
