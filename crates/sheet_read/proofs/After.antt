-- Bytes put after bytes, where the place after the first is known by a count.
use Prim.Native.Nat.{ℕ, ◌+◌}
use mathlib.Core.Path.{◌≡◌, sym, ap, ◌∙◌}
use mathlib.Core.List.{List, ◌++◌}
use lib.ListN.{length}
use Rattle.session_text.specs.Text.{stored}
use Rattle.session_text.proofs.Laws.{stored_append}

pub stored-after : (out : List ℕ) (at next : ℕ) (xs ys : List ℕ)
    → next ≡ at + length xs → stored out at (xs ++ ys) ≡ stored (stored out at xs) next ys
stored-after out at next xs ys e = stored_append out at xs ys ∙ ap (λ (k : ℕ). stored (stored out at xs) k ys) (sym e)
