-- What holds of a reader whatever one byte does, holds of every reader that is reached from it.
use Prim.Native.Nat.{ℕ}
use mathlib.Core.List.{List, [], ◌∷◌}
use Rattle.std.specs.Option.{is_none}
use Rattle.memory.proofs.Tools.{if_cases}
use Rattle.sheet_text.specs.Turn.{Turn, turn, ending}
use Rattle.sheet_text.specs.Read.{Reader, act, step, feed, finish}

module _ (P : Reader → Type 0) (each : (r : Reader) (t : Turn) (b : ℕ) → P r → P (act r t b)) where
  pub lasts-step : (r : Reader) (b : ℕ) → P r → P (step r b)
  unfolding step
  lasts-step r b p = if_cases P (is_none r.fault) _ _ (λ _. each r (turn r.spot b) b p) (λ _. p)

  pub lasts-feed : (r : Reader) (text : List ℕ) → P r → P (feed r text)
  unfolding feed
  lasts-feed r [] p = p
  lasts-feed r (b ∷ bs) p = lasts-feed (step r b) bs (lasts-step r b p)

  pub lasts-finish : (r : Reader) → P r → P (finish r)
  unfolding finish
  lasts-finish r p = if_cases P (is_none r.fault) _ _ (λ _. each r (ending r.spot r.line.fields) 0 p) (λ _. p)
