-- The end of a text: where it ends the last line it does what CR LF would do there, and it may do nothing.
use Rattle.std.specs.Option.{is_some}
use Prim.Native.Nat.{ℕ}
use mathlib.Core.Path.{◌≡◌, refl, ap}
use mathlib.Core.Logic.{◌≢◌}
use mathlib.Core.List.{[], ◌∷◌, append-nil}
use mathlib.Core.Bool.{false}
use lib.Dec.{eqb}
use Rattle.memory.proofs.Tools.{if_cases}
use Rattle.sheet_text.specs.declared.Spot.{Spot}
use Rattle.sheet_text.specs.declared.Spot.TheVariants.{Fresh, Bare, Quoted, Closed, Return}
use Rattle.sheet_text.specs.declared.Turn.{Turn}
use Rattle.sheet_text.specs.declared.Turn.TheVariants.{Beside, LineEnds, Stray}
use Rattle.sheet_text.specs.Turn.{return, newline, leave, bare, turn, ending}
use Rattle.sheet_text.specs.Read.{Reader, reader, act, act_bytes, step, step_bytes, feed, feed_bytes, finish, finish_bytes}

-- where a line may end, CR begins its end
begins_end : (s : Spot) (n : ℕ) → ending s n ≡ LineEnds → turn s return ≡ Beside Return
unfolding bare leave
begins_end Fresh n e = refl
begins_end Bare n e = refl
begins_end Quoted n e = absurd (cc)
begins_end Closed n e = refl
begins_end Return n e = absurd (cc)

pub given : (r : Reader) → is_some r.fault ≡ false → ending r.spot r.line.fields ≡ LineEnds
    → (feed r (return ∷ newline ∷ []) ≡ finish r) × (feed_bytes r (return ∷ newline ∷ []) ≡ finish_bytes r)
unfolding feed feed_bytes step step_bytes finish finish_bytes
given r good e = rw (good, e, begins_end r.spot r.line.fields e, good, append-nil) (refl, refl)

module _ (r : Reader) where
  -- what the end of the text is there
  abbrev pub last : Turn
  last = ending r.spot r.line.fields

  -- neither the end of a line nor astray: there is no line more
  pub rests : last ≢ LineEnds → last ≢ Stray → (r ≡ act r last 0) × ([] ≡ act_bytes r last)
  rests e k = go r.spot refl e k
    where
      go : (s : Spot) → r.spot ≡ s → ending s r.line.fields ≢ LineEnds → ending s r.line.fields ≢ Stray
          → (r ≡ act r (ending s r.line.fields) 0) × ([] ≡ act_bytes r (ending s r.line.fields))
      go Fresh q = if_cases (λ t. t ≢ LineEnds → t ≢ Stray → (r ≡ act r t 0) × ([] ≡ act_bytes r t)) (eqb r.line.fields 0) _ _
          (λ none e k. (ap (λ (s : Spot). reader s r.line r.length r.lines r.fault) q, refl)) (λ some e k. absurd (e refl))
      go Bare q = λ e k. absurd (e refl)
      go Quoted q = λ e k. absurd (k refl)
      go Closed q = λ e k. absurd (e refl)
      go Return q = λ e k. absurd (k refl)
