-- The same body is answered the same after a try that failed: so it is tried until it commits.
use Prim.Native.Nat.{ℕ, zero, suc, ◌<◌, ◌≤◌}
use mathlib.Core.Path.{◌≡◌, refl, sym, ap, ◌∙◌}
use mathlib.Core.Logic.{inl, inr, ⊎_elim}
use mathlib.Core.List.{List, [], ◌∷◌, map}
use mathlib.Core.Bool.{true}
use native.Mathlib.Omega.{arith}
use Rattle.memory.specs.{Sizes, Idle, Memory, logical, sound, Call, call, numbers, phase, Use, Calm, Plain, body, address_of, AllZero, said, SameAgain, in_the_way, Repeated, TheSameBodyComesThrough, Scene, reached, IsSound, ReachedTurnsComeThrough, ours}
use Rattle.memory.proofs.Tools.{map_in}
use Rattle.memory.proofs.Serial.{always}
use Rattle.memory.proofs.WholeTurns.{Woke, ends_or_wakes}
use Rattle.memory.proofs.SameBoard.{calm_is_plain, same-board, still_plain}
use Rattle.memory.proofs.SameAnswers.{said_same}

numbers_said : (z : Sizes) (cs : List Call) (m : Memory) → numbers ours z m cs ≡ map (λ (p : ℕ × ℕ). p.0) (said ours z m cs)
unfolding numbers said
numbers_said z [] m = refl
numbers_said z (c ∷ cs) m = ap (λ (l : List ℕ). (call z m c).number ∷ l) (numbers_said z cs (call z m c).after)

module _ (z : Sizes) (t : ℕ) (lt : t < z.tasks) (us : List Use) where
  abbrev area : List ℕ
  area = map address_of us

  module _ (m : Memory) (ok : sound z m ≡ true) (plain : Plain z m) (idle : phase m t ≡ Idle) (e : AllZero ours z m (body t us)) (w : Woke z m t us) where
    again : SameAgain ours z m t us w.m₂
    again = record { board = board; answers = said_same z t lt m w.m₂ ok w.ok idle w.idle board us e }
      where
        board : (a : ℕ) → logical z w.m₂ a ≡ logical z m a
        board a = same-board z m t ok idle us w a (plain a)

    zero_again : AllZero ours z w.m₂ (body t us)
    zero_again = numbers_said z (body t us) w.m₂ ∙ ap (map (λ (p : ℕ × ℕ). p.0)) again.answers ∙ sym (numbers_said z (body t us) m) ∙ e

    less : in_the_way z w.m₂ area < in_the_way z m area
    less = w.fewer area (λ x k. map_in address_of k)

  repeats : (k : ℕ) (m : Memory) → sound z m ≡ true → Calm z m → Plain z m → phase m t ≡ Idle → AllZero ours z m (body t us)
      → in_the_way z m area ≤ k → Repeated ours z t us k m
  repeats zero m ok calm plain idle e few =
      ⊎_elim (λ x. (x.0, x.1)) (λ (w : Woke z m t us). absurd (omega (arith, few, less m ok plain idle e w))) (ends_or_wakes z m t lt ok calm idle us e)
  repeats (suc k) m ok calm plain idle e few =
      ⊎_elim (λ x. inl (x.0, x.1)) (λ (w : Woke z m t us). inr (
        w.u,
        w.m₁,
        w.m₂,
        w.wakes,
        w.rises,
        again m ok plain idle e w,
        repeats k w.m₂ w.ok w.calm (still_plain z m t ok idle us w plain) w.idle (zero_again m ok plain idle e w)
            (omega (arith, few, less m ok plain idle e w)),
      )) (ends_or_wakes z m t lt ok calm idle us e)

pub the_same_body_comes_through : TheSameBodyComesThrough ours
the_same_body_comes_through z m t lt ok calm plain idle us e = repeats z t lt us (in_the_way z m (map address_of us)) m ok calm plain idle e (omega arith)

pub reached_turns_come_through : ReachedTurnsComeThrough
reached_turns_come_through = λ z v m o es t lt calm idle us e.
    let s : Scene = reached z v m es in
    the_same_body_comes_through s.sizes s.memory t lt (always IsSound (λ s f. f.0) z v m o es) calm (calm_is_plain z v m o es calm) idle us e
