-- How a machine is seen to break a claim: it differs from what the claim says in a number, or answers another number than ours does.
use Prim.Native.Nat.{ℕ, ◌%◌, ◌≤◌}
use mathlib.Core.Path.{◌≡◌, refl, sym, ap, ◌∙◌, subst}
use mathlib.Core.Logic.{◌⊎◌}
use mathlib.Core.List.{List, [], ◌∷◌}
use mathlib.Core.Bool.{true, false}
use lib.Dec.{eqb}
use native.Mathlib.Omega.{arith}
use borrow.Author.Tests.{eqb-false}
use Rattle.memory.specs.{Sizes, Commit, Phase, Idle, Open, Taking, Owner, Place, Memory, memory, kind_of, goal_of, held, place, entry, sound, opened, open_board, look, Call, SP, RD, WR, call, Machine, board_after, small, phase, Row, Given, refusals, rows_of, InRange, Fits, CallAnswers, OpeningAnswers, LookAnswers, PlacesChange, Failing, EndsWith, struck, itself, ClashesEnd}
use Rattle.memory.proofs.StepAnswers.{ending}
use Rattle.memory.proofs.Answers.{one_number, numbers_given}
use Rattle.memory.proofs.OpenAnswers.{opening_answers, look_answers}

-- the small board after calls, from the first version 1
unfoldable pub after : List Call → Memory
unfolding board_after
after cs = board_after (opened small 1) cs

-- lent nothing at all
unfoldable pub nothing : Memory
nothing = memory [] [] [] []

-- two things that differ in a number are not one; a place by the kind of its phase
pub differ : {A : Type 0} (f : A → ℕ) {a b : A} → a ≡ b → eqb (f a) (f b) ≡ false → ⊥
differ f {a} {b} e d = eqb-false (f a) (f b) d (ap f e)

abbrev pub phase_kind : Place → ℕ
phase_kind q = kind_of q.phase

-- Both numbers are given by the same rows, where the rows do not ask for the memory after or it is alike in what they ask.
other_number : (M : Machine) (z : Sizes) (m : Memory) (c : Call) → rows_of z m c (M.call z m c).after ≡ rows_of z m c (call z m c).after
    → eqb (M.call z m c).number (call z m c).number ≡ false → CallAnswers M → ⊥
other_number M z m c same ne h =
    eqb-false _ _ ne
    (one_number (rows_of z m c (call z m c).after) _ _ (subst (λ (l : List Row). Given l (M.call z m c).number) same (h z m c).0) (numbers_given z m c))

-- of Read and Write they do not ask for it
pub other_read : (M : Machine) (z : Sizes) (m : Memory) (t a : ℕ) → eqb (M.call z m (RD t a)).number (call z m (RD t a)).number ≡ false → CallAnswers M → ⊥
other_read M z m t a = other_number M z m (RD t a) refl

pub other_write : (M : Machine) (z : Sizes) (m : Memory) (t a v : ℕ) → eqb (M.call z m (WR t a v)).number (call z m (WR t a v)).number ≡ false
    → CallAnswers M → ⊥
other_write M z m t a v = other_number M z m (WR t a v) refl

-- of a step they ask for the phase
pub other_step : (M : Machine) (z : Sizes) (m : Memory) (t : ℕ) (p : Phase) → phase (M.call z m (SP t)).after t ≡ p → phase (call z m (SP t)).after t ≡ p
    → eqb (M.call z m (SP t)).number (call z m (SP t)).number ≡ false → CallAnswers M → ⊥
other_step M z m t p e f = other_number M z m (SP t) (ap rows_to (e ∙ sym f))
  where
    rows_to : Phase → List Row
    rows_to q = refusals z m t ((phase m t ≡ Idle) ⊎ (phase m t ≡ Open)) (ending (place m t).count (phase m t) q)

pub other_opening : (M : Machine) (z : Sizes) (v : ℕ) (m : Memory) → eqb (M.open_board z v m).number (open_board z v m).number ≡ false → OpeningAnswers M → ⊥
other_opening M z v m ne h =
    eqb-false _ _ ne
    (one_number ((2, InRange z v → ⊥) ∷ (1, Fits z m → ⊥) ∷ []) (M.open_board z v m).number (open_board z v m).number (h z v m).0 (opening_answers z v m).0)

pub other_look : (M : Machine) (z : Sizes) (m : Memory) (a : ℕ) → eqb (M.look z m a).number (look z m a).number ≡ false → LookAnswers M → ⊥
other_look M z m a ne h =
    eqb-false _ _ ne
    (one_number ((1, sound z m ≡ false) ∷ (5, z.words ≤ a) ∷ []) (M.look z m a).number (look z m a).number (h z m a).0 (look_answers z m a).0)

-- where task 1 comes to a record that task 0 owns, a machine that keeps the claim has them clash, and ends task 0
pub met : (M : Machine) (m : Memory) → sound small m ≡ true → phase m 1 ≡ Taking Commit 0 → (place m 1).count ≡ 1
    → held m ((entry small m 1 0).address % small.records) ≡ Owner 0 → ClashesEnd M → PlacesChange m 1 (M.call small m (SP 1)).after Failing (EndsWith m 0)
unfolding small
met M m ok p n own h =
    ((h small m 1 ok (omega arith)).0 0 Commit 0 (record { taking = p; within = omega (arith, n); owned = own; other = eqb-false 0 1 refl })).2
    (λ b. omega (arith, ap goal_of b.0))

pub owner_ended : {m m' : Memory} → PlacesChange m 1 m' Failing (EndsWith m 0) → phase m' 0 ≡ struck (phase m 0)
owner_ended c = ((c.others 0 (eqb-false 0 1 refl)).0 itself).phase
