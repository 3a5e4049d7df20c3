-- What a step answers: its number by the phases before and after it, and no value.
use Prim.Native.Nat.{ℕ, suc, ◌<◌}
use mathlib.Core.Path.{◌≡◌, refl, sym, ap, ◌∙◌, subst⁻¹}
use mathlib.Core.Logic.{inl, inr, ◌≢◌}
use mathlib.Core.List.{List, [], ◌∷◌}
use mathlib.Core.Bool.{true, false≢true}
use native.Mathlib.Omega.{arith}
use Rattle.memory.specs.{Sizes, Outcome, Committed, Failed, Woken, Sleep, Phase, Idle, Taking, Asleep, Releasing, Place, Memory, kind_of, which_of, position_of, place, ended, sound, Reply, wakes, joined, end_number, Row, Given, phase}
use Rattle.memory.proofs.Tools.{if_cases}
use Rattle.memory.proofs.Codes.{is_asleep}
use Rattle.memory.proofs.Stores.{place_same}
use Rattle.memory.proofs.Facts.{in_places}
use Rattle.memory.proofs.Went.{Does, takes, has, late, meets, differs, chooses, writes, wrote_all, gives, passes, Went, moves, joins, rests, ends, told, lands}

-- the rows of a step that is not refused, by the number of entries and the phases before and after
abbrev pub ending : ℕ → Phase → Phase → List Row
ending n p q = (20, q ≡ Asleep) ∷ (21, p ≡ Releasing Committed n) ∷ (22, p ≡ Releasing Failed n) ∷ (23, p ≡ Releasing Woken n) ∷ []

-- a step that moves its task on ends nothing
on_the_way : (z : Sizes) (m : Memory) (t : ℕ) {p p' : Phase} {m₁ : Memory} → Does z m t p m₁ p' → (o : Outcome) → p ≢ Releasing o (place m t).count
on_the_way z m t (takes g i h x) o e = omega (arith, ap kind_of e)
on_the_way z m t (has g i h x) o e = omega (arith, ap kind_of e)
on_the_way z m t (late g i h v x y) o e = omega (arith, ap kind_of e)
on_the_way z m t (meets g i h u x y j stays) o e = omega (arith, ap kind_of e)
on_the_way z m t (differs i h u x y w v) o e = omega (arith, ap kind_of e)
on_the_way z m t (chooses g) o e = omega (arith, ap kind_of e)
on_the_way z m t (writes i h) o e = omega (arith, ap kind_of e)
on_the_way z m t wrote_all o e = omega (arith, ap kind_of e)
on_the_way z m t (gives o' i h x) o e = omega (arith, h, ap position_of e)
on_the_way z m t (passes o' i h x) o e = omega (arith, h, ap position_of e)

pub moved-given : (n : ℕ) (p p' : Phase) → ((o : Outcome) → p ≢ Releasing o n) → Given (ending n p p') (told p')
moved-given n p p' no_end =
    if_cases (Given (ending n p p')) (wakes p') _ _ (λ c. inl (is_asleep p' c, refl))
    (λ c. inr (λ e. false≢true (sym c ∙ ap wakes e), inr (no_end Committed, inr (no_end Failed, inr (no_end Woken, refl)))))

pub ended-given : (n : ℕ) (o : Outcome) → Given (ending n (Releasing o n) Idle) (end_number o)
ended-given n Committed = inr (λ e. omega (arith, ap kind_of e), inl (refl, refl))
ended-given n Failed = inr (λ e. omega (arith, ap kind_of e), inr (λ e. omega (arith, ap which_of e), inl (refl, refl)))
ended-given n Woken = inr (λ e. omega (arith, ap kind_of e), inr (λ e. omega (arith, ap which_of e), inr (λ e. omega (arith, ap which_of e), inl (refl, refl))))

pub nought : (z : Sizes) (m : Memory) (t : ℕ) {p : Phase} {r : Reply} → Went z m t p r → r.value ≡ 0
nought z m t (moves d) = refl
nought z m t (joins i h u e ne w v) = refl
nought z m t rests = refl
nought z m t (ends o) = refl

module _ (z : Sizes) (m : Memory) (t : ℕ) (ok : sound z m ≡ true) (lt : t < z.tasks) where
  pub went_given : {p : Phase} {r : Reply} → phase m t ≡ p → Went z m t p r → Given (ending (place m t).count p (phase r.after t)) r.number
  went_given q (moves {p = p} {p' = p'} d) =
      subst⁻¹ (λ (x : Place). Given (ending (place m t).count p x.phase) (told p')) (lands z m t ok lt d) (moved-given _ p p' (on_the_way z m t d))
  went_given q (joins i h u e ne w v) =
      subst⁻¹ (λ (x : Place). Given (ending (place m t).count (Taking Sleep i) x.phase) 0) (place_same m t _ (in_places z m ok t lt))
      (unfold joined in moved-given _ (Taking Sleep i) (Taking Sleep (suc i)) (λ o x. omega (arith, ap kind_of x)))
  went_given q rests = inl (q, refl)
  went_given q (ends o) =
      subst⁻¹ (λ (x : Place). Given (ending (place m t).count (Releasing o (place m t).count) x.phase) (end_number o))
      (place_same m t ended (in_places z m ok t lt)) (ended-given _ o)
