-- Sound lists in other words (§10.13, §10.14): by the phases that there are, and by going from list to list link by link.
use Prim.Native.Nat.{ℕ, ◌^◌, ◌<◌}
use mathlib.Core.Path.{◌≡◌, refl, ap, subst}
use mathlib.Core.Logic.{◌⊎◌, inl, inr, ⊎_elim}
use mathlib.Core.Bool.{true, false≢true}
use lib.Dec.{eqb}
use borrow.Author.Tests.{eqb-true}
use Rattle.memory.specs.{Sizes, Commit, Sleep, Outcome, Phase, Idle, Open, Taking, Asleep, Writing, Releasing, Memory, place, sound, on_list, leads, may_join, wakes, ends_with, Joined, Led, itself, SoundJoin}
use Rattle.memory.proofs.Codes.{is_asleep}
use Rattle.memory.proofs.Leads.{or_cases, leads_one, leads_on, leads-before, led_ends}
use Rattle.memory.proofs.Facts.{joined_small, joined_ok, no_way_back}
use Rattle.memory.proofs.ListsLast.{Lists}

-- who may be on a list
abbrev OnOne : Phase → Type 0
OnOne p = (p ≡ Asleep) ⊎ (((i : ℕ) × (p ≡ Taking Sleep i)) ⊎ ((o : Outcome) × (i : ℕ) × (p ≡ Releasing o i)))

may_told : (p : Phase) → may_join p ≡ true → OnOne p
may_told Idle k = absurd (false≢true k)
may_told Open k = absurd (false≢true k)
may_told (Taking Commit i) k = absurd (false≢true k)
may_told (Taking Sleep i) k = inr (inl (i, refl))
may_told Asleep k = inl refl
may_told (Writing i) k = absurd (false≢true k)
may_told (Releasing o i) k = inr (inr (o, i, refl))

may_tested : (p : Phase) → OnOne p → may_join p ≡ true
may_tested p (inl e) = ap may_join e
may_tested p (inr (inl (i, e))) = ap may_join e
may_tested p (inr (inr (o, i, e))) = ap may_join e

module _ (z : Sizes) (m : Memory) where
  pub lists_told : sound z m ≡ true → (t w : ℕ) → Joined m t w → SoundJoin m t w
  lists_told ok t w j =
      let k = joined_ok z m ok t w j in
      record { sleeps = is_asleep (place m w).phase k.0; ends = may_told (place m t).phase k.1; ahead = λ l. back l }
    where
      link : leads (on_list m) z.tasks w t ≡ true
      link = leads_one (on_list m) z.tasks w t (unfold on_list in j)

      back : Led m t w → ⊥
      back l =
          no_way_back z m ok t (⊎_elim
          (λ e. subst (λ (x : ℕ). leads (on_list m) z.tasks x t ≡ true) (eqb-true w t e) link)
          (λ e. leads_on (on_list m) z.tasks t w t (joined_small z m ok t w j) e link)
          (or_cases (eqb w t) (leads (on_list m) z.tasks t w) (unfold ends_with in led_ends m z (joined_small z m ok) t w l)))

  pub lists_tested : ((t : ℕ) → t < z.tasks → (place m t).joins.bits < 2 ^ z.tasks) → ((t w : ℕ) → t < z.tasks → Joined m t w → SoundJoin m t w) → Lists z m
  lists_tested small S =
      record {
        small = small;
        fit = λ t w h j. (ap wakes (S t w h j).sleeps, may_tested (place m t).phase (S t w h j).ends);
        ahead = λ t h e. let (c, l, j) = leads-before m t z.tasks t t itself e in (S t c h j).ahead l;
      }
