-- A task whose Commit was just answered takes the records of its entries, one after the other, as long as each holds the old version.
use Prim.Native.Nat.{ℕ, zero, suc, ◌+◌, ◌%◌, ◌<◌, ◌≤◌}
use mathlib.Core.Path.{◌≡◌, refl, sym, ap, ◌∙◌, subst}
use mathlib.Core.Logic.{◌⊎◌, inl, inr, ⊎_elim}
use mathlib.Core.Bool.{true}
use native.Mathlib.Omega.{arith}
use Rattle.memory.specs.{Sizes, Commit, Taking, Held, Version, Owner, Memory, place, entry, held, moved, sound, SP, call, phase}
use Rattle.memory.proofs.Facts.{agree}
use Rattle.memory.proofs.Runs.{Reaches, goes_on}
use Rattle.memory.proofs.OneStep.{Since, sets_out, since_same, since_but, takes, has}

module _ (z : Sizes) (t : ℕ) (lt : t < z.tasks) (c : Memory) where
  abbrev n : ℕ
  n = (place c t).count

  abbrev rec : ℕ → ℕ
  rec j = (entry z c t j).address % z.records

  abbrev old : ℕ → Held
  old j = Version (entry z c t j).old.version

  -- the records of the first i entries hold their old versions
  abbrev pub Free : ℕ → Type 0
  Free i = (j : ℕ) → j < i → held c (rec j) ≡ old j

  -- a record is as it was, or the task has taken it from the version that its entries have
  abbrev pub Taken : ℕ → Held → Type 0
  Taken r h = (h ≡ held c r) ⊎ ((h ≡ Owner t) × ((k : ℕ) → k < n → rec k ≡ r → held c r ≡ old k))

  abbrev pub Took : Memory → ℕ → Type 0
  Took m j = Since z t lt c Taken m (moved (place c t) (Taking Commit j))

  module _ (ok : sound z c ≡ true) (i : ℕ) (hi : i ≤ n) (free : Free i) where
    takes_one : (m : Memory) (j : ℕ) → Took m j → j < i → ((call z m (SP t)).number ≡ 0) × Took (call z m (SP t)).after (suc j)
    takes_one m j T h =
        ⊎_elim (λ x. let S = takes z t lt c m Commit j T.standing within (x ∙ free j h) in (S.number, since_but z t lt c T S mine))
        (λ x. let S = has z t lt c m Commit j T.standing within x.0 in (S.number, since_same z t lt c T S)) (T.records (rec j))
      where
        within : j < n
        within = omega arith

        mine : Taken (rec j) (Owner t)
        mine = inr (refl, λ k d s. free j h ∙ ap Version (agree z c ok t lt j k within d (sym s)).0)

    module _ (y a : ℕ) (Q : Memory → Type 0) (then : (m : Memory) → Took m i → Reaches z t m y a Q) where
      takes_all : (k : ℕ) (m : Memory) (j : ℕ) → k + j ≡ i → Took m j → Reaches z t m (k + y) a Q
      takes_all zero m j s T = subst (λ (x : ℕ). Reaches z t m x a Q) (omega arith) (then m (subst (Took m) (omega arith) T))
      takes_all (suc k) m j s T =
          let x = takes_one m j T (omega arith) in
          subst (λ (d : ℕ). Reaches z t m d a Q) (omega arith) (goes_on z t m a Q (k + y) x.0 (takes_all k _ (suc j) (omega arith) x.1))

      -- i takes, and then what follows
      pub takes_then : phase c t ≡ Taking Commit 0 → Reaches z t c (i + y) a Q
      takes_then q = takes_all i c 0 (omega arith) (sets_out z t lt c ok (Taking Commit 0) q (λ r. inl refl))
