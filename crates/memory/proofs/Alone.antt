-- A transaction that nobody disturbs commits, in exactly 3n + 3 steps, and is in nobody's way.
use Prim.Native.Nat.{ℕ, zero, suc, ◌+◌, ◌*◌, ◌<◌}
use mathlib.Core.Path.{◌≡◌, ◌∙◌, subst, subst⁻¹}
use mathlib.Core.Bool.{true}
use lib.ListN.{length, replicate}
use native.Mathlib.Omega.{arith}
use Rattle.memory.specs.{Sizes, Commit, Committed, Taking, Writing, Releasing, Memory, place, entry, entries, moved, ended, sound, SP, numbers, phase, then_answers, AloneItCommits, ours}
use Rattle.memory.proofs.Codes.{count_of, phase_of_lem}
use Rattle.memory.proofs.Facts.{entries_count}
use Rattle.memory.proofs.Fresh.{entry_in}
use Rattle.memory.proofs.Runs.{Reaches, goes_on, reaches}
use Rattle.memory.proofs.OneStep.{Stands, decides, writes, wrote_all}
use Rattle.memory.proofs.LetGo.{LetGo, lets_go}
use Rattle.memory.proofs.Takes.{Free, takes_then}

module _ (z : Sizes) (t : ℕ) (lt : t < z.tasks) (c : Memory) where
  abbrev n : ℕ
  n = (place c t).count

  -- at the end: Idle, and every other task in the place where it was
  abbrev pub Over : Memory → Type 0
  Over m = Stands z t lt c m ended

  lets_go_then : (m : Memory) → Stands z t lt c m (moved (place c t) (Releasing Committed 0)) → Reaches z t m n 21 Over
  lets_go_then m S =
      subst (λ (k : ℕ). Reaches z t m k 21 Over) (count_of S.own)
      (reaches z t m 21 Over _ over _ (lets_go z t lt Committed m S.ok (phase_of_lem S.own)))
    where
      over : (m' : Memory) → LetGo z t lt Committed m S.ok m' ended → Over m'
      over m' L =
          let E = L.standing in
          record { ok = E.ok; own = E.own; others = λ u ne. E.others u ne ∙ S.others u ne; entries = E.entries ∙ S.entries }

  writes_then : (k : ℕ) (m : Memory) (j : ℕ) → k + j ≡ n → Stands z t lt c m (moved (place c t) (Writing j)) → Reaches z t m (k + suc n) 21 Over
  writes_then zero m j s S =
      let W = wrote_all z t lt c m (subst (λ (i : ℕ). Stands z t lt c m (moved (place c t) (Writing i))) (omega arith) S) in
      subst (λ (d : ℕ). Reaches z t m d 21 Over) (omega arith) (goes_on z t m 21 Over n W.number (lets_go_then _ W.stands))
  writes_then (suc k) m j s S =
      let W = writes z t lt c m j S (omega arith) in
      subst (λ (d : ℕ). Reaches z t m d 21 Over) (omega arith)
      (goes_on z t m 21 Over (k + suc n) W.number (writes_then k _ (suc j) (omega arith) W.stands))

  pub commits : sound z c ≡ true → phase c t ≡ Taking Commit 0 → Free z t lt c n → Reaches z t c (3 * n + 2) 21 Over
  commits ok q free =
      subst (λ (d : ℕ). Reaches z t c d 21 Over) (omega arith) (takes_then z t lt c ok n (omega arith) free (suc (n + suc n)) 21 Over (λ m T.
      let D = decides z t lt c m T.standing in
      goes_on z t m 21 Over (n + suc n) D.number (writes_then n _ 0 (omega arith) D.stands)) q)

pub alone_it_commits : AloneItCommits ours
alone_it_commits z m t lt ok q free =
    let n = length (entries z m t) in
    let l : n ≡ (place m t).count = entries_count z m ok t lt in
    let s : 3 * n + 3 ≡ suc (3 * n + 2) = omega arith in
    subst⁻¹ (λ (k : ℕ). numbers ours z m (replicate k (SP t)) ≡ then_answers (3 * n + 2) 21) s
    (subst⁻¹ (λ (k : ℕ). numbers ours z m (replicate (suc (3 * k + 2)) (SP t)) ≡ then_answers (3 * k + 2) 21) l
    (commits z t lt m ok q (λ j d. free (entry z m t j) (entry_in z m ok t lt j d))).answers)
