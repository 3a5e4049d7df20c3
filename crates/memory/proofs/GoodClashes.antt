-- A clash keeps what is claimed: the owner fails, or a sleeper wakes with all who end with it (§7.7, §7.17).
use Prim.Native.Nat.{ℕ, ◌<◌}
use mathlib.Core.Path.{◌≡◌, refl, sym, ap, ◌∙◌, subst}
use mathlib.Core.Logic.{◌⊎◌, inl, inr, ⊎_elim}
use mathlib.Core.List.{List, map}
use mathlib.Core.Bool.{Bool, true, false, not, ◌&&◌, true≢false}
use lib.ListN.{get_or, take, drop}
use borrow.Author.Tests.{not-true}
use Rattle.memory.specs.{Sizes, Failed, Releasing, Place, Entry, Memory, moved, place, entry_of, run_start, run, move, sound, has, ends_with, ended_with, end_all, clash, board, version, zeros, Notes, listed}
use Rattle.memory.proofs.Tools.{both, and_0, and_1}
use Rattle.memory.proofs.Codes.{is_taking, phase_of_lem}
use Rattle.memory.proofs.Sets.{in_set}
use Rattle.memory.proofs.Leads.{led_cases, ends_led, ends_on}
use Rattle.memory.proofs.Stores.{held-from}
use Rattle.memory.proofs.Clashes.{end_all-words, end_all-records, end_all-entries, place_stays, place-ends, clash_cases}
use Rattle.memory.proofs.Facts.{in_places, joined_in, joined_small}
use Rattle.memory.proofs.Invariant.{State, Inv}
use Rattle.memory.proofs.Quiet.{of}
use Rattle.memory.proofs.Steps.{fail_keeps}
use Rattle.memory.proofs.Wake.{EndsOrStays, wake_keeps}
use Rattle.memory.proofs.View.{view, inv_ext}
use Rattle.memory.proofs.Good.{Good, silently}

module _ (z : Sizes) (v₀ : ℕ) (m : Memory) (G : Notes) (good : Good z v₀ m G) (ok : sound z m ≡ true) (u : ℕ) (lt : u < z.tasks) where
  abbrev n : ℕ
  n = z.records

  abbrev B : ℕ → ℕ
  B = board zeros (listed G)

  abbrev W : ℕ → ℕ
  W = version z.records v₀ zeros (listed G)

  abbrev S : State
  S = view z m G.logs

  abbrev I : Inv n B W S
  I = good.1

  abbrev ends : ℕ → Bool
  ends = ends_with z m u

  abbrev m₁ : Memory
  m₁ = end_all z m ends z.tasks

  -- whoever ends is one of the tasks
  inside : (v : ℕ) → ends v ≡ true → v < z.tasks
  inside v e = ⊎_elim (λ q. subst (λ (x : ℕ). x < z.tasks) (sym q) lt) (λ k. (joined_in z m ok v k.0 k.2).0) (led_cases m (ends_led m z u v e))

  same-run : (v c : ℕ) → run z m₁ v c ≡ run z m v c
  same-run v c = ap (λ (k : List (List ℕ)). map entry_of (take c (drop (run_start z v) k))) (end_all-entries z m ends z.tasks)

  -- the lists that one of them is on afterwards
  fewer : (q : Place) (w : ℕ) → has (ended_with z ends q).joins.bits w ≡ true → (has q.joins.bits w ≡ true) × (ends w ≡ true → ⊥)
  unfolding ended_with
  fewer q w e =
      let s = (in_set z.tasks (λ w. has q.joins.bits w && not (ends w)) w e).1 in
      (and_0 (has q.joins.bits w) (not (ends w)) s, λ h. true≢false (sym h ∙ not-true _ (and_1 (has q.joins.bits w) (not (ends w)) s)))

  each : (v : ℕ) → EndsOrStays ends S (view z m₁ G.logs).task v
  unfolding view ended_with
  each v = go (both (ends v))
    where
      go : (ends v ≡ true) ⊎ (ends v ≡ false) → EndsOrStays ends S (view z m₁ G.logs).task v
      go (inl c) =
          let q = place-ends z m ends z.tasks v (inside v c) c (in_places z m ok v (inside v c)) in
          inr (record {
            hit = c;
            phase = phase_of_lem q;
            ents = ap (λ (k : Place). run z m₁ v k.count) q ∙ same-run v (place m v).count;
            less = λ w e. fewer (place m v) w (subst (λ (k : Place). has k.joins.bits w ≡ true) q e);
          })
      go (inr c) =
          inl (
            λ h. true≢false (sym h ∙ c),
            ap (λ (k : Place). of k (run z m₁ v k.count) (G.logs v)) (place_stays z m ends z.tasks v (λ h. c))
                ∙ ap (λ (k : List Entry). of (place m v) k (G.logs v)) (same-run v (place m v).count),
          )

  wake_good : Good z v₀ m₁ G
  unfolding view
  wake_good = (
    good.0,
    inv_ext (Inv n B W) (record { word = S.word; held = S.held; task = (view z m₁ G.logs).task }) (view z m₁ G.logs)
        (λ a. ap (λ (k : List ℕ). get_or k a 0) (sym (end_all-words z m ends z.tasks)))
        (λ r. sym (held-from m m₁ (end_all-records z m ends z.tasks) r))
        (λ t. refl)
        (wake_keeps n B W S I ends (view z m₁ G.logs).task (λ v w h j. ends_on m z (joined_small z m ok) u w v h j) (λ v. refl) each),
  )

  pub clash_good : Good z v₀ (clash z m u) G
  unfolding move view
  clash_good =
      clash_cases z m u (λ m'. Good z v₀ m' G)
      (λ c. let k = is_taking _ c in
      silently z v₀ m G good u (moved (place m u) (Releasing Failed 0)) (in_places z m ok u lt) (fail_keeps n B W S I u k.0 k.1 k.2))
      (λ c. wake_good)
      good
