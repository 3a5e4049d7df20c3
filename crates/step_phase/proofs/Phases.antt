-- The laws of a step by the task's phase: what each phase does is what the definition says of a task in that phase.
use Prim.Native.Nat.{ℕ, ◌<◌, ◌≤◌}
use mathlib.Core.Path.{◌≡◌, sym, ap, ◌∙◌}
use mathlib.Core.Logic.{◌⊎◌, ⊎_elim}
use mathlib.Core.List.{List, []}
use lib.ListN.{get_or, set}
use lib.Seq.{set-get_or}
use native.Mathlib.Omega.{arith}
use borrow.Author.Tests.{lt-ltb, le-ltb}
use Rattle.memory.specs.declared.Sizes.{Sizes}
use Rattle.memory.specs.declared.Goal.{Goal}
use Rattle.memory.specs.declared.Outcome.{Outcome}
use Rattle.memory.specs.declared.Outcome.TheVariants.{Committed}
use Rattle.memory.specs.declared.Phase.{Phase}
use Rattle.memory.specs.declared.Phase.TheVariants.{Idle, Open, Taking, Asleep, Writing, Releasing}
use Rattle.memory.specs.declared.Place.{Place}
use Rattle.memory.specs.Pieces.{Memory, memory, place, row_of, limit, ended, moved, set_place, move}
use Rattle.memory.specs.Numbers.{Reply, reply, plain, too_early}
use Rattle.memory.specs.Step.{end_number, step_in}
use Rattle.memory.proofs.Facts.{count_most, position_n}
use Rattle.step_entry.specs.Contract.{Entered, Leaves, writes, releases}
use Rattle.step_entry.proofs.Parts.{row_is}
use Rattle.step_take.specs.Contract as Took
use Rattle.step_take.specs.Contract.{takes}
use Rattle.step_phase.specs.declared.Moved.{Moved}
use Rattle.step_phase.specs.Contract.{Ready, Stepped, Decided, plainly}

-- a row stored back as it was changes nothing
stays : (m : Memory) (t : ℕ) → get_or m.places t [] ≡ row_of (place m t) → set_place m t (place m t) ≡ m
unfolding set_place
stays m t row = ap (λ (l : List (List ℕ)). memory m.words m.records l m.entries) (ap (set m.places t) (sym row) ∙ set-get_or m.places t [])

-- The step of a task whose place is q -----------------------------------------------------------------------------------------

module _ {q : Place} {z : Sizes} {words records : List ℕ} {places entries : List (List ℕ)} {t : ℕ} (y : Ready q z words records places entries t) where
  abbrev m : Memory
  m = memory words records places entries

  -- the step of a task in the phase p, and what it leaves where the tables are as they were
  abbrev In : Phase → Reply
  In p = step_in z m t q.count p

  abbrev Leads : Moved → Type 0
  Leads r = Stepped q z words records places entries t r.place words records places r.answer

  few : q.count ≤ limit z
  few = rw y.own (count_most z m y.among.ok t y.among.task_in)

  pub entered : {i : ℕ} → i < q.count → Entered z m t i
  entered h = record { among = y.among; entry_in = rw y.own at h }

  -- Over an entry --------------------------------------------------------------------------------------------------------------

  over : {i : ℕ} {p : Phase} {w : Memory} {words' records' : List ℕ} {places' : List (List ℕ)}
      → i < q.count → Leaves m (memory words' records' places' entries) t i p w → step_in z m t q.count q.phase ≡ reply 0 0 w
      → Stepped q z words records places entries t (moved q p) words' records' places' (plain 0)
  over {p = p} {words'} {records'} {places'} h l k =
      record {
        leaves = ap (λ (x : Place). reply 0 0 (set_place (memory words' records' places' entries) t (moved x p))) y.own ∙ ap (reply 0 0) l.leaves ∙ sym k;
        count_fits = few;
        position_fits = omega (arith, l.near);
      }

  pub over_taking : {g : Goal} {i : ℕ} {q' : Place} {records' : List ℕ} {places' : List (List ℕ)} → q.phase ≡ Taking g i → i < q.count
      → Took.Leaves m (memory words records' places' entries) t i q' (takes z m t g i)
      → Stepped q z words records places entries t q' words records' places' (plain 0)
  unfolding step_in
  over_taking {i = i} e h l =
      record {
        leaves = ap (reply 0 0) l.leaves ∙ sym (ap In e ∙ rw (lt-ltb i q.count h));
        count_fits = omega (arith, few, l.same_count ∙ ap (λ (x : Place). x.count) (sym y.own));
        position_fits = omega (arith, l.near, l.same_count ∙ ap (λ (x : Place). x.count) (sym y.own));
      }

  pub over-writing : {i : ℕ} {p : Phase} {words' : List ℕ} → q.phase ≡ Writing i → i < q.count
      → Leaves m (memory words' records places entries) t i p (writes z m t i)
      → Stepped q z words records places entries t (moved q p) words' records places (plain 0)
  unfolding step_in
  over-writing {i = i} e h l = over h l (ap In e ∙ rw (lt-ltb i q.count h))

  pub over_releasing : {o : Outcome} {i : ℕ} {p : Phase} {records' : List ℕ} → q.phase ≡ Releasing o i → i < q.count
      → Leaves m (memory words records' places entries) t i p (releases z m t o i)
      → Stepped q z words records places entries t (moved q p) words records' places (plain 0)
  unfolding step_in
  over_releasing {i = i} e h l = over h l (ap In e ∙ rw (lt-ltb i q.count h))

  -- At n -----------------------------------------------------------------------------------------------------------------------

  pub decides : {g : Goal} {i : ℕ} {r : Moved} → q.phase ≡ Taking g i → q.count ≤ i → Decided q g r → Leads r
  unfolding step_in
  decides {i = i} e h d =
      record {
        leaves = d.leaves m t y.own ∙ sym (ap In e ∙ rw (le-ltb i q.count h));
        count_fits = omega (arith, few, d.same_count);
        position_fits = omega (arith, d.at_start);
      }

  pub written : {i : ℕ} → q.phase ≡ Writing i → q.count ≤ i → Leads (plainly (moved q (Releasing Committed 0)) 0)
  unfolding step_in move
  written {i = i} e h =
      record {
        leaves = ap (λ (x : Place). reply 0 0 (set_place m t (moved x (Releasing Committed 0)))) y.own ∙ sym (ap In e ∙ rw (le-ltb i q.count h));
        count_fits = few;
        position_fits = omega arith;
      }

  pub ends : {o : Outcome} {i : ℕ} → q.phase ≡ Releasing o i → q.count ≤ i → Leads (plainly ended (end_number o))
  unfolding step_in
  ends {i = i} e h =
      record {
        leaves = sym (ap In e ∙ rw (le-ltb i q.count h));
        count_fits = omega arith;
        position_fits = omega arith;
      }

  -- Nothing changes ------------------------------------------------------------------------------------------------------------

  keeps : (n : ℕ) → In q.phase ≡ reply n 0 m → Leads (plainly q n)
  keeps n k =
      record {
        leaves = ap (reply n 0) (ap (set_place m t) y.own ∙ stays m t (row_is y.among)) ∙ sym k;
        count_fits = few;
        position_fits = rw y.own (position_n z m y.among.ok t y.among.task_in);
      }

  pub asleep : q.phase ≡ Asleep → Leads (plainly q 20)
  unfolding step_in
  asleep e = keeps 20 (ap In e)

  pub refuses : (q.phase ≡ Open) ⊎ (q.phase ≡ Idle) → Leads (plainly q (too_early q.phase))
  unfolding step_in
  refuses = ⊎_elim (λ e. keeps (too_early q.phase) (rw e)) (λ e. keeps (too_early q.phase) (rw e))
