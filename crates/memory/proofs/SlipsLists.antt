-- Slips of lists are refuted, each on a table of three tasks where it shows.
use Prim.Native.Nat.{ℕ, ◌-◌, ◌%◌, ◌<◌}
use mathlib.Core.Path.{◌≡◌, refl, ap}
use mathlib.Core.Logic.{inr, ◌≢◌}
use mathlib.Core.List.{List, [], ◌∷◌, ◌++◌, map}
use mathlib.Core.Bool.{true, false≢true}
use lib.ListN.{replicate}
use native.Mathlib.Omega.{arith}
use borrow.Author.Tests.{eqb-false}
use Rattle.memory.specs.{Sizes, Goal, Commit, Sleep, Failed, Idle, Taking, Asleep, Releasing, Owner, Place, Memory, memory, number_of, kind_of, goal_of, row_of, place, bare, limit, held, entry, sound, SP, Machine, phase, itself, onward, PlacesChange, Stays, Failing, EndsWith, StepsLeave, ClashesEnd, SoundLasts, SoundMeans}
use Rattle.memory.specs.SlipsLists.{listed_on, wakes_one, takers_left, lists_kept, joins_any_version, differing_wakes, joins_taker, joins_last, idle_stays_listed, passes_way_back}
use Rattle.memory.proofs.Machine.{machine}
use Rattle.memory.proofs.Struck.{one_version}
use Rattle.memory.proofs.Stepping.{Three}
use Rattle.memory.proofs.Breaks.{differ, phase_kind}

-- Tables --------------------------------------------------------------------------------------------------------------------------

trio : Sizes
trio = record { words = 4; records = 2; tasks = 3 }

-- Each task has read 1 and then 0, at some version, as far as its number of entries goes.
read_at : ℕ → List (List ℕ)
read_at v = (1 ∷ 0 ∷ 0 ∷ v ∷ v ∷ []) ∷ (0 ∷ 0 ∷ 0 ∷ v ∷ v ∷ []) ∷ replicate (limit trio - 2) (replicate 5 0)

-- task 1 at version v, the others at 1
table : ℕ → List ℕ → List Place → Memory
table v records places = memory (replicate 4 0) records (map row_of places) (read_at 1 ++ read_at v ++ read_at 1)

-- Task 1 owns record 1.
hers : List ℕ
hers = 1 ∷ number_of (Owner 1) ∷ []

-- It sleeps, and task 0 comes to commit; task 2 is on its list.
roused : Place → Memory
roused q = table 1 hers (bare 1 (Taking Commit 0) ∷ bare 1 Asleep ∷ listed_on 2 q ∷ [])

-- Task 2 comes to sleep, and task 1 is in some phase, at version v.
comes : ℕ → Place → Memory
comes v q = table v hers (bare 0 Idle ∷ q ∷ bare 1 (Taking Sleep 0) ∷ [])

-- It sleeps, and so does task 0, which owns record 0; task 2 is on the list of the one and comes to the other.
second : Memory
second = table 1 (number_of (Owner 0) ∷ number_of (Owner 1) ∷ []) (bare 2 Asleep ∷ bare 1 Asleep ∷ listed_on 2 (bare 2 (Taking Sleep 1)) ∷ [])

-- Task 2 is on its list and has released everything.
released : Memory
released = table 1 hers (bare 0 Idle ∷ bare 1 Asleep ∷ listed_on 2 (bare 0 (Releasing Failed 0)) ∷ [])

-- Two sleepers are each on the other's list.
way_back : Memory
way_back = table 1 (1 ∷ 1 ∷ []) (bare 0 Idle ∷ listed_on 4 (bare 0 Asleep) ∷ listed_on 2 (bare 0 Asleep) ∷ [])

-- What the claim says there -------------------------------------------------------------------------------------------------------

-- of task t, which meets task u at its entry i
met : (M : Machine) (m : Memory) (t u : ℕ) (g : Goal) (i : ℕ) → sound trio m ≡ true → t < trio.tasks → phase m t ≡ Taking g i → i < (place m t).count
    → held m ((entry trio m t i).address % trio.records) ≡ Owner u → u ≢ t → ClashesEnd M → Three trio m t u g i (M.call trio m (SP t)).after
met M m t u g i ok lt p d own ne h = (h trio m t ok lt).0 u g i (record { taking = p; within = d; owned = own; other = ne })

-- of task 0, which comes to commit where task 1 sleeps
ends_both : (M : Machine) (q : Place) → sound trio (roused q) ≡ true → ClashesEnd M → PlacesChange (roused q) 0 (M.call trio (roused q) (SP 0)).after Failing (EndsWith (roused q) 1)
unfolding machine trio read_at table hers roused
ends_both M q ok h = (met M (roused q) 0 1 Commit 0 ok (omega arith) refl (omega arith) refl (eqb-false 1 0 refl) h).2 (λ b. omega (arith, ap goal_of b.0))

-- of task 2, which comes to sleep where task 1 sleeps with another version
fails-alone : (M : Machine) → let m = comes 2 (bare 1 Asleep) in ClashesEnd M → PlacesChange m 2 (M.call trio m (SP 2)).after Failing Stays
unfolding machine trio read_at table hers comes
fails-alone M h =
    let m = comes 2 (bare 1 Asleep) in
    (met M m 2 1 Sleep 0 refl (omega arith) refl (omega arith) refl (eqb-false 1 2 refl) h).1 (refl, refl)
    (λ x. eqb-false 2 1 refl ((one_version trio m refl 2 0 1 refl).0 x))

-- The slips -----------------------------------------------------------------------------------------------------------------------

pub wakes_one_lem : ClashesEnd wakes_one → ⊥
unfolding machine trio read_at table hers roused
wakes_one_lem h = differ kind_of (((ends_both wakes_one (bare 1 Asleep) refl h).others 2 (eqb-false 2 0 refl)).0 (onward 2 itself refl)).phase refl

pub takers_left_lem : ClashesEnd takers_left → ⊥
unfolding machine trio read_at table hers roused
takers_left_lem h = differ kind_of (((ends_both takers_left (bare 1 (Taking Sleep 1)) refl h).others 2 (eqb-false 2 0 refl)).0 (onward 2 itself refl)).phase refl

pub lists_kept_lem : ClashesEnd lists_kept → ⊥
unfolding machine trio read_at table hers roused
lists_kept_lem h = (((((ends_both lists_kept (bare 1 Asleep) refl h).others 2 (eqb-false 2 0 refl)).0 (onward 2 itself refl)).joins 1).0 refl).1 itself

pub lists_kept_unsound : SoundLasts lists_kept → ⊥
unfolding machine trio read_at table hers roused
lists_kept_unsound h = false≢true (h trio (roused (bare 1 Asleep)) refl (SP 0))

pub joins_any_version_lem : ClashesEnd joins_any_version → ⊥
unfolding machine trio read_at table hers comes
joins_any_version_lem h = differ phase_kind (fails-alone joins_any_version h).comer refl

pub differing_wakes_lem : ClashesEnd differing_wakes → ⊥
unfolding machine trio read_at table hers comes
differing_wakes_lem h = differ phase_kind ((fails-alone differing_wakes h).others 1 (eqb-false 1 2 refl)) refl

pub joins_taker_lem : ClashesEnd joins_taker → ⊥
unfolding machine trio read_at table hers comes
joins_taker_lem h =
    let m = comes 1 (bare 1 (Taking Sleep 1)) in
    differ phase_kind ((met joins_taker m 2 1 Sleep 0 refl (omega arith) refl (omega arith) refl (eqb-false 1 2 refl) h).2 (λ b. differ kind_of b.1 refl)).comer refl

pub joins_last_lem : ClashesEnd joins_last → ⊥
unfolding machine trio read_at table second
joins_last_lem h =
    false≢true ((((met joins_last second 2 0 Sleep 1 refl (omega arith) refl (omega arith) refl (eqb-false 0 2 refl) h).0 (refl, refl)
    ((one_version trio second refl 2 1 0 refl).1 refl)).comer.joins 1).1 (inr refl))

pub idle_stays_listed_lem : StepsLeave idle_stays_listed → ⊥
unfolding machine trio read_at table hers released
idle_stays_listed_lem h = differ (λ (q : Place). q.joins.bits) ((h trio released 2 refl (omega arith)).0 refl).own refl

pub passes_way_back_lem : SoundMeans passes_way_back → ⊥
unfolding machine trio read_at table way_back
passes_way_back_lem h = (((h trio way_back).0 refl).lists 1 2 (omega arith) refl).ahead (onward 2 itself refl)
