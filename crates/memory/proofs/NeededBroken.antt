-- Each of the thirteen wrong machines breaks its claim.
use Prim.Native.Nat.{ℕ, ◌-◌}
use mathlib.Core.Path.{refl}
use mathlib.Core.List.{List, [], ◌∷◌, ◌++◌}
use mathlib.Core.Bool.{false≢true}
use lib.ListN.{length, get_or}
use native.Mathlib.Omega.{arith}
use borrow.Author.Tests.{eqb-false}
use Rattle.memory.specs.{Memory, memory, kind_of, limit, opened, ST, CM, AB, RD, small, board_after, writes7, commits, CallAnswers, OpeningAnswers, LookAnswers, RefusalsKeep, RefusedOpeningsKeep, CallsAreNarrow, RequestsLeave, EntriesStored, StepsLeave, ClashesEnd, SoundLasts, OpeningLeaves, OpeningIsSound}
use Rattle.memory.specs.Thirteen.{start_says_1, opening_says_1, look_says_5_first, refused_start_opens, refused_opening_clears, start_writes, abort_does_nothing, read_scribbles, writing_stays, owner_stays, start_widens, opening_writes, opening_leaves_no_rows}
use Rattle.memory.proofs.Machine.{machine}
use Rattle.memory.proofs.Breaks.{differ, phase_kind, other_look, met, owner_ended, after, nothing}

pub start_says_1_lem : CallAnswers start_says_1 → ⊥
unfolding machine small board_after after
start_says_1_lem h = eqb-false 1 0 refl (h small (after []) (ST 0)).1

pub opening_says_1_lem : OpeningAnswers opening_says_1 → ⊥
unfolding machine small nothing
opening_says_1_lem h = eqb-false 1 0 refl (h small 1 nothing).1

pub look_says_5_first_lem : LookAnswers look_says_5_first → ⊥
unfolding machine small nothing
look_says_5_first_lem = other_look look_says_5_first small nothing 9 refl

pub refused_start_opens_lem : RefusalsKeep refused_start_opens → ⊥
unfolding machine small
refused_start_opens_lem h = differ (λ (x : Memory). length (get_or x.places 0 [])) (h small (memory [] [] ([] ∷ []) []) (ST 0) refl) refl

pub refused_opening_clears_lem : RefusedOpeningsKeep refused_opening_clears → ⊥
unfolding machine small nothing
refused_opening_clears_lem h = differ (λ (x : Memory). length x.words) (h small 1 nothing refl) refl

pub start-writes : CallsAreNarrow start_writes → ⊥
unfolding machine small board_after after
start-writes h = differ (λ (l : List ℕ). get_or l 0 0) (h small (after []) (ST 0)).words refl

pub abort_does_nothing_lem : RequestsLeave abort_does_nothing → ⊥
unfolding machine small board_after after
abort_does_nothing_lem h = differ phase_kind (h small (after (ST 0 ∷ [])) (AB 0) refl).0 refl

pub read_scribbles_lem : EntriesStored read_scribbles → ⊥
unfolding machine small board_after after
read_scribbles_lem h = differ (λ (l : List ℕ). get_or l 0 0) ((h small (after (ST 0 ∷ [])) (RD 0 1) refl).beyond (limit small - 1) (omega arith) (omega arith)) refl

-- with 7 to be written at 1
pub writing_stays_lem : StepsLeave writing_stays → ⊥
unfolding machine small board_after after writes7 commits
writing_stays_lem h = eqb-false 0 7 refl ((h small (after (writes7 ++ commits 2)) 0 refl (omega arith)).1 (omega arith)).words.0

-- task 1 comes to a record that task 0 owns in Taking
pub owner_stays_lem : ClashesEnd owner_stays → ⊥
unfolding machine small board_after after writes7 commits
owner_stays_lem h = differ kind_of (owner_ended (met owner_stays (after (ST 1 ∷ RD 1 1 ∷ writes7 ++ commits 1 ++ CM 1 ∷ [])) refl refl refl refl h)) refl

pub start_widens_lem : SoundLasts start_widens → ⊥
unfolding machine small board_after after
start_widens_lem h = false≢true (h small (after []) refl (ST 0))

pub opening-writes : OpeningLeaves opening_writes → ⊥
unfolding machine small
opening-writes h = differ (λ (l : List ℕ). get_or l 0 0) (h small 1 (opened small 1) refl).words refl

pub opening_leaves_no_rows_lem : OpeningIsSound opening_leaves_no_rows → ⊥
unfolding machine small
opening_leaves_no_rows_lem h = false≢true (h small 1 (opened small 1) refl)
