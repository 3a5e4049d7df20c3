-- §15.3: the claims that fix the machine: whatever meets them is ours, and none of them follows from the others.
use Rattle.std.specs.Prelude.{◌≡◌, ◌≢◌}
use Rattle.memory.specs.Machines.{Machine}
use Rattle.memory.specs.Kept.{RefusalsKeep, RefusedOpeningsKeep, CallsAreNarrow, SoundLasts}
use Rattle.memory.specs.Answers.{CallAnswers, OpeningAnswers, LookAnswers}
use Rattle.memory.specs.Effects.{RequestsLeave, EntriesStored, OpeningLeaves, OpeningIsSound}
use Rattle.memory.specs.Stepping.{StepsLeave, ClashesEnd}

pub data Claim : Type 0 where
  call_answers opening_answers look_answers : Claim
  refusals_keep refused_openings_keep calls_are_narrow : Claim
  requests_leave entries_stored steps_leave clashes_end sound_lasts : Claim
  opening_leaves opening_is_sound : Claim

-- what each says of a machine
abbrev pub Says : Claim → Machine → Type 0
Says call_answers M = CallAnswers M
Says opening_answers M = OpeningAnswers M
Says look_answers M = LookAnswers M
Says refusals_keep M = RefusalsKeep M
Says refused_openings_keep M = RefusedOpeningsKeep M
Says calls_are_narrow M = CallsAreNarrow M
Says requests_leave M = RequestsLeave M
Says entries_stored M = EntriesStored M
Says steps_leave M = StepsLeave M
Says clashes_end M = ClashesEnd M
Says sound_lasts M = SoundLasts M
Says opening_leaves M = OpeningLeaves M
Says opening_is_sound M = OpeningIsSound M

-- all of them
abbrev pub Promised : Machine → Type 0
Promised M = (c : Claim) → Says c M

-- Two machines that meet the claims answer alike and leave the same memory, whatever the sizes, the memory and the call: they are
-- one.
abbrev pub OneMachine : Type 0
OneMachine = (M N : Machine) → Promised M → Promised N → M ≡ N

-- No claim follows from the other twelve: there is a machine that meets these and breaks it.
pub record Needed (c : Claim) : Type 0 where
  pub wrong : Machine
  pub meets : (d : Claim) → d ≢ c → Says d wrong
  pub breaks : Says c wrong → ⊥

abbrev pub EachIsNeeded : Type 0
EachIsNeeded = (c : Claim) → Needed c
