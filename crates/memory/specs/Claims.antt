-- What is promised: every claim by its name, in the order of docs/PROMISES.md, with the file that says it. proofs/Promises.antt
-- keeps them.
use Rattle.std.specs.Prelude.{◌≡◌}
use Rattle.memory.specs.Pieces.{Memory}
use Rattle.memory.specs.Logical.{logical}
use Rattle.memory.specs.Sound.{sound}
use Rattle.memory.specs.Numbers.{Answer, Looked, Reply, replied}
use Rattle.memory.specs.Machines.{Machine, ours}
use Rattle.memory.specs.Positions.{PositionsHold}
use Rattle.memory.specs.Further.{FurtherPositionsHold}
use Rattle.memory.specs.History.{listed}
use Rattle.memory.specs.Answers.{OneNumber}
use Rattle.memory.specs.Bounds.{CommitEnds, CommitIsExact}
use Rattle.memory.specs.Order.{RunsAreSerial, LooksAreSerial, CommittedIsListed, ReachedIsSound}
use Rattle.memory.specs.Said.{WhatWasSaidWasTheBoard}
use Rattle.memory.specs.Alone.{AloneItCommits, FromTheStartItCommits}
use Rattle.memory.specs.Whole.{ATryEnds, TheWokenEnds, WholeTurnsComeThrough, TheSameBodyComesThrough, CalmIsPlain, ReachedTurnsComeThrough}
use Rattle.memory.specs.Meanings.{Figures, Layout, SoundMeans, OneTest, LogicalMeans, OneSight}
use Rattle.memory.specs.Fixed.{Promised, OneMachine, EachIsNeeded}
use Rattle.memory.specs.SlipsRefuted.{SlipsAreRefuted}

-- Two outcomes that one contract allows are equal: of every contract that says `replied r after ≡ what is specified`, and of the
-- look-up's, which is lent nothing to write and says `r ≡ what is specified`.
abbrev pub OneOutcome : Type 0
OneOutcome =
    ((specified : Reply) (r s : Answer) (m n : Memory) → replied r m ≡ specified → replied s n ≡ specified → (r ≡ s) × (m ≡ n))
    × ((specified r s : Looked) → r ≡ specified → s ≡ specified → r ≡ s)

pub record EveryClaim : Type 1 where
  -- What a label said was the board (Said).
  pub what_was_said_was_the_board : WhatWasSaidWasTheBoard
  -- It comes through: a whole turn, with the sleepers in its way (Whole); a transaction that nobody disturbs (Alone).
  pub whole_turns_come_through : WholeTurnsComeThrough ours
  pub reached_turns_come_through : ReachedTurnsComeThrough
  pub the_same_body_comes_through : TheSameBodyComesThrough ours
  pub a_try_ends : ATryEnds ours
  pub the_woken_ends : TheWokenEnds ours
  pub calm_is_plain : CalmIsPlain
  pub alone_it_commits : AloneItCommits ours
  pub from_the_start_it_commits : FromTheStartItCommits ours
  -- It ends in any case, within so many steps of its own (Bounds).
  pub a_commit_ends : CommitEnds
  pub a_commit_is_exact : CommitIsExact
  -- The third demand: the memory is the list, played one at a time (Order).
  pub runs_are_serial : RunsAreSerial
  pub looks_are_serial : LooksAreSerial
  pub committed_is_listed : CommittedIsListed listed
  pub reached_is_sound : ReachedIsSound
  -- The first and the second: thirteen claims (Answers, Effects, Stepping, Kept) fix the machine, and each is needed (Fixed,
  -- Thirteen). Slips break them or another claim (Slips, SlipsRefuted).
  pub ours_is_promised : Promised ours
  pub one_machine : OneMachine
  pub it_is_ours : (M : Machine) → Promised M → M ≡ ours
  pub each_is_needed : EachIsNeeded
  pub slips_are_refuted : SlipsAreRefuted
  pub one_number : OneNumber
  -- A contract that says one of them leaves the code no choice.
  pub one_outcome : OneOutcome
  -- What the claims lean on, in other words (Meanings).
  pub figures : Figures
  pub layout : Layout
  pub sound_means : SoundMeans sound
  pub one_test : OneTest
  pub logical_means : LogicalMeans logical
  pub one_sight : OneSight
  -- Boards that were worked out by hand (Positions, Further).
  pub positions_hold : PositionsHold
  pub further_positions_hold : FurtherPositionsHold
