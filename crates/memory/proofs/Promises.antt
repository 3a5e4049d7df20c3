-- Every claim of specs/Claims.antt, kept.
use mathlib.Core.Path.{◌≡◌, sym, ap, ◌∙◌}
use Rattle.memory.specs.{Spoken, Serial, LookedUp, IsSound, Memory, Answer, Reply, replied, ours, Promised, OneOutcome, EveryClaim}
use Rattle.memory.specs.Fixed.Claim.{call_answers, opening_answers, look_answers, refusals_keep, refused_openings_keep, calls_are_narrow, requests_leave, entries_stored, steps_leave, clashes_end, sound_lasts, opening_leaves, opening_is_sound}
use Rattle.memory.proofs.Serial.{always, serial, looked_up}
use Rattle.memory.proofs.Spoken.{spoken}
use Rattle.memory.proofs.SoundLasts.{call-sound}
use Rattle.memory.proofs.Narrow
use Rattle.memory.proofs.Ends
use Rattle.memory.proofs.Answers
use Rattle.memory.proofs.OpenAnswers
use Rattle.memory.proofs.Effects
use Rattle.memory.proofs.Rows
use Rattle.memory.proofs.Stepping
use Rattle.memory.proofs.Listed
use Rattle.memory.proofs.Alone
use Rattle.memory.proofs.LetGo
use Rattle.memory.proofs.Tries
use Rattle.memory.proofs.WholeTurns
use Rattle.memory.proofs.SameBoard
use Rattle.memory.proofs.SameBody
use Rattle.memory.proofs.Meanings
use Rattle.memory.proofs.Fixed
use Rattle.memory.proofs.Needed
use Rattle.memory.proofs.Slips
use Rattle.memory.proofs.PositionsHold

-- the thirteen claims that fix the machine
is_promised : Promised ours
is_promised call_answers = Answers.call_answers
is_promised opening_answers = OpenAnswers.opening_answers
is_promised look_answers = OpenAnswers.look_answers
is_promised refusals_keep = Narrow.refusals_keep
is_promised refused_openings_keep = λ z v m. Narrow.refused_openings_keep z m v
is_promised calls_are_narrow = Narrow.calls_are_narrow
is_promised requests_leave = Effects.requests_leave
is_promised entries_stored = Rows.entries_stored
is_promised steps_leave = Stepping.steps_leave
is_promised clashes_end = Stepping.clashes_end
is_promised sound_lasts = call-sound
is_promised opening_leaves = Effects.opening_leaves
is_promised opening_is_sound = Rows.opening_is_sound

is_one_outcome : OneOutcome
is_one_outcome = (requested, λ specified r s p q. p ∙ sym q)
  where
    answered : Reply → Answer
    answered x = record { number = x.number; value = x.value }

    requested : (specified : Reply) (r s : Answer) (m n : Memory) → replied r m ≡ specified → replied s n ≡ specified → (r ≡ s) × (m ≡ n)
    requested specified r s m n p q = (ap (λ (x : Reply). answered x) (p ∙ sym q), ap (λ (x : Reply). x.after) (p ∙ sym q))

pub every_claim : EveryClaim
every_claim =
    record {
      what_was_said_was_the_board = always Spoken spoken;
      whole_turns_come_through = WholeTurns.whole_turns_come_through;
      reached_turns_come_through = SameBody.reached_turns_come_through;
      the_same_body_comes_through = SameBody.the_same_body_comes_through;
      a_try_ends = Tries.a_try_ends;
      the_woken_ends = LetGo.the_woken_ends;
      calm_is_plain = SameBoard.calm_is_plain;
      alone_it_commits = Alone.alone_it_commits;
      from_the_start_it_commits = Tries.from_the_start_it_commits;
      a_commit_ends = Ends.commit-ends;
      a_commit_is_exact = Ends.commits_exactly;
      runs_are_serial = always Serial serial;
      looks_are_serial = always LookedUp looked_up;
      committed_is_listed = Listed.committed_is_listed;
      reached_is_sound = always IsSound (λ s f. f.0);
      ours_is_promised = is_promised;
      one_machine = Fixed.one_machine;
      it_is_ours = Fixed.it_is_ours is_promised;
      each_is_needed = Needed.each_is_needed is_promised;
      slips_are_refuted = Slips.slips_are_refuted;
      one_number = Answers.one_number;
      one_outcome = is_one_outcome;
      figures = Meanings.figures;
      layout = Meanings.layout;
      sound_means = Meanings.sound_means;
      one_test = Meanings.one_test;
      logical_means = Meanings.logical_means;
      one_sight = Meanings.one_sight;
      positions_hold = PositionsHold.positions_hold;
      further_positions_hold = PositionsHold.further_positions_hold;
    }
