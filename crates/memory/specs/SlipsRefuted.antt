-- The claim that each slip breaks: no proof of it can be given. Some break two.
use Rattle.memory.specs.Answers.{CallAnswers, OpeningAnswers, LookAnswers}
use Rattle.memory.specs.Effects.{RequestsLeave, OpeningLeaves, OpeningIsSound}
use Rattle.memory.specs.Stepping.{StepsLeave, ClashesEnd}
use Rattle.memory.specs.Kept.{RefusalsKeep, CallsAreNarrow, SoundLasts}
use Rattle.memory.specs.Order.{Always, CommittedIsListed}
use Rattle.memory.specs.Alone.{AloneItCommits}
use Rattle.memory.specs.Whole.{ATryEnds, WholeTurnsComeThrough}
use Rattle.memory.specs.Meanings.{SoundMeans, LogicalMeans, SearchMeans}
use Rattle.memory.specs.Wrong.{reading, writing}
use Rattle.memory.specs.Slips.{start_resets_another, six_for_known, nine_before_six, sixty_three, six_before_five, read_keeps_second, write_keeps_second, reads_bare_word, eight_adds_entry, thousand_in_write, looks_bare_word, opening_one_first, thousand_in_opening, thirty_one_tasks, opens_entries_as_lent, opens_with_an_owner, asleep_answers_0, third_take_fails, rests_once, releases_early, invents_versions, commits_at_once, committer_untouched, waiter_untouched, sleeper_untouched, comer_untouched, comer_steals, ends_committed, wakes_and_takes, always_refuses, always_fails, changes_nothing, passes_any_owner, sees_bare_word, skips_newest, skips_oldest, only_writers, no_commit, counts_no_writer}
use Rattle.memory.specs.SlipsLists.{wakes_one, takers_left, lists_kept, joins_any_version, differing_wakes, joins_taker, joins_last, idle_stays_listed, passes_way_back}

pub record SlipsAreRefuted : Type 0 where
  -- requests
  pub start_resets_another_lem : CallsAreNarrow start_resets_another → ⊥
  pub six_for_known_read : CallAnswers (reading six_for_known) → ⊥
  pub six_for_known_write : CallAnswers (writing (λ a v. six_for_known a)) → ⊥
  pub nine_before_six_read : CallAnswers (reading nine_before_six) → ⊥
  pub nine_before_six_write : CallAnswers (writing (λ a v. nine_before_six a)) → ⊥
  pub sixty_three_read : CallAnswers (reading sixty_three) → ⊥
  pub sixty_three_write : CallAnswers (writing (λ a v. sixty_three a)) → ⊥
  pub six_before_five_read : CallAnswers (reading six_before_five) → ⊥
  pub six_before_five_write : CallAnswers (writing (λ a v. six_before_five a)) → ⊥
  pub read_keeps_second_lem : CallAnswers read_keeps_second → ⊥
  pub write_keeps_second_lem : CallAnswers write_keeps_second → ⊥
  pub reads_bare_word_lem : CallAnswers reads_bare_word → ⊥
  pub eight_adds_entry_lem : RefusalsKeep eight_adds_entry → ⊥
  pub thousand_in_write_lem : CallAnswers thousand_in_write → ⊥
  -- opening and the look-up
  pub looks_bare_word_lem : LookAnswers looks_bare_word → ⊥
  pub opening_one_first_lem : OpeningAnswers opening_one_first → ⊥
  pub thousand_in_opening_lem : OpeningAnswers thousand_in_opening → ⊥
  pub thirty_one_tasks_lem : OpeningAnswers thirty_one_tasks → ⊥
  pub opens_entries_as_lent_lem : OpeningLeaves opens_entries_as_lent → ⊥
  pub opens_with_an_owner_lem : OpeningLeaves opens_with_an_owner → ⊥
  pub opens_unsound : OpeningIsSound opens_with_an_owner → ⊥
  -- steps
  pub asleep_answers_0_lem : CallAnswers asleep_answers_0 → ⊥
  pub third_take_fails_lem : StepsLeave third_take_fails → ⊥
  pub third_take_fails_alone : AloneItCommits third_take_fails → ⊥
  pub rests_once_lem : StepsLeave rests_once → ⊥
  pub rests_once_alone : AloneItCommits rests_once → ⊥
  pub releases_early_lem : StepsLeave releases_early → ⊥
  pub invents_versions_lem : StepsLeave invents_versions → ⊥
  pub commits_at_once_lem : StepsLeave commits_at_once → ⊥
  -- clashes
  pub committer_untouched_lem : ClashesEnd committer_untouched → ⊥
  pub waiter_untouched_lem : ClashesEnd waiter_untouched → ⊥
  pub sleeper_untouched_lem : ClashesEnd sleeper_untouched → ⊥
  pub sleeper_untouched_a_try : ATryEnds sleeper_untouched → ⊥
  pub sleeper_untouched_a_turn : WholeTurnsComeThrough sleeper_untouched → ⊥
  pub comer_untouched_lem : ClashesEnd comer_untouched → ⊥
  pub comer_steals_lem : ClashesEnd comer_steals → ⊥
  pub ends_committed_lem : ClashesEnd ends_committed → ⊥
  pub wakes_and_takes_lem : ClashesEnd wakes_and_takes → ⊥
  -- lists
  pub wakes_one_lem : ClashesEnd wakes_one → ⊥
  pub takers_left_lem : ClashesEnd takers_left → ⊥
  pub lists_kept_lem : ClashesEnd lists_kept → ⊥
  pub lists_kept_unsound : SoundLasts lists_kept → ⊥
  pub joins_any_version_lem : ClashesEnd joins_any_version → ⊥
  pub differing_wakes_lem : ClashesEnd differing_wakes → ⊥
  pub joins_taker_lem : ClashesEnd joins_taker → ⊥
  pub joins_last_lem : ClashesEnd joins_last → ⊥
  pub idle_stays_listed_lem : StepsLeave idle_stays_listed → ⊥
  -- all in all
  pub always_refuses_lem : CallAnswers always_refuses → ⊥
  pub always_fails_lem : CallAnswers always_fails → ⊥
  pub changes_nothing_lem : RequestsLeave changes_nothing → ⊥
  pub opening_changes_nothing : OpeningLeaves changes_nothing → ⊥
  -- what the claims lean on
  pub passes_any_owner_lem : SoundMeans passes_any_owner → ⊥
  pub passes_way_back_lem : SoundMeans passes_way_back → ⊥
  pub sees_bare_word_lem : LogicalMeans sees_bare_word → ⊥
  pub skips_newest_lem : SearchMeans skips_newest → ⊥
  pub skips_oldest_lem : SearchMeans skips_oldest → ⊥
  -- histories
  pub only_writers_lem : CommittedIsListed only_writers → ⊥
  pub no_commit_lem : CommittedIsListed no_commit → ⊥
  pub counts_no_writer_lem : Always counts_no_writer → ⊥
