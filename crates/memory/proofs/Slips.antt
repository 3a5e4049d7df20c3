-- Each slip is refuted, on a small board where it shows.
use Prim.Native.Nat.{ℕ, ◌%◌}
use mathlib.Core.Path.{◌≡◌, refl, ap, subst⁻¹}
use mathlib.Core.Logic.{inl, inr, ◌⊎◌}
use mathlib.Core.List.Memᴰ
use mathlib.Core.List.{List, [], ◌∷◌, ◌++◌, map}
use mathlib.Core.Bool.{false≢true}
use lib.ListN.{length, get_or, replicate}
use native.Mathlib.Omega.{arith}
use borrow.Author.Tests.{eqb-false}
use Rattle.memory.specs.{Sizes, Idle, Asleep, Version, Owner, Seen, Entry, Memory, memory, top_version, first_owner, kind_of, number_of, held, place, limit, entries, blank, set_held, opened, Call, ST, CM, WT, SP, RD, WR, ours, leaves, small, board_after, sleeping, writes7, commits, late, upd, ◌∈◌, request}
use Rattle.memory.specs.Slips.{read_keeps_second, write_keeps_second, thousand_in_write, opening_one_first, thousand_in_opening, thirty_one_tasks, asleep_answers_0, committer_untouched, waiter_untouched, sleeper_untouched, comer_untouched, comer_steals, ends_committed, wakes_and_takes, always_refuses, always_fails}
use Rattle.memory.specs.SlipsRefuted.{SlipsAreRefuted}
use Rattle.memory.proofs.Machine.{machine}
use Rattle.memory.proofs.Example.{lent}
use Rattle.memory.proofs.Breaks.{differ, phase_kind, other_read, other_write, other_step, other_opening, met, owner_ended, after, nothing}
use Rattle.memory.proofs.SlipsEntries.{rows, six_for_known_read, six_for_known_write, nine_before_six_read, nine_before_six_write, sixty_three_read, sixty_three_write, six_before_five_read, six_before_five_write}
use Rattle.memory.proofs.SlipsLists.{wakes_one_lem, takers_left_lem, lists_kept_lem, lists_kept_unsound, joins_any_version_lem, differing_wakes_lem, joins_taker_lem, joins_last_lem, idle_stays_listed_lem, passes_way_back_lem}
use Rattle.memory.proofs.SlipsWhole.{sleeper_untouched_a_try, sleeper_untouched_a_turn}

-- Boards --------------------------------------------------------------------------------------------------------------------------

-- a record has an owner that is no task
stray_owner : Memory
stray_owner = set_held (after []) 0 (Owner 9)

-- Task 1 has read 1, task 0 does something, and task 1 begins to take for commit.
coming : List Call → Memory
coming cs = after (ST 1 ∷ RD 1 1 ∷ cs ++ CM 1 ∷ [])

-- task 0 waits on 1, with a number of steps: with one it takes, with two it sleeps
waits : ℕ → List Call
waits n = ST 0 ∷ RD 0 1 ∷ WT 0 ∷ replicate n (SP 0)

-- One task takes three addresses for commit, each on a record of its own: at the first of them, and at the third.
four : Sizes
four = record { words = 4; records = 4; tasks = 1 }

three : ℕ → List ℕ → Memory
three i records = memory (replicate 4 0) records ((3 ∷ 2 ∷ i ∷ 0 ∷ []) ∷ []) (rows (limit four) 0)

first : Memory
first = three 0 (1 ∷ 1 ∷ 1 ∷ 1 ∷ [])

third : Memory
third = three 2 (first_owner ∷ first_owner ∷ 1 ∷ 1 ∷ [])

-- Lemmas --------------------------------------------------------------------------------------------------------------------------

-- what is shown of each entry of a list holds of all of them
abbrev Each : (Entry → Type 0) → List Entry → Type 0
Each P [] = Unit {0}
Each P (x ∷ xs) = P x × Each P xs

each : (P : Entry → Type 0) (l : List Entry) → Each P l → (e : Entry) → e ∈ l → P e
each P [] h e k = absurd (Memᴰ.not-nil k)
each P (x ∷ xs) h e k = go (λ j. each P xs h.1 e j) (Memᴰ.cases_cons k)
  where
    go : (e ∈ xs → P e) → (e ≡ x) ⊎ e ∈ xs → P e
    go f (inl q) = subst⁻¹ P q h.0
    go f (inr j) = f j

free : (e : Entry) → e ∈ entries four first 0 → held first (e.address % four.records) ≡ Version e.old.version
unfolding machine four three rows first
free = each (λ e. held first (e.address % four.records) ≡ Version e.old.version) (entries four first 0) (refl, (refl, (refl, tt)))

-- The slips -----------------------------------------------------------------------------------------------------------------------

pub slips_are_refuted : SlipsAreRefuted
unfolding machine small board_after after nothing stray_owner coming waits four three first third rows lent sleeping writes7 commits late upd
slips_are_refuted =
    record {
      start_resets_another_lem = λ h. differ (λ (l : List ℕ). get_or l 1 0) ((h small (after (ST 1 ∷ [])) (ST 0)).places 1 (eqb-false 1 0 refl)) refl;
      six_for_known_read = six_for_known_read;
      six_for_known_write = six_for_known_write;
      nine_before_six_read = nine_before_six_read;
      nine_before_six_write = nine_before_six_write;
      sixty_three_read = sixty_three_read;
      sixty_three_write = sixty_three_write;
      six_before_five_read = six_before_five_read;
      six_before_five_write = six_before_five_write;
      read_keeps_second_lem = other_read read_keeps_second small (after late) 1 3 refl;
      write_keeps_second_lem = other_write write_keeps_second small (after late) 1 3 7 refl;
      reads_bare_word_lem = λ h. eqb-false 0 7 refl ((h small (after (ST 1 ∷ writes7 ++ commits 2)) (RD 1 1)).1.2 refl (λ e k q. Memᴰ.not-nil k));
      eight_adds_entry_lem = λ h. differ (λ (m : Memory). (place m 0).count) (h small (board_after (opened small top_version) (ST 0 ∷ [])) (WR 0 1 7) refl) refl;
      thousand_in_write_lem = other_write thousand_in_write small (board_after (opened small 1000) (ST 0 ∷ [])) 0 1 7 refl;
      looks_bare_word_lem = λ h. eqb-false 0 7 refl ((h small (after (writes7 ++ commits 2)) 1).2 refl).0;
      opening_one_first_lem = other_opening opening_one_first small 0 nothing refl;
      thousand_in_opening_lem = other_opening thousand_in_opening small 1001 nothing refl;
      thirty_one_tasks_lem = other_opening thirty_one_tasks (record { words = 4; records = 2; tasks = 32 }) 1 nothing refl;
      opens_entries_as_lent_lem = λ h. differ (λ (l : List (List ℕ)). length (get_or l 0 [])) (h small 1 lent refl).entries refl;
      opens_with_an_owner_lem = λ h. differ (λ (l : List ℕ). get_or l 0 0) (h small 1 lent refl).records refl;
      opens_unsound = λ h. false≢true (h small 1 lent refl);
      asleep_answers_0_lem = other_step asleep_answers_0 small (after sleeping) 1 Asleep refl refl refl;
      third_take_fails_lem = λ h. differ phase_kind ((h four third 0 refl (omega arith)).1 (omega arith) refl).own refl;
      third_take_fails_alone = λ h. differ (λ (l : List ℕ). get_or l 6 0) (h four first 0 (omega arith) refl refl free) refl;
      rests_once_lem = λ h. differ phase_kind ((h small (after (ST 0 ∷ commits 1)) 0 refl (omega arith)).0 refl).own refl;
      rests_once_alone = λ h.
          differ (λ (l : List ℕ). get_or l 2 0) (h small (after (ST 0 ∷ commits 0)) 0 (omega arith) refl refl (λ e k. absurd (Memᴰ.not-nil k))) refl;
      releases_early_lem = λ h. differ number_of (((h small (after (ST 0 ∷ WR 0 0 5 ∷ WR 0 1 7 ∷ commits 3)) 0 refl (omega arith)).1 (omega arith)).records 0) refl;
      invents_versions_lem = λ h.
          differ number_of ((h small (leaves ours small (coming (writes7 ++ commits 1)) (SP 1 ∷ [])) 0 refl (omega arith)).1 (omega arith) refl).records.0 refl;
      commits_at_once_lem = λ h. eqb-false 7 0 refl (((h small (after (writes7 ++ commits 0)) 0 refl (omega arith)).1 (omega arith) refl).words 1);
      committer_untouched_lem = λ h. differ kind_of (owner_ended (met committer_untouched (coming (writes7 ++ commits 1)) refl refl refl refl h)) refl;
      waiter_untouched_lem = λ h. differ kind_of (owner_ended (met waiter_untouched (coming (waits 1)) refl refl refl refl h)) refl;
      sleeper_untouched_lem = λ h. differ kind_of (owner_ended (met sleeper_untouched (coming (waits 2)) refl refl refl refl h)) refl;
      sleeper_untouched_a_try = sleeper_untouched_a_try;
      sleeper_untouched_a_turn = sleeper_untouched_a_turn;
      comer_untouched_lem = λ h. differ phase_kind (met comer_untouched (coming (writes7 ++ commits 1)) refl refl refl refl h).comer refl;
      comer_steals_lem = λ h. differ (λ (l : List ℕ). get_or l 1 0) (met comer_steals (coming (writes7 ++ commits 1)) refl refl refl refl h).records refl;
      ends_committed_lem = λ h. differ kind_of (owner_ended (met ends_committed (coming (writes7 ++ commits 2)) refl refl refl refl h)) refl;
      wakes_and_takes_lem = λ h. differ phase_kind (met wakes_and_takes (coming (waits 2)) refl refl refl refl h).comer refl;
      wakes_one_lem = wakes_one_lem;
      takers_left_lem = takers_left_lem;
      lists_kept_lem = lists_kept_lem;
      lists_kept_unsound = lists_kept_unsound;
      joins_any_version_lem = joins_any_version_lem;
      differing_wakes_lem = differing_wakes_lem;
      joins_taker_lem = joins_taker_lem;
      joins_last_lem = joins_last_lem;
      idle_stays_listed_lem = idle_stays_listed_lem;
      always_refuses_lem = other_read always_refuses small (after (ST 0 ∷ [])) 0 1 refl;
      always_fails_lem = other_step always_fails small (after (writes7 ++ commits 5)) 0 Idle refl refl refl;
      changes_nothing_lem = λ h. differ phase_kind (h small (after []) (ST 0) refl).0 refl;
      opening_changes_nothing = λ h. differ (λ (l : List ℕ). get_or l 0 0) (h small 1 lent refl).words refl;
      passes_any_owner_lem = λ h. let k = (((h small stray_owner).0 refl).owners 0 9 (omega arith) refl).task in absurd (omega (arith, k));
      passes_way_back_lem = passes_way_back_lem;
      sees_bare_word_lem = λ h.
          eqb-false 0 7 refl (ap (λ (s : Seen). s.value) ((h small (after (writes7 ++ commits 2)) refl 1).known 0 refl _ (Memᴰ.head refl) refl));
      skips_newest_lem = λ h. eqb-false 1 0 refl (h 0 (blank ∷ []) (λ i j d k q. omega arith));
      skips_oldest_lem = λ h. eqb-false 1 0 refl (h 0 (blank ∷ []) (λ i j d k q. omega arith));
      only_writers_lem = λ h. differ length ((h small 1 lent refl (map request (ST 0 ∷ CM 0 ∷ []))).decided 0 (omega arith) refl) refl;
      no_commit_lem = λ h. differ length ((h small 1 lent refl (map request (ST 0 ∷ CM 0 ∷ []))).decided 0 (omega arith) refl) refl;
      counts_no_writer_lem = λ h. eqb-false 2 1 refl (h small 1 lent refl (map request (writes7 ++ commits 2)) 1);
    }
