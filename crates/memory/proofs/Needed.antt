-- Each claim is needed: the wrong openings and the wrong look-up, and all thirteen together.
use Prim.Native.Nat.{ℕ}
use mathlib.Core.Path.{◌≡◌, refl, ap}
use mathlib.Core.Logic.{◌≢◌}
use mathlib.Core.List.{List, []}
use mathlib.Core.Bool.{true}
use lib.Dec.{eqb}
use lib.ListN.{get_or, replicate, length-replicate}
use native.Mathlib.Omega.{arith}
use borrow.Author.Tests.{eqb-true}
use Rattle.memory.specs.{Sizes, Memory, place_of, phase_of, place, set_word, sound, Looked, Reply, call, open_board, look, opened, Machine, ours, refusal, OpeningAnswers, LookAnswers, RefusedOpeningsKeep, OpeningLeaves, OpeningIsSound, Opened, Claim, Says, Promised, Needed, EachIsNeeded, call_answers, opening_answers, look_answers, refusals_keep, refused_openings_keep, calls_are_narrow, requests_leave, entries_stored, steps_leave, clashes_end, sound_lasts, opening_leaves, opening_is_sound}
use Rattle.memory.specs.Wrong.{leaving, opening}
use Rattle.memory.specs.Thirteen.{with_places, opening_says_1, look_says_5_first, refused_opening_clears, opening_writes, opening_leaves_no_rows}
use Rattle.memory.proofs.Tools.{if_cases, any_of}
use Rattle.memory.proofs.NeededBroken.{opening_says_1_lem, look_says_5_first_lem, refused_opening_clears_lem, opening-writes, opening_leaves_no_rows_lem}
use Rattle.memory.proofs.Cases.{no_refusal}
use Rattle.memory.proofs.NeededRequests.{word_sound, call_answers_needed, refusals_keep_needed, calls_are_narrow_needed, requests_leave_needed, entries_stored_needed, sound_lasts_needed}
use Rattle.memory.proofs.NeededSteps.{steps_leave_needed, clashes_end_needed}

-- an empty row reads as a place of an idle task, and so does none
no_rows : (n t : ℕ) → get_or {A = List ℕ} (replicate n []) t [] ≡ []
no_rows n t = any_of (λ r. r ≡ []) n [] [] t refl refl

module _ (O : Promised ours) where
  -- the calls of ours, with another opening and another look-up
  module _ (o : Sizes → ℕ → Memory → Reply) (l : Sizes → Memory → ℕ → Looked) (c : Claim) where
    abbrev M : Machine
    M = record { call = call; open_board = o; look = l }

    with_ours : (opening_answers ≢ c → OpeningAnswers M) → (look_answers ≢ c → LookAnswers M) → (refused_openings_keep ≢ c → RefusedOpeningsKeep M)
        → (opening_leaves ≢ c → OpeningLeaves M) → (opening_is_sound ≢ c → OpeningIsSound M) → (d : Claim) → d ≢ c → Says d M
    with_ours h₁ h₂ h₃ h₄ h₅ opening_answers ne = h₁ ne
    with_ours h₁ h₂ h₃ h₄ h₅ look_answers ne = h₂ ne
    with_ours h₁ h₂ h₃ h₄ h₅ refused_openings_keep ne = h₃ ne
    with_ours h₁ h₂ h₃ h₄ h₅ opening_leaves ne = h₄ ne
    with_ours h₁ h₂ h₃ h₄ h₅ opening_is_sound ne = h₅ ne
    with_ours h₁ h₂ h₃ h₄ h₅ call_answers ne = O call_answers
    with_ours h₁ h₂ h₃ h₄ h₅ refusals_keep ne = O refusals_keep
    with_ours h₁ h₂ h₃ h₄ h₅ calls_are_narrow ne = O calls_are_narrow
    with_ours h₁ h₂ h₃ h₄ h₅ requests_leave ne = O requests_leave
    with_ours h₁ h₂ h₃ h₄ h₅ entries_stored ne = O entries_stored
    with_ours h₁ h₂ h₃ h₄ h₅ steps_leave ne = O steps_leave
    with_ours h₁ h₂ h₃ h₄ h₅ clashes_end ne = O clashes_end
    with_ours h₁ h₂ h₃ h₄ h₅ sound_lasts ne = O sound_lasts

  -- the opening leaves something else where it answers n
  module _ (c : Claim) (n : ℕ) (f : Sizes → ℕ → Memory → Memory) where
    abbrev Opens : Type 0
    Opens = (z : Sizes) (v : ℕ) (m : Memory) → let r = open_board z v m in let x = f z v r.after in r.number ≡ n
        → (refused_openings_keep ≢ c → refusal r.number ≡ true → x ≡ m)
        × (opening_leaves ≢ c → r.number ≡ 0 → Opened z v x) × (opening_is_sound ≢ c → r.number ≡ 0 → sound z x ≡ true)

    left : (z : Sizes) (v : ℕ) (m : Memory) → let r = open_board z v m in
        (P : Memory → Type 0) → (r.number ≡ n → P (f z v r.after)) → P r.after → P (leaving n (f z v) r).after
    left z v m P g p = if_cases P (eqb (open_board z v m).number n) _ _ (λ e. g (eqb-true _ _ e)) (λ e. p)

    opens : Opens → (d : Claim) → d ≢ c → Says d (opening (λ z v m r. leaving n (f z v) r))
    opens h =
        with_ours _ look c (λ _. O opening_answers) (λ _. O look_answers)
        (λ ne z v m b. left z v m (λ x. x ≡ m) (λ e. (h z v m e).0 ne b) (O refused_openings_keep z v m b))
        (λ ne z v m k. left z v m (Opened z v) (λ e. (h z v m e).1 ne k) (O opening_leaves z v m k))
        (λ ne z v m k. left z v m (λ x. sound z x ≡ true) (λ e. (h z v m e).2 ne k) (O opening_is_sound z v m k))

  opening_answers_needed : Needed opening_answers
  opening_answers_needed =
      record {
        wrong = opening_says_1;
        breaks = opening_says_1_lem;
        meets = with_ours _ look opening_answers (λ ne. absurd (ne refl)) (λ _. O look_answers)
            (λ _. O refused_openings_keep) (λ _. O opening_leaves) (λ _. O opening_is_sound);
      }

  look_answers_needed : Needed look_answers
  look_answers_needed =
      record {
        wrong = look_says_5_first;
        breaks = look_says_5_first_lem;
        meets = with_ours open_board _ look_answers (λ _. O opening_answers) (λ ne. absurd (ne refl))
            (λ _. O refused_openings_keep) (λ _. O opening_leaves) (λ _. O opening_is_sound);
      }

  refused_openings_keep_needed : Needed refused_openings_keep
  refused_openings_keep_needed =
      record {
        wrong = refused_opening_clears;
        breaks = refused_opening_clears_lem;
        meets = opens refused_openings_keep 1 (λ z v x. opened z v) (λ z v m e. (
          λ ne. absurd (ne refl),
          λ _ n. absurd (omega (arith, e, n)),
          λ _ n. absurd (omega (arith, e, n)),
        ));
      }

  opening_leaves_needed : Needed opening_leaves
  opening_leaves_needed =
      record {
        wrong = opening_writes;
        breaks = opening-writes;
        meets = opens opening_leaves 0 (λ z v x. set_word x 0 1) (λ z v m e. (
          λ _ b. no_refusal 0 refl _ b e,
          λ ne. absurd (ne refl),
          λ _ n. word_sound z _ (O opening_is_sound z v m n),
        ));
      }

  opening_is_sound_needed : Needed opening_is_sound
  opening_is_sound_needed =
      record {
        wrong = opening_leaves_no_rows;
        breaks = opening_leaves_no_rows_lem;
        meets = opens opening_is_sound 0 (λ z v x. with_places x (replicate z.tasks [])) (λ z v m e. (
          λ _ b. no_refusal 0 refl _ b e,
          λ _ n. still z v _ (O opening_leaves z v m n),
          λ ne. absurd (ne refl),
        ));
      }
    where
      still : (z : Sizes) (v : ℕ) (x : Memory) → Opened z v x → Opened z v (with_places x (replicate z.tasks []))
      still z v x o =
          record {
            words = o.words;
            records = o.records;
            places = length-replicate z.tasks [];
            idle = λ t. unfold place place_of phase_of in ap place_of (no_rows z.tasks t);
            entries = o.entries;
          }

  pub each_is_needed : EachIsNeeded
  each_is_needed call_answers = call_answers_needed O
  each_is_needed opening_answers = opening_answers_needed
  each_is_needed look_answers = look_answers_needed
  each_is_needed refusals_keep = refusals_keep_needed O
  each_is_needed refused_openings_keep = refused_openings_keep_needed
  each_is_needed calls_are_narrow = calls_are_narrow_needed O
  each_is_needed requests_leave = requests_leave_needed O
  each_is_needed entries_stored = entries_stored_needed O
  each_is_needed steps_leave = steps_leave_needed O
  each_is_needed clashes_end = clashes_end_needed O
  each_is_needed sound_lasts = sound_lasts_needed O
  each_is_needed opening_leaves = opening_leaves_needed
  each_is_needed opening_is_sound = opening_is_sound_needed
