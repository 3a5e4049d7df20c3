-- The claims that a wrong Start, Abort or Read breaks alone.
use Prim.Native.Nat.{ℕ, ◌+◌, ◌-◌, ◌%◌, ◌<◌}
use mathlib.Core.Path.{◌≡◌, refl, sym, ap, ◌∙◌, subst⁻¹}
use mathlib.Core.Logic.{inl, inr, ◌≢◌}
use mathlib.Core.List.{List, [], ◌∷◌, map}
use mathlib.Core.Bool.{true, false≢true}
use lib.Dec.{ltb}
use lib.ListN.{length, set, take, drop, length-set}
use lib.Seq.{get_or-set_same, get_or-set_other, drop-set-add, take-set-le}
use native.Mathlib.Omega.{arith}
use borrow.Author.Tests.{ltb-true}
use Rattle.memory.specs.{Sizes, Open, Entry, Memory, memory, phase_of, place_of, place, bare, entry, entry_of, row_of_entry, entries, limit, run_start, set_word, set_place, set_entry, sound, lists_ok, joins_ok, join_ok, on_list, entry_ok, held, ST, AB, RD, call, ours, KeepsOthers, Given, refusal, rows_of, phase, Entered, Promised, Needed, call_answers, refusals_keep, calls_are_narrow, requests_leave, entries_stored, sound_lasts}
use Rattle.memory.specs.Wrong.{valued}
use Rattle.memory.specs.Thirteen.{with_places, mark, scribbled, start_says_1, refused_start_opens, start_writes, abort_does_nothing, read_scribbles, start_widens}
use Rattle.memory.proofs.Tools.{if_cases}
use Rattle.memory.proofs.Cases.{no_refusal}
use Rattle.memory.proofs.AlikeReplies.{allowed}
use Rattle.memory.proofs.Limits.{limit-some, places_apart}
use Rattle.memory.proofs.Stores.{entry_other}
use Rattle.memory.proofs.Facts.{Apart, in_places, lists_ok_lem}
use Rattle.memory.proofs.Lasts.{task_of, owner_of, sound-listed}
use Rattle.memory.proofs.Narrow.{untouched}
use Rattle.memory.proofs.Meanings.{means}
use Rattle.memory.proofs.NeededBroken.{start_says_1_lem, refused_start_opens_lem, start-writes, abort_does_nothing_lem, read_scribbles_lem, start_widens_lem}
use Rattle.memory.proofs.NeededTools.{for_start, starts, aborts, reads}

-- Stores that a request should not make ------------------------------------------------------------------------------------------------------

-- a table with other words, and with other rows where no entry is, is as sound as before
module _ (z : Sizes) (m : Memory) (ok : sound z m ≡ true) (w : List ℕ) (l : List (List ℕ)) (t : ℕ) (lt : t < z.tasks) where
  abbrev m' : Memory
  m' = memory w m.records m.places l

  sound_beside : length w ≡ length m.words → length l ≡ length m.entries → ((u i : ℕ) → u ≢ t → i < limit z → entry z m' u i ≡ entry z m u i)
      → ((i : ℕ) → i < (place m t).count → entry z m' t i ≡ entry z m t i) → sound z m' ≡ true
  unfolding place
  sound_beside lw ll others own =
      let T = task_of z m ok t lt in
      sound-listed z m m' t ok (λ u ne. refl) others (record { words = lw; records = refl; places = refl; entries = ll })
      (record {
        row = T.row;
        few = T.few;
        at_most = T.at_most;
        idle = T.idle;
        entries = record {
          each = λ i k. ap (entry_ok z) (own i k) ∙ T.entries.each i k;
          pairs = λ j i d k.
              subst⁻¹ (λ (x : Entry). Apart z.records x (entry z m' t i)) (own j (omega arith))
              (subst⁻¹ (Apart z.records (entry z m t j)) (own i k) (T.entries.pairs j i d k));
        };
      })
      (λ r h. inl (
        unfold held in refl,
        λ q.
            let o = owner_of z m ok r t h (unfold held in q) in
            (o.0, o.1, o.2, o.3, ap (λ (e : Entry). e.address % z.records) (own o.1 o.2) ∙ o.4),
      ))
      (unfold lists_ok joins_ok join_ok on_list in lists_ok_lem z m ok)

pub word_sound : (z : Sizes) (x : Memory) → sound z x ≡ true → sound z (set_word x 0 1) ≡ true
unfolding set_word
word_sound z x s =
    sound_beside z x s (set x.words 0 1) x.entries 0 (means z x s).tasks.0 (length-set x.words 0 1) refl
    (λ u i ne h. unfold entry in refl) (λ i k. unfold entry in refl)

-- its own row may be stored as anything
own_row : (z : Sizes) (m : Memory) (t : ℕ) (x : Memory) (row : List ℕ) → KeepsOthers z m t x → KeepsOthers z m t (with_places x (set x.places t row))
unfolding entry
own_row z m t x row K =
    record { words = K.words; records = K.records; places = λ u ne. get_or-set_other x.places t u row [] ne ∙ K.places u ne; runs = K.runs }

-- a row of five numbers reads as one of four
wide_row : (x : Memory) (t : ℕ) → t < length x.places → place (with_places x (set x.places t (0 ∷ 1 ∷ 0 ∷ 0 ∷ 0 ∷ []))) t ≡ bare 0 Open
unfolding place place_of phase_of
wide_row x t h = ap place_of (get_or-set_same x.places t (0 ∷ 1 ∷ 0 ∷ 0 ∷ 0 ∷ []) [] h)

-- A Read that scribbles: of the entries of all tasks none is where it writes
module _ (z : Sizes) (t : ℕ) (x : Memory) where
  abbrev last : ℕ
  last = limit z - 1

  abbrev y : Memory
  y = set_entry z x t last mark

  scribbled_cases : (P : Memory → Type 0) → ((place x t).count < limit z → P y) → P x → P (scribbled z t x)
  scribbled_cases P f p = if_cases P (ltb (place x t).count (limit z)) _ _ (λ d. f (ltb-true _ _ d)) (λ d. p)

  still_open : phase x t ≡ Open → phase y t ≡ Open
  unfolding set_entry place
  still_open q = q

  same_entries : (place x t).count < limit z → entries z y t ≡ entries z x t
  unfolding set_entry place
  same_entries h =
      ap (λ (k : List (List ℕ)). map entry_of (take n k)) (drop-set-add (run_start z t) x.entries last (row_of_entry mark))
      ∙ ap (map entry_of) (take-set-le n (drop (run_start z t) x.entries) last (row_of_entry mark) (omega arith))
    where
      n : ℕ
      n = (place x t).count

  other_runs : (u i : ℕ) → u ≢ t → i < limit z → entry z y u i ≡ entry z x u i
  other_runs u i ne h = entry_other z x t last mark u i (places_apart z t u last i ne (omega (arith, limit-some z)) h)

  scribbled-sound : t < z.tasks → sound z x ≡ true → sound z (scribbled z t x) ≡ true
  scribbled-sound lt s = scribbled_cases (λ (k : Memory). sound z k ≡ true) (λ h. unfold set_entry in
      sound_beside z x s x.words y.entries t lt refl (length-set x.entries (run_start z t + last) (row_of_entry mark)) (unfold set_entry in other_runs)
      (λ i k. unfold set_entry in entry_other z x t last mark t i (λ e. absurd (omega (arith, k, h, e))))) s

module _ (O : Promised ours) where
  -- Start ------------------------------------------------------------------------------------------------------------------------------------

  pub call_answers_needed : Needed call_answers
  call_answers_needed =
      record {
        wrong = start_says_1;
        breaks = start_says_1_lem;
        meets = for_start O call_answers (λ z m t r. valued 1 r) (λ z m t.
            record {
              answers = λ ne. absurd (ne refl);
              kept = λ _. O refusals_keep z m (ST t);
              narrow = λ _. O calls_are_narrow z m (ST t);
              leave = λ _. O requests_leave z m (ST t);
              stored = λ _. tt;
              step = λ _. tt;
              clash = λ _. tt;
              lasts = λ _ ok. O sound_lasts z m ok (ST t);
            });
      }

  pub refusals_keep_needed : Needed refusals_keep
  refusals_keep_needed =
      record {
        wrong = refused_start_opens;
        breaks = refused_start_opens_lem;
        meets = starts O refusals_keep 1 (λ z m t x. set_place x t (bare 0 Open)) (λ z m t e.
            record {
              answers = λ _. O call_answers z m (ST t);
              kept = λ ne. absurd (ne refl);
              narrow = λ _. unfold set_place in own_row z m t _ _ (O calls_are_narrow z m (ST t));
              leave = λ _ n. absurd (omega (arith, e, n));
              stored = λ _. tt;
              step = λ _. tt;
              clash = λ _. tt;
              lasts = λ _ ok. absurd (refused-sound z m t e (O call_answers z m (ST t)).0 ok);
            });
      }
    where
      refused-sound : (z : Sizes) (m : Memory) (t : ℕ) {n : ℕ} → n ≡ 1 → Given (rows_of z m (ST t) m) n → sound z m ≡ true → ⊥
      refused-sound z m t e (inl x) ok = false≢true (sym x.0 ∙ ok)
      refused-sound z m t e (inr (a, inl x)) ok = omega (arith, e, x.1)
      refused-sound z m t e (inr (a, inr (b, inl x))) ok = omega (arith, e, x.1)
      refused-sound z m t e (inr (a, inr (b, inr (c, x)))) ok = omega (arith, e, x)

  pub calls_are_narrow_needed : Needed calls_are_narrow
  calls_are_narrow_needed =
      record {
        wrong = start_writes;
        breaks = start-writes;
        meets = starts O calls_are_narrow 0 (λ z m t x. set_word x 0 1) (λ z m t e.
            record {
              answers = λ _. O call_answers z m (ST t);
              kept = λ _ b. no_refusal 0 refl _ b e;
              narrow = λ ne. absurd (ne refl);
              leave = λ _ n. unfold set_word place in O requests_leave z m (ST t) n;
              stored = λ _. tt;
              step = λ _. tt;
              clash = λ _. tt;
              lasts = λ _ ok. word_sound z _ (O sound_lasts z m ok (ST t));
            });
      }

  pub sound_lasts_needed : Needed sound_lasts
  sound_lasts_needed =
      record {
        wrong = start_widens;
        breaks = start_widens_lem;
        meets = starts O sound_lasts 0 (λ z m t x. with_places x (set x.places t (0 ∷ 1 ∷ 0 ∷ 0 ∷ 0 ∷ []))) (λ z m t e.
            record {
              answers = λ _. O call_answers z m (ST t);
              kept = λ _ b. no_refusal 0 refl _ b e;
              narrow = λ _. own_row z m t _ _ (O calls_are_narrow z m (ST t));
              leave = λ _ n.
                  let s = (allowed z m t _ _ [] (ap refusal e) (O call_answers z m (ST t)).0).0 in
                  (wide_row (call z m (ST t)).after t (in_places z _ (O sound_lasts z m s.0 (ST t)) t s.1), (O requests_leave z m (ST t) n).1);
              stored = λ _. tt;
              step = λ _. tt;
              clash = λ _. tt;
              lasts = λ ne. absurd (ne refl);
            });
      }

  -- Abort and Read -------------------------------------------------------------------------------------------------------------------------

  pub requests_leave_needed : Needed requests_leave
  requests_leave_needed =
      record {
        wrong = abort_does_nothing;
        breaks = abort_does_nothing_lem;
        meets = aborts O requests_leave 0 (λ z m t x. m) (λ z m t e.
            record {
              answers = λ _. O call_answers z m (AB t);
              kept = λ _ _. refl;
              narrow = λ _. untouched z m t;
              leave = λ ne. absurd (ne refl);
              stored = λ _. tt;
              step = λ _. tt;
              clash = λ _. tt;
              lasts = λ _ ok. ok;
            });
      }

  pub entries_stored_needed : Needed entries_stored
  entries_stored_needed =
      record {
        wrong = read_scribbles;
        breaks = read_scribbles_lem;
        meets = reads O entries_stored 0 (λ z m t. scribbled z t) (λ a z m t e.
            let x = (call z m (RD t a)).after in
            record {
              answers = λ _. O call_answers z m (RD t a);
              kept = λ _ b. no_refusal 0 refl _ b e;
              narrow = λ _. let K = O calls_are_narrow z m (RD t a) in scribbled_cases z t x (KeepsOthers z m t) (λ h. others z m t x K) K;
              leave = λ _. (
                λ n. absurd (omega (arith, e, n)),
                λ n. let r = (O requests_leave z m (RD t a)).1 n in
                    scribbled_cases z t x (λ k. (phase k t ≡ Open) × Entered z m t a (entries z k t))
                    (λ h. (still_open z t x r.0, subst⁻¹ (Entered z m t a) (same_entries z t x h) r.1)) r,
              );
              stored = λ ne. absurd (ne refl);
              step = λ _. tt;
              clash = λ _. tt;
              lasts = λ _ ok.
                  let (_, lt, _) = (allowed z m t _ _ (drop 3 (rows_of z m (RD t a) m)) (ap refusal e) (O call_answers z m (RD t a)).0).0 in
                  scribbled-sound z t x lt (O sound_lasts z m ok (RD t a));
            });
      }
    where
      others : (z : Sizes) (m : Memory) (t : ℕ) (x : Memory) → KeepsOthers z m t x → KeepsOthers z m t (y z t x)
      others z m t x K =
          record {
            words = unfold set_entry in K.words;
            records = unfold set_entry in K.records;
            places = unfold set_entry in K.places;
            runs = λ u i ne h. other_runs z t x u i ne h ∙ K.runs u i ne h;
          }
