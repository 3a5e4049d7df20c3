-- What the other claims lean on: the numbers, the rows, a sound table, the logical value and version.
use Rattle.std.specs.Prelude.{if◌then◌else◌}
use Prim.Native.Nat.{ℕ, suc, ◌%◌, ◌<◌, ◌≤◌}
use mathlib.Core.Path.{◌≡◌, refl, sym, ap, ◌∙◌, subst}
use mathlib.Core.Logic.{◌⊎◌, inl, inr, ◌≢◌, ⊎_elim}
use mathlib.Core.List.{List}
use mathlib.Core.Bool.{Bool, true, false, ◌||◌, true≢false}
use lib.Dec.{eqb, ltb}
use lib.ListN.{length, get_or}
use native.Mathlib.Omega.{arith}
use native.Mathlib.Nat.{mod-lt}
use borrow.Author.Tests.{ltb-true, lt-ltb, eqb-true, eq-eqb}
use Rattle.memory.specs.{Sizes, Goal, Outcome, Committed, Failed, Woken, Phase, Idle, Open, Taking, Asleep, Writing, Releasing, Held, Version, Owner, Seen, Entry, Memory, position_of, is_idle, steps, committed, row_of, place, place_of, entry, entries, held, held_of, number_of, limit, index, index_of, index_on, blank, shows, owned_at, logical_at, logical, sound, sizes_ok, entry_ok, held_ok, task_ok, counts_from, ◌∈◌, phase, New, row_of_entry, run_start, Figures, Layout, SoundEntry, SoundTask, SoundOwner, SoundTable, SoundMeans, OneTest, shown, LogicalAt, LogicalMeans, OneSight}
use Rattle.memory.proofs.Tools.{both, and_0, and_1, and_make, or_left_make, or_right_make, below_make, within_of, within_make}
use Rattle.memory.proofs.Sets.{has_shift}
use Rattle.memory.proofs.Codes.{place_back, entry_back, version_back, owner_back, is_idle_lem}
use Rattle.memory.proofs.Facts.{sizes, lengths, record_ok, some_record, owner_task, joins_small}
use Rattle.memory.proofs.ListsLast.{lists_make}
use Rattle.memory.proofs.ListsMean.{lists_told, lists_tested}
use Rattle.memory.proofs.Lasts.{Task, On, task_of, task_make, owner_of, owner_make}
use Rattle.memory.proofs.Find.{find?, index_found, index-some, address_found, address_some}
use Rattle.memory.proofs.Fresh.{entry_in, agreed, one_entry}
use Rattle.memory.proofs.Went.{not-steps}
use Rattle.memory.proofs.OpenAnswers.{fits, fits_in}

-- The numbers and the rows ------------------------------------------------------------------------------------------------------------------

pub figures : Figures
figures =
    record {
      words = refl;
      records = refl;
      tasks = refl;
      entries = λ z. unfold limit in refl;
      top = refl;
      version = λ m r v h q. unfold held number_of in ap held_of q ∙ version_back v h;
      owner = λ m r t q. unfold held number_of in ap held_of q ∙ owner_back t;
    }

pub layout : Layout
unfolding row_of row_of_entry run_start limit
layout =
    record {
      idle = λ n. refl;
      opened = λ n. refl;
      taking_to_commit = λ n i. refl;
      taking_to_sleep = λ n i. refl;
      asleep = λ n. refl;
      writing = λ n i. refl;
      committed = λ n i. refl;
      failed = λ n i. refl;
      woken = λ n i. refl;
      joined = λ q. refl;
      set = λ s t. (λ e. eqb-true _ _ (sym (has_shift s t) ∙ e), λ e. has_shift s t ∙ eq-eqb _ _ e);
      place_read_back = place_back;
      entry = λ e. refl;
      entry_read_back = entry_back;
      run = λ z t. refl;
    }

-- A sound table ------------------------------------------------------------------------------------------------------------------------

raised_of : (a b c : ℕ) → (eqb a b || eqb a c) ≡ true → (a ≡ b) ⊎ (a ≡ c)
raised_of a b c s = go (eqb a b) refl s
  where
    go : (x : Bool) → eqb a b ≡ x → (x || eqb a c) ≡ true → (a ≡ b) ⊎ (a ≡ c)
    go true e w = inl (eqb-true a b e)
    go false e w = inr (eqb-true a c w)

raised_make : (a b c : ℕ) → (a ≡ b) ⊎ (a ≡ c) → (eqb a b || eqb a c) ≡ true
raised_make a b c (inl e) = or_left_make (eqb a c) (eq-eqb a b e)
raised_make a b c (inr e) = or_right_make (eqb a b) (eq-eqb a c e)

entry_of : (z : Sizes) (e : Entry) → entry_ok z e ≡ true → SoundEntry z e
unfolding entry_ok
entry_of z e s =
    record {
      address = ltb-true _ _ (search (and_0, and_1));
      old = within_of (search (and_0, and_1));
      new = within_of (search (and_0, and_1));
      raised = raised_of e.new.version e.old.version (suc e.old.version) (search (and_0, and_1));
    }

entry_make : (z : Sizes) (e : Entry) → SoundEntry z e → entry_ok z e ≡ true
unfolding entry_ok
entry_make z e E =
    and_make (and_make (and_make (lt-ltb _ _ E.address) (within_make E.old)) (within_make E.new))
    (raised_make e.new.version e.old.version (suc e.old.version) E.raised)

at_most : (p : Phase) (n : ℕ) → ((g : Goal) (i : ℕ) → p ≡ Taking g i → i ≤ n)
    → ((i : ℕ) → p ≡ Writing i → i ≤ n) → ((o : Outcome) (i : ℕ) → p ≡ Releasing o i → i ≤ n) → position_of p ≤ n
at_most Idle n f g h = omega arith
at_most Open n f g h = omega arith
at_most (Taking b i) n f g h = f b i refl
at_most Asleep n f g h = omega arith
at_most (Writing i) n f g h = g i refl
at_most (Releasing o i) n f g h = h o i refl

module _ (z : Sizes) (m : Memory) where
  told : (t : ℕ) → Task z m t → SoundTask z m t
  told t T =
      record {
        row = (place m t, T.row);
        few = T.few;
        taking = λ g i q. subst (λ (p : Phase). position_of p ≤ (place m t).count) q T.at_most;
        writing = λ i q. subst (λ (p : Phase). position_of p ≤ (place m t).count) q T.at_most;
        releasing = λ o i q. subst (λ (p : Phase). position_of p ≤ (place m t).count) q T.at_most;
        idle = λ q. T.idle (ap is_idle q);
        each = λ i h. entry_of z (entry z m t i) (T.entries.each i h);
        apart = λ i j d h. (T.entries.pairs i j d h).0;
        agree = λ i j d h. (T.entries.pairs i j d h).1;
      }

  tested : (t : ℕ) → SoundTask z m t → Task z m t
  tested t T =
      record {
        row = T.row.1 ∙ ap row_of (sym (unfold place in ap place_of T.row.1 ∙ place_back T.row.0));
        few = T.few;
        at_most = at_most (phase m t) (place m t).count T.taking T.writing T.releasing;
        idle = λ q. T.idle (is_idle_lem _ q);
        entries = record { each = λ i h. entry_make z (entry z m t i) (T.each i h); pairs = λ j i d h. (T.apart j i d h, T.agree j i d h) };
      }

  counts_of : (p : Phase) (j : ℕ) → counts_from p ≤ j → (o : Outcome) (i : ℕ) → p ≡ Releasing o i → i ≤ j
  counts_of p j h o i q = subst (λ (x : Phase). counts_from x ≤ j) q h

  counts_make : (p : Phase) (j : ℕ) → ((o : Outcome) (i : ℕ) → p ≡ Releasing o i → i ≤ j) → counts_from p ≤ j
  counts_make Idle j h = omega arith
  counts_make Open j h = omega arith
  counts_make (Taking g i) j h = omega arith
  counts_make Asleep j h = omega arith
  counts_make (Writing i) j h = omega arith
  counts_make (Releasing o i) j h = h o i refl

  busy_make : (p : Phase) → p ≢ Idle → p ≢ Open → steps p ≡ true
  busy_make p f g = ⊎_elim (λ s. s) (λ s. absurd (⊎_elim f g (not-steps p s))) (both (steps p))

  owner_told : (r t : ℕ) → t < z.tasks → On z.records r (place m t) (entry z m t) → SoundOwner z m r t
  owner_told r t lt o =
      record {
        task = lt;
        busy = (λ q. true≢false (sym o.0 ∙ ap steps q), λ q. true≢false (sym o.0 ∙ ap steps q));
        has = (o.1, o.2, o.4, counts_of (phase m t) o.1 o.3);
      }

  pub means : sound z m ≡ true → SoundTable z m
  means ok =
      record {
        words = unfold sizes_ok in let s = sizes z m ok in within_of (search (and_0, and_1));
        records = unfold sizes_ok in let s = sizes z m ok in within_of (search (and_0, and_1));
        tasks = unfold sizes_ok in let s = sizes z m ok in within_of (search (and_0, and_1));
        lengths = fits z m (lengths z m ok);
        each_task = λ t h. told t (task_of z m ok t h);
        versions = λ r v h q. unfold held_ok in within_of (subst (λ (k : Held). held_ok z m r k ≡ true) q (record_ok z m ok r h));
        owners = λ r t h q. owner_told r t (owner_task z m ok r t h q) (owner_of z m ok r t h q);
        joins = joins_small z m ok;
        lists = λ t w h. lists_told z m ok t w;
      }

  pub makes : SoundTable z m → sound z m ≡ true
  unfolding sound sizes_ok
  makes S =
      and_make (and_make (and_make (and_make
      (and_make (and_make (within_make S.words) (within_make S.records)) (within_make S.tasks))
      (fits_in z m S.lengths))
      (below_make z.tasks (λ t. task_ok z m t) (λ t h. task_make z m t (tested t (S.each_task t h)))))
      (below_make z.records (λ r. held_ok z m r (held m r)) (λ r h. holds r h (held m r) refl)))
      (lists_make z m (lists_tested z m S.joins S.lists))
    where
      holds : (r : ℕ) → r < z.records → (k : Held) → held m r ≡ k → held_ok z m r (held m r) ≡ true
      holds r h (Version v) q = ap (held_ok z m r) q ∙ (unfold held_ok in within_make (S.versions r v h q))
      holds r h (Owner t) q =
          let o = S.owners r t h q in
          owner_make z m r t o.task q
          (busy_make (phase m t) o.busy.0 o.busy.1, o.has.0, o.has.1, counts_make (phase m t) o.has.0 o.has.3, o.has.2)

pub sound_means : SoundMeans sound
sound_means z m = (means z m, makes z m)

pub one_test : OneTest
one_test f g F G z m = same (f z m) (g z m) (λ e. (G z m).1 ((F z m).0 e)) (λ e. (F z m).1 ((G z m).0 e))
  where
    same : (b c : Bool) → (b ≡ true → c ≡ true) → (c ≡ true → b ≡ true) → b ≡ c
    same true c x y = sym (x refl)
    same false true x y = y refl
    same false false x y = refl

-- The logical value and version ----------------------------------------------------------------------------------------------------------

shown-is : (p : Phase) (e : Entry) → shows (committed p) e ≡ shown p e
shown-is Idle e = refl
shown-is Open e = refl
shown-is (Taking g i) e = refl
shown-is Asleep e = refl
shown-is (Writing i) e = refl
shown-is (Releasing Committed i) e = refl
shown-is (Releasing Failed i) e = refl
shown-is (Releasing Woken i) e = refl

shows-version : (b : Bool) (e f : Entry) → (e.old.version ≡ f.old.version) × (e.new.version ≡ f.new.version) → (shows b e).version ≡ (shows b f).version
shows-version true e f s = s.1
shows-version false e f s = s.0

module _ (z : Sizes) (m : Memory) (ok : sound z m ≡ true) (a : ℕ) where
  abbrev word : ℕ
  word = get_or m.words a 0

  module _ (t : ℕ) (q : held m (a % z.records) ≡ Owner t) where
    lt : t < z.tasks
    lt = owner_task z m ok (a % z.records) t (mod-lt a (some_record z m ok)) q

    abbrev es : List Entry
    es = entries z m t

    abbrev done : Bool
    done = committed (phase m t)

    on_r : Entry → Bool
    on_r e = eqb (e.address % z.records) (a % z.records)

    -- what is seen, by whether there is an entry for the address
    sight : Bool → Seen
    sight b = if b then shows done (get_or es (index_of a es) blank) else record { value = word; version = (shows done (get_or es (index on_r es) blank)).version }

    owned : logical z m a ≡ owned_at z.records done es a word
    unfolding logical logical_at
    owned = ap (logical_at z m a) q

    with_entry : (e : Entry) → e ∈ es → e.address ≡ a → owned_at z.records done es a word ≡ shown (phase m t) e
    unfolding owned_at index_on on_r sight
    with_entry e k s =
        let i = address_some a es e k s in
        let (f, q) = address_found a es i in
        ap sight (lt-ltb _ _ i)
        ∙ ap (shows done) (one_entry z m ok t lt (get_or es (index_of a es) blank) e f k (q ∙ sym s))
        ∙ shown-is (phase m t) e

    without : New z m t a → (e : Entry) → e ∈ es → e.address % z.records ≡ a % z.records
        → owned_at z.records done es a word ≡ record { value = word; version = (shown (phase m t) e).version }
    unfolding owned_at index_on on_r sight
    without new e k s =
        let i : index on_r es < length es = index-some on_r es e k (eq-eqb _ _ s) in
        let f = index_found on_r es i in
        let g : Entry = get_or es (index on_r es) blank in
        let c : g.address % z.records ≡ e.address % z.records = eqb-true _ _ f.1 ∙ sym s in
        ap sight (absent (both (ltb (index_of a es) (length es))))
        ∙ ap (λ (v : ℕ). record { value = word; version = v })
        (shows-version done g e (agreed z m ok t lt g e f.0 k c) ∙ ap (λ (x : Seen). x.version) (shown-is (phase m t) e))
      where
        absent : (ltb (index_of a es) (length es) ≡ true) ⊎ (ltb (index_of a es) (length es) ≡ false) → ltb (index_of a es) (length es) ≡ false
        absent (inl d) = let (f, q) = address_found a es (ltb-true _ _ d) in absurd (new _ f q)
        absent (inr d) = d

  pub logical-at : LogicalAt z m a (logical z m a)
  logical-at =
      record {
        free = λ v q. unfold logical logical_at in ap (logical_at z m a) q;
        known = λ t q e k s. owned t q ∙ with_entry t q e k s;
        beside = λ t q new e k s. owned t q ∙ without t q new e k s;
      }

  -- the record holds a version; or its owner has an entry for the address; or it has one on the record at least
  one_way : (s u : Seen) → LogicalAt z m a s → LogicalAt z m a u → s ≡ u
  one_way s u S U = go (held m (a % z.records)) refl
    where
      r : ℕ
      r = a % z.records

      owner : (t : ℕ) → held m r ≡ Owner t → SoundOwner z m r t → ((e : Entry) × e ∈ entries z m t × (e.address ≡ a)) ⊎ New z m t a → s ≡ u
      owner t q o (inl (e, k, d)) = S.known t q e k d ∙ sym (U.known t q e k d)
      owner t q o (inr new) =
          let (j, h, d, _) = o.has in
          let k = entry_in z m ok t o.task j h in
          S.beside t q new (entry z m t j) k d ∙ sym (U.beside t q new (entry z m t j) k d)

      go : (h : Held) → held m r ≡ h → s ≡ u
      go (Version v) q = S.free v q ∙ sym (U.free v q)
      go (Owner t) q = owner t q ((means z m ok).owners r t (mod-lt a (some_record z m ok)) q) (find? (λ e. e.address) a (entries z m t))

pub logical_means : LogicalMeans logical
logical_means z m ok a = logical-at z m ok a

pub one_sight : OneSight
one_sight f g F G z m ok a = one_way z m ok a (f z m a) (g z m a) (F z m ok a) (G z m ok a)
