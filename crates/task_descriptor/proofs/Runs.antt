-- A run that is rewritten entry by entry, and the part of the entry table that a run is.
use Prim.Native.Nat.{ℕ, zero, suc, ◌+◌, ◌-◌, ◌<◌, ◌≤◌}
use mathlib.Core.Path.{◌≡◌, refl, ap, ◌∙◌}
use mathlib.Core.List.{List, [], ◌++◌, map, append-nil}
use lib.ListN.{length, get_or, set, take, drop, take-append-drop, length-drop}
use lib.Seq.{get_or-set_other, get_or-drop, take-set-le, drop-set-add, drop-length, take_all}
use Rattle.std.proofs.lemmas.List.{set-append_left, get_or_append_left}
use borrow.Rule.Slice.PartMut.{put_mid, Post-is, mid_len, set_mid_at}
use native.Mathlib.Numerals.{add-one}
use native.Mathlib.Omega.{arith}
use Rattle.memory.specs.declared.Entry.{Entry}
use Rattle.memory.specs.declared.Sizes.{Sizes}
use Rattle.memory.specs.Pieces.{Memory, memory, entry, entry_of, row_of_entry, run, run_start, set_entry}
use Rattle.memory.specs.Requests.{rewrite}
use Rattle.memory.proofs.Stores.{rewrite-words, rewrite-records, rewrite_places}
use Rattle.task_descriptor.specs.Contract.{rewritten}

-- One entry after the other ------------------------------------------------------------------------------------------------------

module _ (f : Entry → Entry) (l : List (List ℕ)) where
  -- the rows from there on are as they were
  rewritten_rest : (k j : ℕ) → k ≤ j → get_or (rewritten f l k) j [] ≡ get_or l j []
  unfolding rewritten
  rewritten_rest zero j h = refl
  rewritten_rest (suc k) j h = get_or-set_other (rewritten f l k) k j _ [] (λ e. omega arith) ∙ rewritten_rest k j (omega arith)

  -- where the first rows are lent and those after them stay
  module _ (now rest : List (List ℕ)) (k : ℕ) (in_now : k < length now) (so_far : now ++ rest ≡ rewritten f l k) where
    pub next_row : get_or now k [] ≡ get_or l k []
    next_row = cc (get_or_append_left now rest [] k in_now, rewritten_rest k k (omega arith))

    pub next_more : (e : Entry) → e ≡ f (entry_of (get_or now k [])) → set now k (row_of_entry e) ++ rest ≡ rewritten f l (k + 1)
    unfolding rewritten
    next_more e q = rw add-one (cc (next_row, set-append_left now rest k (row_of_entry e) in_now))

-- The part of a table from s on: as it is lent, and back in its place ----------------------------------------------------------------

abbrev pub lent : {A : Type 0} → ℕ → List A → List A
lent s l = take (length l - s) (drop s l)

part_lent : {A : Type 0} (s : ℕ) (l : List A) → lent s l ≡ drop s l
part_lent s l = take_all (length l - s) (drop s l) (omega (arith, length-drop s l))

module _ (z : Sizes) (m : Memory) (t start : ℕ) (begins : start ≡ run_start z t) where
  lent-run : lent start m.entries ≡ drop (run_start z t) m.entries
  lent-run = part_lent start m.entries ∙ ap (λ (k : ℕ). drop k m.entries) begins

  pub lent-entries : (n : ℕ) → map entry_of (take n (lent start m.entries)) ≡ run z m t n
  lent-entries n = ap (λ (l : List (List ℕ)). map entry_of (take n l)) lent-run

  pub lent_length : length (lent start m.entries) ≡ length m.entries - run_start z t
  lent_length = ap length lent-run ∙ length-drop (run_start z t) m.entries

  pub lent-entry : (i : ℕ) → entry_of (get_or (lent start m.entries) i []) ≡ entry z m t i
  unfolding entry
  lent-entry i = ap entry_of (ap (λ (l : List (List ℕ)). get_or l i []) lent-run ∙ get_or-drop (run_start z t) m.entries i [])

pub part_back : {A : Type 0} (s : ℕ) (l part : List A) → s ≤ length l → put_mid s (length l - s) l part ≡ take s l ++ part
part_back {A} s l part h =
    ap (λ (r : List A). take s l ++ (part ++ r)) (Post-is s (length l) l h ∙ drop-length l)
    ∙ ap (λ (r : List A). take s l ++ r) (append-nil part)

-- one store in it
pub part_stored : {A : Type 0} (s start : ℕ) (l part : List A) (i : ℕ) (x : A) → start ≡ s → s + i < length l
    → part ≡ set (lent start l) i x → put_mid start (length l - start) l part ≡ set l (s + i) x
part_stored {A} s start l part i x q h e =
    ap (put_mid start (length l - start) l) e
    ∙ set_mid_at start (length l - start) i l x (omega (arith, mid_len start (length l) l (omega arith)))
    ∙ ap (λ (k : ℕ). set l (k + i) x) q

module _ (z : Sizes) (m : Memory) (t : ℕ) (f : Entry → Entry) where
  abbrev s : ℕ
  s = run_start z t

  abbrev l : List (List ℕ)
  l = m.entries

  rewrite-before : (k : ℕ) → take s (rewrite z m t f k).entries ≡ take s l
  unfolding rewrite set_entry
  rewrite-before zero = refl
  rewrite-before (suc k) = take-set-le s (rewrite z m t f k).entries (s + k) _ (omega arith) ∙ rewrite-before k

  rewrite-from : (k : ℕ) → drop s (rewrite z m t f k).entries ≡ rewritten f (drop s l) k
  unfolding rewritten rewrite set_entry entry
  rewrite-from zero = refl
  rewrite-from (suc k) =
      drop-set-add s (rewrite z m t f k).entries k (row_of_entry (f (entry z m t k)))
      ∙ cc (rewrite-from k, get_or-drop s l k [])

  -- a run that was lent and rewritten, in the whole table
  rewrite_part : (k : ℕ) → take s l ++ rewritten f (drop s l) k ≡ (rewrite z m t f k).entries
  rewrite_part k = cc (rewrite-before k, rewrite-from k, take-append-drop s (rewrite z m t f k).entries)

  rewrite-whole : (k : ℕ) → memory m.words m.records m.places (rewrite z m t f k).entries ≡ rewrite z m t f k
  unfolding rewrite set_entry
  rewrite-whole zero = refl
  rewrite-whole (suc k) = rw (rewrite-words z m t f k, rewrite-records z m t f k, rewrite_places z m t f k)

  pub part_rewritten : (k start : ℕ) (part : List (List ℕ)) → start ≡ s → s ≤ length l → part ≡ rewritten f (lent start l) k
      → memory m.words m.records m.places (put_mid start (length l - start) l part) ≡ rewrite z m t f k
  part_rewritten k start part q h e =
      let back : put_mid start (length l - start) l part ≡ (rewrite z m t f k).entries =
      part_back start l part (omega arith) ∙ cc (part_lent start l, rewrite_part k) in
      ap (memory m.words m.records m.places) back ∙ rewrite-whole k
