-- The values that a memory holds and answers: they have 32 bits, as those that are written to it. And no number has more than two digits.
use Prim.Native.Nat.{ℕ, zero, suc, ◌*◌, ◌%◌, ◌^◌, ◌<◌}
use mathlib.Core.Path.{◌≡◌, subst⁻¹}
use mathlib.Core.List.{List, [], ◌∷◌, map}
use mathlib.Core.Bool.{true}
use lib.Dec.{eqb, ltb, leb}
use lib.ListN.{length, get_or, set, take, drop, replicate}
use lib.Seq.{get_or-drop}
use native.Mathlib.Omega.{arith}
use borrow.Author.Tests.{leb-true}
use Rattle.memory.specs.declared.Sizes.{Sizes}
use Rattle.memory.specs.declared.Outcome.{Outcome}
use Rattle.memory.specs.declared.Outcome.TheVariants.{Committed, Failed, Woken}
use Rattle.memory.specs.declared.Phase.{Phase}
use Rattle.memory.specs.declared.Place.{Place}
use Rattle.memory.specs.declared.Held.{Held}
use Rattle.memory.specs.declared.Held.TheVariants.{Version, Owner}
use Rattle.memory.specs.declared.Seen.{Seen}
use Rattle.memory.specs.declared.Entry.{Entry}
use Rattle.memory.specs.Pieces.{Memory, is_idle, is_open, place, entry, entry_of, row_of_entry, entries, limit, run_start, held, committed, set_word, set_held, set_place, set_entry, move, top_version}
use Rattle.memory.specs.Logical.{index_of, blank, logical, logical_at, owned_at}
use Rattle.memory.specs.Numbers.{Reply, refused}
use Rattle.memory.specs.Requests.{opened, start, abort, commit, wait, fresh, added, read, written, rewrite, store, write}
use Rattle.memory.specs.Step.{wakes, clash, end_number}
use Rattle.memory.specs.declared.Call.{Call}
use Rattle.memory.specs.declared.Call.TheVariants.{ST, CM, AB, WT, SP, RD, WR}
use Rattle.memory.specs.Calls.{call}
use Rattle.memory.specs.Kept.{refusal}
use Rattle.memory.proofs.Tools.{if_cases, and_1}
use Rattle.memory.proofs.Cases.{asked_cases, addressed_cases}
use Rattle.memory.proofs.Clashes.{clash-words, clash-entries}
use Rattle.memory.proofs.Went.{Does, takes, has, late, meets, differs, chooses, writes, wrote_all, gives, passes, Went, moves, joins, rests, ends, step_cases}

-- a list after a store
all_set : {A : Type 0} (P : A → Type 0) (l : List A) (i : ℕ) (x d : A) → ((j : ℕ) → P (get_or l j d)) → P x → (j : ℕ) → P (get_or (set l i x) j d)
all_set P [] i x d h k j = h j
all_set P (y ∷ l) zero x d h k zero = k
all_set P (y ∷ l) zero x d h k (suc j) = h (suc j)
all_set P (y ∷ l) (suc i) x d h k zero = h zero
all_set P (y ∷ l) (suc i) x d h k (suc j) = all_set P l i x d (λ n. h (suc n)) k j

all_alike : {A : Type 0} (P : A → Type 0) (n : ℕ) (x d : A) → P x → P d → (j : ℕ) → P (get_or (replicate n x) j d)
all_alike P zero x d h k j = k
all_alike P (suc n) x d h k zero = h
all_alike P (suc n) x d h k (suc j) = all_alike P n x d h k j

abbrev b : ℕ
b = 2 ^ 32

some : 0 < b
some = omega arith

abbrev Small : Entry → Type 0
Small e = (e.old.value < b) × (e.new.value < b)

-- every word, and both values of every row of an entry
pub record Values (m : Memory) : Type 0 where
  pub words : (a : ℕ) → get_or m.words a 0 < b
  pub rows : (i : ℕ) → Small (entry_of (get_or m.entries i []))

pub opened_values : (z : Sizes) (v : ℕ) → Values (opened z v)
unfolding opened entry_of row_of_entry blank
opened_values z v = record {
  words = all_alike (λ n. n < b) z.words 0 0 some some;
  rows = all_alike (λ r. Small (entry_of r)) (limit z * z.tasks) (row_of_entry blank) [] (some, some) (some, some);
}

-- What is looked at ------------------------------------------------------------------------------------------------------------------

module _ (z : Sizes) (m : Memory) (v : Values m) where
  from_rows : (n : ℕ) (l : List (List ℕ)) (k : ℕ) → ((i : ℕ) → Small (entry_of (get_or l i []))) → Small (get_or (map entry_of (take n l)) k blank)
  unfolding blank
  from_rows zero l k h = (some, some)
  from_rows (suc n) [] k h = (some, some)
  from_rows (suc n) (x ∷ l) zero h = h 0
  from_rows (suc n) (x ∷ l) (suc k) h = from_rows n l k (λ i. h (suc i))

  among-entries : (t k : ℕ) → Small (get_or (entries z m t) k blank)
  among-entries t k =
      from_rows (place m t).count (drop (run_start z t) m.entries) k
      (λ i. subst⁻¹ (λ (r : List ℕ). Small (entry_of r)) (get_or-drop (run_start z t) m.entries i []) (v.rows _))

  one_entry : (t i : ℕ) → Small (entry z m t i)
  unfolding entry
  one_entry t i = v.rows _

  pub logical-value : (a : ℕ) → (logical z m a).value < b
  unfolding logical logical_at owned_at
  logical-value a = go (held m (a % z.records))
    where
      go : (h : Held) → (logical_at z m a h).value < b
      go (Version n) = v.words a
      go (Owner t) =
          if_cases (λ (s : Seen). s.value < b) (ltb (index_of a (entries z m t)) (length (entries z m t))) _ _
          (λ known. if_cases (λ (s : Seen). s.value < b) (committed (place m t).phase) _ _
          (λ done. (among-entries t (index_of a (entries z m t))).1) (λ not_done. (among-entries t (index_of a (entries z m t))).0))
          (λ new. v.words a)

  fresh-small : (t a : ℕ) → Small (fresh z m t a)
  unfolding fresh
  fresh-small t a = (logical-value a, logical-value a)

  -- What is stored -------------------------------------------------------------------------------------------------------------------

  set_word_lem : (a x : ℕ) → x < b → Values (set_word m a x)
  unfolding set_word
  set_word_lem a x h = record { words = all_set (λ n. n < b) m.words a x 0 v.words h; rows = v.rows }

  set-held : (r : ℕ) (h : Held) → Values (set_held m r h)
  unfolding set_held
  set-held r h = record { words = v.words; rows = v.rows }

  set-entry : (t i : ℕ) (e : Entry) → Small e → Values (set_entry z m t i e)
  unfolding set_entry entry_of row_of_entry
  set-entry t i e h = record { words = v.words; rows = all_set (λ r. Small (entry_of r)) m.entries _ (row_of_entry e) [] v.rows h }

-- where words and entries are the same
same_values : (m m' : Memory) → m'.words ≡ m.words → m'.entries ≡ m.entries → Values m → Values m'
same_values m m' w e v =
    record {
      words = subst⁻¹ (λ (l : List ℕ). (a : ℕ) → get_or l a 0 < b) w v.words;
      rows = subst⁻¹ (λ (l : List (List ℕ)). (i : ℕ) → Small (entry_of (get_or l i []))) e v.rows;
    }

set-place : (m : Memory) → Values m → (t : ℕ) (q : Place) → Values (set_place m t q)
unfolding set_place
set-place m v t q = record { words = v.words; rows = v.rows }

set-phase : (m : Memory) → Values m → (t : ℕ) (p : Phase) → Values (move m t p)
unfolding move
set-phase m v t p = set-place m v t _

written_small : (n a x : ℕ) → x < b → (e : Entry) → Small e → Small (written n a x e)
unfolding written
written_small n a x h e s = (s.0, if_cases (λ (y : ℕ). y < b) (eqb e.address a) _ _ (λ same. h) (λ other. s.1))

rewritten : (z : Sizes) (m : Memory) (t : ℕ) (f : Entry → Entry) → Values m → ((e : Entry) → Small e → Small (f e)) → (k : ℕ) → Values (rewrite z m t f k)
unfolding rewrite
rewritten z m t f v h zero = v
rewritten z m t f v h (suc k) = set-entry z _ (rewritten z m t f v h k) t k _ (h _ (one_entry z m v t k))

-- What is answered -------------------------------------------------------------------------------------------------------------------

-- a reply: its number, its value, and the values that it leaves
pub record Few (r : Reply) : Type 0 where
  pub number : r.number < 100
  pub value : r.value < b
  pub after : Values r.after

pub few : (n : ℕ) (m : Memory) → n < 100 → Values m → Few (refused n m)
few n m h v = record { number = h; value = some; after = v }

module _ (z : Sizes) (m : Memory) (v : Values m) where
  is-refused : (n : ℕ) → refusal n ≡ true → Few (refused n m)
  is-refused n e = few n m (omega (arith, leb-true n 8 (and_1 (leb 1 n) (leb n 8) e))) v

  does : {t : ℕ} {p p' : Phase} {m₁ : Memory} → Does z m t p m₁ p' → Values m₁
  does (takes g i h e) = set-held z m v _ _
  does (has g i h e) = v
  does (late g i h n e x) = v
  does (meets g i h u e x j stays) = same_values m (clash z m u) (clash-words z m u) (clash-entries z m u) v
  does (differs i h u e x w ne) = v
  does (chooses g) = v
  does {t} (writes i h) = set_word_lem z m v _ _ (one_entry z m v t i).1
  does wrote_all = v
  does (gives o i h e) = set-held z m v _ _
  does (passes o i h e) = v

  steps_on : {t : ℕ} {p : Phase} {r : Reply} → Went z m t p r → Few r
  steps_on {t} (moves {p' = p'} d) = few _ _ (if_cases (λ (n : ℕ). n < 100) (wakes p') 20 0 (λ s. omega arith) (λ s. omega arith)) (set-phase _ (does d) t p')
  steps_on {t} (joins i h u e x w q) = few 0 _ (omega arith) (set-place m v t _)
  steps_on rests = few 20 m (omega arith) v
  steps_on {t} (ends o) = few _ _ (ended o) (set-place m v t _)
    where
      ended : (o : Outcome) → end_number o < 100
      ended Committed = omega arith
      ended Failed = omega arith
      ended Woken = omega arith

  stored : (m₂ : Memory) → Values m₂ → (t a x k : ℕ) (e : Entry) → x < b → Few (store z m m₂ t a x k e)
  unfolding store
  stored m₂ w t a x k e h =
      if_cases Few (eqb e.old.version top_version) _ _ (λ top. few 8 m (omega arith) v)
      (λ below. few 0 _ (omega arith) (rewritten z m₂ t _ w (written_small _ a x h) k))

  with_entry : (t a : ℕ) → Values (added z m t a)
  unfolding added
  with_entry t a = set-place _ (set-entry z m v t _ _ (fresh-small z m v t a)) t _

  -- the value that a call writes, if it writes one
  abbrev pub Writes : Call → Type 0
  Writes (ST t) = Unit {0}
  Writes (CM t) = Unit {0}
  Writes (AB t) = Unit {0}
  Writes (WT t) = Unit {0}
  Writes (SP t) = Unit {0}
  Writes (RD t a) = Unit {0}
  Writes (WR t a x) = x < b

  pub call_few : (c : Call) → Writes c → Few (call z m c)
  unfolding call start abort commit wait read write fresh
  call_few (ST t) h = asked_cases z m t is_idle _ Few is-refused (λ ok lt c. few 0 _ (omega arith) (set-place m v t _))
  call_few (CM t) h = asked_cases z m t is_open _ Few is-refused (λ ok lt c. few 0 _ (omega arith) (set-phase m v t _))
  call_few (AB t) h = asked_cases z m t is_open _ Few is-refused (λ ok lt c. few 0 _ (omega arith) (set-place m v t _))
  call_few (WT t) h =
      asked_cases z m t is_open _ Few is-refused (λ ok lt c.
      if_cases Few (eqb (place m t).count 0) _ _ (λ none. few 7 m (omega arith) v) (λ any. few 0 _ (omega arith) (set-phase m v t _)))
  call_few (SP t) h = step_cases z m t Few is-refused (λ ok lt r w. steps_on w)
  call_few (RD t a) h =
      addressed_cases z m t a _ _ Few is-refused (λ ok lt op. few 9 _ (omega arith) (set-place m v t _))
      (λ ok lt op w k. record { number = omega arith; value = (among-entries z m v t (index_of a (entries z m t))).1; after = v })
      (λ ok lt op w k room o. record { number = omega arith; value = logical-value z m v a; after = with_entry t a })
  call_few (WR t a x) h =
      addressed_cases z m t a _ _ Few is-refused (λ ok lt op. few 9 _ (omega arith) (set-place m v t _))
      (λ ok lt op w k. stored m v t a x _ _ h) (λ ok lt op w k room o. stored (added z m t a) (with_entry t a) t a x _ _ h)
