-- The entries of a task against those before them: what the walk notes, and the faults that it meets.
use Prim.Native.Nat.{ℕ, ◌+◌, ◌-◌, ◌%◌, ◌≤◌, ◌<◌}
use native.Mathlib.Omega.{arith}
use mathlib.Core.Path.{◌≡◌, refl, sym, ap, ◌∙◌}
use mathlib.Core.Logic.{⊎_elim, ◌⊎◌, inl, inr}
use mathlib.Core.List.{List}
use mathlib.Core.Bool.{Bool, true, false}
use lib.ListN.{length, get_or, set}
use lib.Seq.{get_or-set_same, get_or-set_other}
use lib.Dec.{ltb}
use borrow.Author.Tests.{eq-eqb, ne_eqb, eqb-true, ltb-true, ltb-false}
use Rattle.memory.specs.declared.Sizes.{Sizes}
use Rattle.memory.specs.declared.Entry.{Entry}
use Rattle.memory.specs.Sound.{all_below, apart, entry_ok, entries_ok}
use Rattle.table_parts.specs.Parts.{agree}
use Rattle.memory.proofs.Tools.{same?, and_0, and_1, below_at, below_make}
use Rattle.table_parts.proofs.Tests.{after-set}

-- two entries on one record agree or are a fault; on two records they are apart
module _ (n : ℕ) (e f : Entry) where
  pub apart_one : e.address % n ≡ f.address % n → apart n e f ≡ agree e f
  unfolding apart agree
  apart_one h = rw (eq-eqb (e.address % n) (f.address % n) h)

  pub apart_two : (e.address % n ≡ f.address % n → ⊥) → apart n e f ≡ true
  unfolding apart
  apart_two k = rw (ne_eqb e.address f.address (λ h. k (ap (λ (a : ℕ). a % n) h)), ne_eqb (e.address % n) (f.address % n) k)

pub apart_never : (n : ℕ) (e f : Entry) → e.address ≡ f.address → apart n e f ≡ false
unfolding apart
apart_never n e f h = rw (eq-eqb e.address f.address h)

-- two entries on one record: the same versions
abbrev Alike : Entry → Entry → Type 0
Alike e f = (e.old.version ≡ f.old.version) × (e.new.version ≡ f.new.version)

agree-alike : (e f : Entry) → agree e f ≡ true → Alike e f
unfolding agree
agree-alike e f h = (eqb-true e.old.version f.old.version (search (and_0, and_1)), eqb-true e.new.version f.new.version (search (and_0, and_1)))

alike-agree : (e f : Entry) → (e.address ≡ f.address → ⊥) → Alike e f → agree e f ≡ true
unfolding agree
alike-agree e f d h = rw (ne_eqb e.address f.address d, eq-eqb e.old.version f.old.version h.0, eq-eqb e.new.version f.new.version h.1)

pub agree_of : {e f e' f' : Entry} {b : Bool} → e ≡ e' → f ≡ f' → agree e f ≡ b → agree e' f' ≡ b
agree_of {e} {f} {e'} {f'} p q h = ap (λ (x : Entry). agree x f') (sym p) ∙ ap (agree e) (sym q) ∙ h

-- of entries that are right, any two on one record have the same versions
module _ (z : Sizes) (e : ℕ → Entry) (i : ℕ) (ok : entries_ok z e i ≡ true) where
  alike-before : (j k : ℕ) → j < k → k < i → (e j).address % z.records ≡ (e k).address % z.records → Alike (e j) (e k)
  unfolding entries_ok
  alike-before j k l h q =
      agree-alike (e j) (e k)
      (sym (apart_one z.records (e j) (e k) q) ∙ below_at k _ (and_1 (entry_ok z (e k)) _ (below_at i _ ok k h)) j l)

  pub alike_all : (j k : ℕ) → j < i → k < i → (e j).address % z.records ≡ (e k).address % z.records → Alike (e j) (e k)
  alike_all j k l h q = go (ltb j k) refl (ltb k j) refl
    where
      go : (a : Bool) → ltb j k ≡ a → (b : Bool) → ltb k j ≡ b → Alike (e j) (e k)
      go true p b r = alike-before j k (ltb-true j k p) h q
      go false p true r = let w = alike-before k j (ltb-true k j r) l (sym q) in (sym w.0, sym w.1)
      go false p false r =
          let u : k ≤ j = ltb-false j k p in
          let v : j ≤ k = ltb-false k j r in
          let w : j ≡ k = omega arith in (ap (λ (x : ℕ). (e x).old.version) w, ap (λ (x : ℕ). (e x).new.version) w)

  -- an entry that has the versions of one of them on its record, and no address of theirs, is apart from them all
  pub apart_all : (e' : Entry) (f : ℕ) → f < i → (e f).address % z.records ≡ e'.address % z.records → agree (e f) e' ≡ true
      → ((k : ℕ) → k < i → (e k).address ≡ e'.address → ⊥) → all_below i (λ k. apart z.records (e k) e') ≡ true
  apart_all e' f l q h d =
      below_make i _ (λ k m.
      ⊎_elim
      (λ (p : (e k).address % z.records ≡ e'.address % z.records).
      let u = alike_all k f m l (p ∙ sym q) in
      let v = agree-alike (e f) e' h in
      apart_one z.records (e k) e' p ∙ alike-agree (e k) e' (d k m) (u.0 ∙ v.0, u.1 ∙ v.1))
      (λ (p : (e k).address % z.records ≡ e'.address % z.records → ⊥). apart_two z.records (e k) e' p)
      (same? ((e k).address % z.records) (e'.address % z.records)))

pub address_below : (z : Sizes) (e : Entry) → entry_ok z e ≡ true → e.address < z.words
unfolding entry_ok
address_below z e h = ltb-true e.address z.words (search (and_0, and_1))

-- What a record's cell says of the first i entries: none is on it, and the cell is below the task's base; or the latest one on it.
abbrev Met : ℕ → (ℕ → Entry) → ℕ → ℕ → ℕ → ℕ → Type 0
Met n e base i r v = ((v < base) × ((k : ℕ) → k < i → (e k).address % n ≡ r → ⊥)) ⊎ ((base ≤ v) × (v < base + i) × ((e (v - base)).address % n ≡ r))

-- What is noted of the first i entries: the address of each, and at each record the latest entry on it.
pub record Noted (n : ℕ) (e : ℕ → Entry) (base : ℕ) (told cells : List ℕ) (i : ℕ) : Type 0 where
  pub told_at : (k : ℕ) → k < i → get_or told k 0 ≡ (e k).address
  pub met : (r : ℕ) → r < n → Met n e base i r (get_or cells r 0)

module _ {n : ℕ} {e : ℕ → Entry} {base : ℕ} {told cells : List ℕ} where
  pub noted_none : ((r : ℕ) → r < n → get_or cells r 0 < base) → Noted n e base told cells 0
  noted_none f =
      record {
        told_at = λ k l. absurd (omega arith);
        met = λ r l. inl (f r l, λ k m p. absurd (omega arith));
      }

  module _ {i r : ℕ} (h : Noted n e base told cells i) (q : r ≡ (e i).address % n) where
    met_more : r < length cells → (x : ℕ) → x < n → Met n e base (i + 1) x (get_or (set cells r (base + i)) x 0)
    met_more l x hx = go (after-set cells r x (base + i) 0 l)
      where
        old : (x ≡ r → ⊥) → Met n e base i x (get_or cells x 0) → Met n e base (i + 1) x (get_or cells x 0)
        old d (inl w) = inl (w.0, λ k m p. ⊎_elim (λ (u : k ≡ i). d (sym p ∙ ap (λ (y : ℕ). (e y).address % n) u ∙ sym q)) (λ (u : k ≡ i → ⊥). w.1 k (omega arith) p) (same? k i))
        old d (inr w) = inr (w.0, omega (arith, w.1), w.2)

        go : ((x ≡ r) × (get_or (set cells r (base + i)) x 0 ≡ base + i)) ⊎ ((x ≡ r → ⊥) × (get_or (set cells r (base + i)) x 0 ≡ get_or cells x 0))
            → Met n e base (i + 1) x (get_or (set cells r (base + i)) x 0)
        go (inl a) =
            let u : get_or (set cells r (base + i)) x 0 - base ≡ i = omega (arith, a.1) in
            inr (omega (arith, a.1), omega (arith, a.1), ap (λ (y : ℕ). (e y).address % n) u ∙ sym q ∙ sym a.0)
        go (inr a) = rw a.1 (old a.0 (h.met x hx))

    pub noted_more : {a : ℕ} → a ≡ (e i).address → i < length told → r < length cells → Noted n e base (set told i a) (set cells r (base + i)) (i + 1)
    noted_more {a} p k l =
        record {
          told_at = λ k' d.
              ⊎_elim
              (λ w. w.1 ∙ p ∙ ap (λ (x : ℕ). (e x).address) (sym w.0))
              (λ w. w.1 ∙ h.told_at k' (omega arith))
              (after-set told i k' a 0 k);
          met = met_more l;
        }

    module _ (l : r < n) where
      -- no entry before is on a record whose cell is below the base, and so the entry is apart from all of them
      pub none_on : get_or cells r 0 < base → (k : ℕ) → k < i → (e k).address % n ≡ r → ⊥
      none_on d k m p = ⊎_elim (λ w. w.1 k m p) (λ w. absurd (omega (arith, w.0, d))) (h.met r l)

      pub fresh : get_or cells r 0 < base → all_below i (λ k. apart n (e k) (e i)) ≡ true
      fresh d = below_make i _ (λ k m. apart_two n (e k) (e i) (λ p. none_on d k m (p ∙ sym q)))

      -- the latest entry on a record whose cell is not
      pub latest_on : base ≤ get_or cells r 0 → (get_or cells r 0 - base < i) × ((e (get_or cells r 0 - base)).address % n ≡ (e i).address % n)
      latest_on d = ⊎_elim (λ w. absurd (omega (arith, w.0, d))) (λ w. (omega (arith, w.0, w.1), w.2 ∙ q)) (h.met r l)

  -- with no more entries passed than a task may have, every cell is below the next task's base
  pub cells_below : {i most : ℕ} → Noted n e base told cells i → i ≤ most → (r : ℕ) → r < n → get_or cells r 0 < base + most
  cells_below h k r l = ⊎_elim (λ w. omega (arith, w.0)) (λ w. omega (arith, w.1)) (h.met r l)

-- Of the first i entries, those on record r have addresses up to `top`.
abbrev pub Covers : ℕ → (ℕ → Entry) → ℕ → ℕ → ℕ → Type 0
Covers n e i r top = (k : ℕ) → k < i → (e k).address % n ≡ r → (e k).address ≤ top

-- Each of the first i entries is the latest on its record, or its address is at most `top`.
abbrev pub Under : ℕ → (ℕ → Entry) → ℕ → List ℕ → ℕ → ℕ → Type 0
Under n e base cells top i = (k : ℕ) → k < i → (get_or cells ((e k).address % n) 0 ≡ base + k) ⊎ ((e k).address ≤ top)

module _ (n : ℕ) (e : ℕ → Entry) (base : ℕ) (cells : List ℕ) {top top' i r : ℕ} (u : Under n e base cells top i) (l : top ≤ top') where
  -- with the latest on a record, all on it
  pub covers_latest : (f : ℕ) → get_or cells r 0 ≡ base + f → (e f).address ≤ top' → Covers n e i r top'
  covers_latest f q h k m p =
      ⊎_elim
      (λ (w : get_or cells ((e k).address % n) 0 ≡ base + k).
      let s : k ≡ f = omega (arith, w, q, ap (λ (x : ℕ). get_or cells x 0) p) in omega (arith, ap (λ (x : ℕ). (e x).address) s, h))
      (λ (w : (e k).address ≤ top). omega (arith, w, l))
      (u k m)

  -- one entry more, on a record of which all before it are at most `top'`
  pub under_more : Covers n e i r top' → r ≡ (e i).address % n → r < length cells → Under n e base (set cells r (base + i)) top' (i + 1)
  under_more h q k j d =
      ⊎_elim
      (λ (s : j ≡ i).
      let p : (e j).address % n ≡ r = ap (λ (x : ℕ). (e x).address % n) s ∙ sym q in
      inl (ap (λ (x : ℕ). get_or (set cells r (base + i)) x 0) p ∙ get_or-set_same cells r (base + i) 0 k ∙ ap (λ (x : ℕ). base + x) (sym s)))
      (λ (s : j ≡ i → ⊥).
      ⊎_elim
      (λ (p : (e j).address % n ≡ r). inr (h j (omega arith) p))
      (λ (p : (e j).address % n ≡ r → ⊥).
      ⊎_elim
      (λ (w : get_or cells ((e j).address % n) 0 ≡ base + j). inl (get_or-set_other cells r ((e j).address % n) (base + i) 0 p ∙ w))
      (λ (w : (e j).address ≤ top). inr (omega (arith, w, l)))
      (u j (omega arith)))
      (same? ((e j).address % n) r))
      (same? j i)
