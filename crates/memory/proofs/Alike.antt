-- Memories that are the same because their words, records, places and entries are.
use Prim.Native.Nat.{ℕ, ◌%◌, ◌<◌, ◌≤◌}
use mathlib.Core.Path.{◌≡◌, refl, sym, ap, ◌∙◌, subst⁻¹, subst}
use mathlib.Core.Logic.{◌⊎◌, inl, inr, ◌≢◌, ◌↔◌, ⊎_elim}
use mathlib.Core.List.{List, [], ◌∷◌, ◌++◌}
use mathlib.Core.Bool.{Bool, true, false}
use lib.Dec.{ltb}
use lib.ListN.{length, get_or}
use lib.Seq.{ext_get_or}
use native.Mathlib.Omega.{arith}
use borrow.Author.Tests.{ltb-true, ltb-false}
use Rattle.memory.specs.{Sizes, Open, Place, Seen, Entry, Memory, memory, place, place_of, row_of, task_set, entry, entries, row_of_entry, limit, blank, logical, sound, may_join, Joined, ◌∈◌, KeepsOthers, phase, Fresh, Entered, Written, entry_row, StoredFrom}
use Rattle.memory.specs.Effects.{Goes}
use Rattle.memory.proofs.Tools.{both, same?, everywhere}
use Rattle.memory.proofs.Sets.{same_set}
use Rattle.memory.proofs.Find.{find?}
use Rattle.memory.proofs.Limits.{in_run}
use Rattle.memory.proofs.Stores.{run_at}
use Rattle.memory.proofs.Facts.{places_length, entries-length, entries_count, row-held, joins_small, no_joins}

pub same_memory : (m k : Memory) → m.words ≡ k.words → m.records ≡ k.records → m.places ≡ k.places → m.entries ≡ k.entries → m ≡ k
same_memory m k w r p e = λ i. memory (w i) (r i) (p i) (e i)

-- Entries ------------------------------------------------------------------------------------------------------------------------------

same-entry : (e f : Entry) → e.address ≡ f.address → e.old ≡ f.old → e.new.value ≡ f.new.value → e.new.version ≡ f.new.version → e ≡ f
same-entry e f a o v w = λ i. record { address = a i; old = o i; new = record { value = v i; version = w i } }

-- on two tables with the same entries of a task, and the same sight of an address, the same is entered
module _ (z : Sizes) (t a : ℕ) (m m' : Memory) (same : entries z m' t ≡ entries z m t) (sight : logical z m' a ≡ logical z m a) where
  there : (e : Entry) → e ∈ entries z m t → e ∈ entries z m' t
  there e k = subst⁻¹ (λ (l : List Entry). e ∈ l) same k

  back : (e : Entry) → e ∈ entries z m' t → e ∈ entries z m t
  back e k = subst (λ (l : List Entry). e ∈ l) same k

  fresh-same : (e e' : Entry) → Fresh z m t a e → Fresh z m' t a e' → e' ≡ e
  fresh-same e e' F G =
      same-entry e' e (G.address ∙ sym F.address) old (G.value ∙ ap (λ (s : Seen). s.value) sight ∙ sym F.value)
      (⊎_elim (λ k. G.others k.0 (there k.0 k.1) k.2 ∙ sym (F.others k.0 k.1 k.2))
      (λ nobody. G.none (λ x. nobody x.0 (back x.0 x.1) x.2) ∙ ap (λ (s : Seen). s.version) old
      ∙ sym (F.none (λ x. nobody x.0 x.1 x.2)))
      (find? (λ e. e.address % z.records) (a % z.records) (entries z m t)))
    where
      old : e'.old ≡ e.old
      old = G.old ∙ sight ∙ sym F.old

  pub entered-same : (es es' : List Entry) → Entered z m t a es → Entered z m' t a es' → es' ≡ es
  entered-same es es' E G =
      ⊎_elim (λ k. G.known (λ new. new k.0 (there k.0 k.1) k.2) ∙ same ∙ sym (E.known (λ new. new k.0 k.1 k.2)))
      (λ new.
      let x = E.new new in
      let y = G.new (λ e k. new e (back e k)) in
      y.2 ∙ ap (λ (l : List Entry). l ++ y.0 ∷ []) same ∙ ap (λ (e : Entry). entries z m t ++ e ∷ []) (fresh-same x.0 y.0 x.1 y.1) ∙ sym x.2)
      (find? (λ e. e.address) a (entries z m t))

pub one_written : (n a v : ℕ) (e x y : Entry) → Written n a v e x → Written n a v e y → x ≡ y
one_written n a v e x y p q =
    same-entry x y (p.address ∙ sym q.address) (p.old ∙ sym q.old)
    (⊎_elim (λ s. p.value s ∙ sym (q.value s)) (λ s. p.other_value s ∙ sym (q.other_value s)) (same? e.address a))
    (⊎_elim (λ s. p.version s ∙ sym (q.version s)) (λ s. p.other_version s ∙ sym (q.other_version s)) (same? (e.address % n) (a % n)))

-- two tests that hold together are one
pub one_truth : (a b : Bool) → (a ≡ true → b ≡ true) → (b ≡ true → a ≡ true) → a ≡ b
one_truth true b f g = sym (f refl)
one_truth false true f g = g refl
one_truth false false f g = refl

-- Tables -------------------------------------------------------------------------------------------------------------------------------

module _ (z : Sizes) (m₁ m₂ : Memory) (ok₁ : sound z m₁ ≡ true) (ok₂ : sound z m₂ ≡ true) where
  -- sound tables with the same places have the same rows for them
  pub same_places : ((u : ℕ) → u < z.tasks → place m₁ u ≡ place m₂ u) → m₁.places ≡ m₂.places
  same_places f =
      ext_get_or [] m₁.places m₂.places (places_length z m₁ ok₁ ∙ sym (places_length z m₂ ok₂))
      (λ u h. let lt : u < z.tasks = omega (arith, places_length z m₁ ok₁) in row-held z m₁ ok₁ u lt ∙ ap row_of (f u lt) ∙ sym (row-held z m₂ ok₂ u lt))

  same_rows : ((u i : ℕ) → i < limit z → entry_row z m₁ u i ≡ entry_row z m₂ u i) → m₁.entries ≡ m₂.entries
  same_rows f =
      ext_get_or [] m₁.entries m₂.entries (entries-length z m₁ ok₁ ∙ sym (entries-length z m₂ ok₂))
      (λ k h. let (u, i, l, q) = in_run z k in ap (λ (j : ℕ). get_or m₁.entries j []) q ∙ f u i l ∙ sym (ap (λ (j : ℕ). get_or m₂.entries j []) q))

  -- the same words, records and entries, and every task in the same place
  pub same_table : (t : ℕ) → m₁.words ≡ m₂.words → m₁.records ≡ m₂.records → place m₁ t ≡ place m₂ t
      → ((u : ℕ) → u < z.tasks → u ≢ t → place m₁ u ≡ place m₂ u) → m₁.entries ≡ m₂.entries → m₁ ≡ m₂
  same_table t w r p f e = same_memory m₁ m₂ w r (same_places (λ u. everywhere (λ u. u < z.tasks → place m₁ u ≡ place m₂ u) t (λ h. p) (λ u ne h. f u h ne) u)) e

  -- places of one phase with one number of entries, on the lists of which one thing holds
  pub same_place : (u : ℕ) → u < z.tasks → (place m₁ u).count ≡ (place m₂ u).count → phase m₁ u ≡ phase m₂ u
      → (On : ℕ → Type 0) → ((w : ℕ) → Joined m₁ u w ↔ On w) → ((w : ℕ) → Joined m₂ u w ↔ On w) → place m₁ u ≡ place m₂ u
  same_place u h c p On f g = λ i. record { count = c i; phase = p i; joins = task_set (sets i) }
    where
      sets : (place m₁ u).joins.bits ≡ (place m₂ u).joins.bits
      sets =
          same_set z.tasks _ _ (joins_small z m₁ ok₁ u h) (joins_small z m₂ ok₂ u h)
          (λ w _. one_truth _ _ (λ j. (g w).1 ((f w).0 j)) (λ j. (f w).1 ((g w).0 j)))

  -- What two requests leave ------------------------------------------------------------------------------------------------------------

  module _ (m : Memory) (t : ℕ) (k₁ : KeepsOthers z m t m₁) (k₂ : KeepsOthers z m t m₂) where
    same_after : place m₁ t ≡ place m₂ t → m₁.entries ≡ m₂.entries → m₁ ≡ m₂
    unfolding place
    same_after p e =
        same_table t (k₁.words ∙ sym k₂.words) (k₁.records ∙ sym k₂.records) p (λ u h ne. ap place_of (k₁.places u ne ∙ sym (k₂.places u ne))) e

    pub same_goes : (q : Place) → Goes m t m₁ q → Goes m t m₂ q → m₁ ≡ m₂
    same_goes q g₁ g₂ = same_after (g₁.0 ∙ sym g₂.0) (g₁.1 ∙ sym g₂.1)

    -- of Read and Write the entries are the same, and so the rows that hold them
    pub same-stored : (from : ℕ) → t < z.tasks → StoredFrom from z m t m₁ → StoredFrom from z m t m₂ → phase m₁ t ≡ Open → phase m₂ t ≡ Open
        → entries z m₁ t ≡ entries z m₂ t → m₁ ≡ m₂
    same-stored from lt s₁ s₂ p₁ p₂ es =
        same_after (λ i. record { count = counts i; phase = (p₁ ∙ sym p₂) i; joins = task_set (alone i) })
        (same_rows (λ u i h. everywhere (λ u. entry_row z m₁ u i ≡ entry_row z m₂ u i) t (own i h (both _) (both _)) (beside i h) u))
      where
        beside : (i : ℕ) → i < limit z → (u : ℕ) → u ≢ t → entry_row z m₁ u i ≡ entry_row z m₂ u i
        beside i h u ne = s₁.others u i ne h ∙ sym (s₂.others u i ne h)

        -- an Open task is on no list
        alone : (place m₁ t).joins.bits ≡ (place m₂ t).joins.bits
        alone = no_joins z m₁ ok₁ t lt (ap may_join p₁) ∙ sym (no_joins z m₂ ok₂ t lt (ap may_join p₂))

        counts : (place m₁ t).count ≡ (place m₂ t).count
        counts = sym (entries_count z m₁ ok₁ t lt) ∙ ap (λ (l : List Entry). length l) es ∙ entries_count z m₂ ok₂ t lt

        at : (i : ℕ) → i < (place m₁ t).count → i < (place m₂ t).count → entry z m₁ t i ≡ entry z m₂ t i
        at i h₁ h₂ = sym (run_at z m₁ t (place m₁ t).count i h₁) ∙ ap (λ (l : List Entry). get_or l i blank) es ∙ run_at z m₂ t (place m₂ t).count i h₂

        own : (i : ℕ) → i < limit z → (ltb i from ≡ true) ⊎ (ltb i from ≡ false) → (ltb i (place m₁ t).count ≡ true) ⊎ (ltb i (place m₁ t).count ≡ false)
            → entry_row z m₁ t i ≡ entry_row z m₂ t i
        own i h (inl b) c = s₁.before i (ltb-true _ _ b) ∙ sym (s₂.before i (ltb-true _ _ b))
        own i h (inr b) (inl c) =
            let h₁ : i < (place m₁ t).count = ltb-true _ _ c in
            let h₂ : i < (place m₂ t).count = omega (arith, counts, h₁) in
            s₁.stored i (ltb-false _ _ b) h₁ ∙ ap row_of_entry (at i h₁ h₂) ∙ sym (s₂.stored i (ltb-false _ _ b) h₂)
        own i h (inr b) (inr c) =
            let h₁ : (place m₁ t).count ≤ i = ltb-false _ _ c in
            s₁.beyond i h₁ h ∙ sym (s₂.beyond i (omega (arith, counts, h₁)) h)
