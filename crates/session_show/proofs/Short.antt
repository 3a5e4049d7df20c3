-- The lines of a sound board are short: an address has four digits, a value and a version have ten.
use Prim.Native.Nat.{ℕ, zero, suc, ◌*◌, ◌%◌, ◌^◌, ◌<◌, ◌≤◌}
use mathlib.Core.Path.{◌≡◌, refl, subst⁻¹}
use mathlib.Core.List.{List}
use mathlib.Core.Bool.{Bool, true, false, ◌&&◌}
use lib.Dec.{eqb, ltb}
use lib.ListN.{length, get_or, length-append, get_or-eq_default}
use native.Mathlib.Nat.{mod-lt}
use native.Mathlib.Omega.{arith}
use borrow.Author.Tests.{ltb-true, ltb-false}
use Rattle.memory.specs.declared.Sizes.{Sizes}
use Rattle.memory.specs.declared.Seen.{Seen}
use Rattle.memory.specs.declared.Entry.{Entry}
use Rattle.memory.specs.declared.Held.{Held}
use Rattle.memory.specs.declared.Held.TheVariants.{Version, Owner}
use Rattle.memory.specs.Pieces.{Memory, place, entries, held, committed, top_version}
use Rattle.memory.specs.Logical.{index_of, index_on, blank, shows, logical, logical_at, owned_at}
use Rattle.memory.specs.Sound.{sound}
use Rattle.memory.proofs.Tools.{if_cases}
use Rattle.memory.proofs.Stores.{run_at}
use Rattle.memory.proofs.Facts.{some_record, entries_count, entry-fits, owner_task}
use Rattle.memory.proofs.Promises.{every_claim}
use Rattle.session_text.proofs.Laws.{word_line-length}
use Rattle.session_show.specs.Showing.{shown, word_lines}
use Rattle.session_show.proofs.Shows.{look_up}

module _ (z : Sizes) (m : Memory) (ok : sound z m ≡ true) where
  -- an entry's versions, also where there is none
  entry_versions : (t : ℕ) → t < z.tasks → (k : ℕ) → let e = get_or (entries z m t) k blank in (e.old.version ≤ top_version) × (e.new.version ≤ top_version)
  unfolding blank
  entry_versions t lt k = go (ltb k (place m t).count) refl
    where
      Low : Entry → Type 0
      Low e = (e.old.version ≤ top_version) × (e.new.version ≤ top_version)

      go : (b : Bool) → ltb k (place m t).count ≡ b → Low (get_or (entries z m t) k blank)
      go true h = let f = entry-fits z m ok t lt k (ltb-true _ _ h) in subst⁻¹ Low (run_at z m t (place m t).count k (ltb-true _ _ h)) (f.1, f.2)
      go false h =
          subst⁻¹ Low (get_or-eq_default (entries z m t) blank (omega (arith, entries_count z m ok t lt, ltb-false k (place m t).count h)))
          (omega arith, omega arith)

  version-fits : (a : ℕ) → (logical z m a).version ≤ top_version
  unfolding logical logical_at owned_at
  version-fits a = go (held m r) refl
    where
      r : ℕ
      r = a % z.records

      there : r < z.records
      there = mod-lt a (some_record z m ok)

      Low : Seen → Type 0
      Low s = s.version ≤ top_version

      go : (h : Held) → held m r ≡ h → Low (logical_at z m a h)
      go (Version v) e = (((every_claim.sound_means z m).0 ok).versions r v there e).1
      go (Owner t) e =
          if_cases Low (ltb (index_of a (entries z m t)) (length (entries z m t))) _ _ (λ has. shown_by (index_of a (entries z m t)))
          (λ none. shown_by (index_on z.records r (entries z m t)))
        where
          done : Bool
          done = committed (place m t).phase

          shown_by : (k : ℕ) → Low (shows done (get_or (entries z m t) k blank))
          shown_by k =
              let f = entry_versions t (owner_task z m ok r t there e) k in
              if_cases Low done _ _ (λ new. f.1) (λ old. f.0)

  module _ (v : ℕ) (values : (a : ℕ) → (logical z m a).value < 2 ^ 32) where
    line_short : (a : ℕ) → a < z.words → length (shown z v m a) ≤ 29
    unfolding shown
    line_short a h =
        rw (look_up z v m ok a h)
        (if_cases (λ (l : List ℕ). length l ≤ 29) (eqb (logical z m a).value 0 && eqb (logical z m a).version v) _ _ (λ first. omega arith)
        (λ changed. word_line-length 3 9 9 (omega (arith, ((every_claim.sound_means z m).0 ok).words.1)) (omega (arith, values a)) (omega (arith, version-fits a))))

    pub lines_short : (n : ℕ) → n ≤ z.words → length (word_lines z v m n) ≤ 29 * n
    unfolding word_lines
    lines_short zero h = omega arith
    lines_short (suc n) h =
        rw (length-append (word_lines z v m n) (shown z v m n)) (omega (arith, lines_short n (omega arith), line_short n (omega arith)))
