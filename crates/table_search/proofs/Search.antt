-- A search through a run for an entry that passes a test, from either end.
use Prim.Native.Nat.{ℕ, zero, suc, ◌<◌, ◌≤◌}
use Prim.Native.Nat.compare
use mathlib.Core.Path.{◌≡◌, refl, sym, ap, ◌∙◌}
use mathlib.Core.List.{List, [], ◌∷◌, map}
use mathlib.Core.Bool.{Bool, true, false}
use lib.ListN.{length, get_or, take}
use lib.Seq.{take-suc, take-length}
use native.Mathlib.Omega.{arith}
use borrow.Author.Tests.{lt-ltb}
use denote.Ref.{Bor}
use Rattle.std.specs.Prelude.{Option, Some, None, reverse}
use Rattle.std.specs.List.{find}
use Rattle.std.specs.Option.{option_map}
use Rattle.memory.specs.declared.Entry.{Entry}
use Rattle.memory.specs.Pieces.{entry_of}
use Rattle.memory.specs.Logical.{index, newest, blank}
use Rattle.std.proofs.lemmas.List.{reverse-append, get_or-map, length-map}
use Rattle.table_search.specs.Contract.{found}
use Rattle.table_search.proofs.Found.{finds, finds_none}

module _ (p : Entry → Bool) where
  -- the first row whose entry passes holds the first entry that passes
  abbrev Same : List (List ℕ) → Type 0
  Same rows = option_map entry_of (find (λ row. p (entry_of row)) rows) ≡ found (index p (map entry_of rows)) (map entry_of rows)

  one_more : (row : List ℕ) (rows : List (List ℕ)) (b : Bool) → p (entry_of row) ≡ b → Same rows → Same (row ∷ rows)
  unfolding index found
  one_more row rows true e h = rw (e, lt-ltb 0 (length (entry_of row ∷ map entry_of rows)) (omega arith)) refl
  one_more row rows false e h = rw (e, compare.suc-suc) h

  same : (rows : List (List ℕ)) → Same rows
  unfolding index found
  same [] = refl
  same (row ∷ rows) = one_more row rows (p (entry_of row)) refl (same rows)

  -- among the first k rows, from the newest of them to the oldest
  same_newest : (rows : List (List ℕ)) (k : ℕ) → k ≤ length rows
      → option_map entry_of (find (λ row. p (entry_of row)) (reverse (take k rows))) ≡ found (newest p (map entry_of rows) k) (map entry_of rows)
  unfolding newest
  same_newest rows zero h = sym (finds_none (length (map entry_of rows)) (map entry_of rows) (omega arith))
  same_newest rows (suc k) h =
      ap (λ (rs : List (List ℕ)). option_map entry_of (find test rs)) (ap reverse (take-suc rows k [] h) ∙ reverse-append (take k rows) (x ∷ []))
      ∙ go (p (entry_of x)) refl (same_newest rows k (omega arith))
    where
      test : List ℕ → Bool
      test row = p (entry_of row)

      x : List ℕ
      x = get_or rows k []

      es : List Entry
      es = map entry_of rows

      at_k : get_or es k blank ≡ entry_of x
      at_k = get_or-map entry_of rows k [] blank h

      inside : k < length es
      inside = omega (arith, length-map rows entry_of)

      go : (b : Bool) → p (entry_of x) ≡ b → option_map entry_of (find test (reverse (take k rows))) ≡ found (newest p es k) es
          → option_map entry_of (find test (x ∷ reverse (take k rows))) ≡ found (newest p es (suc k)) es
      go true e f = rw (e, ap p at_k ∙ e, finds k es inside, at_k) refl
      go false e f = rw (e, ap p at_k ∙ e) f

  read : (row : Option (Bor (List ℕ))) → option_map (λ row. entry_of row.now) row ≡ option_map entry_of (option_map (λ row. row.now) row)
  read None = refl
  read (Some row) = refl

  -- a row that is found in the run, and then read, is the entry
  pub first_read : (rows : List (List ℕ)) (row : Option (Bor (List ℕ))) → option_map (λ row. row.now) row ≡ find (λ row. p (entry_of row)) rows
      → option_map (λ row. entry_of row.now) row ≡ found (index p (map entry_of rows)) (map entry_of rows)
  first_read rows row h = read row ∙ ap (option_map entry_of) h ∙ same rows

  pub newest_read : (rows : List (List ℕ)) (row : Option (Bor (List ℕ))) → option_map (λ row. row.now) row ≡ find (λ row. p (entry_of row)) (reverse rows)
      → option_map (λ row. entry_of row.now) row ≡ found (newest p (map entry_of rows) (length (map entry_of rows))) (map entry_of rows)
  newest_read rows row h =
      read row ∙ ap (option_map entry_of) (h ∙ ap (λ (rs : List (List ℕ)). find (λ row. p (entry_of row)) (reverse rs)) (sym (take-length rows)))
      ∙ same_newest rows (length rows) (omega arith)
      ∙ ap (λ (k : ℕ). found (newest p (map entry_of rows) k) (map entry_of rows)) (sym (length-map rows entry_of))
