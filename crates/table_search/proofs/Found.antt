-- What is known of a search by what it found, and what it finds by what is known.
use Prim.Native.Nat.{ℕ, ◌<◌, ◌≤◌}
use mathlib.Core.Path.{◌≡◌, ap, ◌∙◌}
use mathlib.Core.Logic.{⊎_elim}
use mathlib.Core.List.{List, [], map}
use lib.ListN.{length, get_or, take, length-map, get_or-map}
use lib.Seq.{length-take-le, get_or-take}
use borrow.Author.Tests.{lt-ltb, le-ltb}
use Rattle.std.specs.Prelude.{Some, None}
use Rattle.std.proofs.lemmas.Bool.{cases_lt}
use Rattle.memory.specs.declared.Entry.{Entry}
use Rattle.memory.specs.Pieces.{entry_of}
use Rattle.memory.specs.Logical.{blank}
use Rattle.table_search.specs.Contract.{found}

-- the entries that the first n rows of a run hold
module _ (run : List (List ℕ)) (n : ℕ) (fits : n ≤ length run) where
  pub entries-length : length (map entry_of (take n run)) ≡ n
  entries-length = length-map (take n run) entry_of ∙ length-take-le n run fits

  pub entry_at : (i : ℕ) → i < n → get_or (map entry_of (take n run)) i blank ≡ entry_of (get_or run i [])
  unfolding blank entry_of
  entry_at i h = get_or-map entry_of (take n run) i [] ∙ ap entry_of (get_or-take n run i [] h)

module _ (k : ℕ) (es : List Entry) where
  pub finds : k < length es → found k es ≡ Some (get_or es k blank)
  unfolding found
  finds h = rw (lt-ltb k (length es) h)

  pub finds_none : length es ≤ k → found k es ≡ None
  unfolding found
  finds_none h = rw (le-ltb k (length es) h)

  pub when_some : (e : Entry) → found k es ≡ Some e → (k < length es) × (e ≡ get_or es k blank)
  when_some e q = ⊎_elim (λ h. (h, cc (finds h))) (λ h. absurd (cc (finds_none h))) (cases_lt k (length es))

  pub when_none : found k es ≡ None → length es ≤ k
  when_none q = ⊎_elim (λ h. absurd (cc (finds h))) (λ h. h) (cases_lt k (length es))
