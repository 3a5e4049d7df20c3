-- What is promised of the lines of a board. proofs/Shows.antt proves it of every sound board, and `play` of every board that it prints.
use Rattle.std.specs.Prelude.{ℕ, zero, suc, ◌<◌, ◌≡◌, ◌⊎◌, ◌≢◌, List, [], ◌∷◌, ◌++◌, Bool, not, ◌&&◌, eqb, if◌then◌else◌}
use Rattle.memory.specs.declared.Sizes.{Sizes}
use Rattle.memory.specs.Pieces.{Memory}
use Rattle.memory.specs.Logical.{logical}
use Rattle.memory.specs.History.{◌∈◌}
use Rattle.session_text.specs.Text.{word_line}
use Rattle.session_show.specs.Showing.{word_lines}

-- the addresses below n that pass a test, ascending
unfoldable pub among : ℕ → (ℕ → Bool) → List ℕ
among zero p = []
among (suc n) p = among n p ++ (if p n then n ∷ [] else [])

-- an address's logical value is not 0 or its logical version is not the first
abbrev pub Changed : Sizes → ℕ → Memory → ℕ → Type 0
Changed z v m a = ((logical z m a).value ≢ 0) ⊎ ((logical z m a).version ≢ v)

abbrev pub changed : Sizes → ℕ → Memory → ℕ → Bool
changed z v m a = not (eqb (logical z m a).value 0 && eqb (logical z m a).version v)

-- their lines, one after the other
unfoldable pub lines_of : Sizes → Memory → List ℕ → List ℕ
lines_of z m [] = []
lines_of z m (a ∷ rest) = word_line a (logical z m a).value (logical z m a).version ++ lines_of z m rest

-- ascending, so that no address stands twice
abbrev pub Ascending : List ℕ → Type 0
Ascending [] = Unit {0}
Ascending (a ∷ rest) = ((b : ℕ) → b ∈ rest → a < b) × Ascending rest

-- the addresses below n of which something holds, each once, in their order
pub record Exactly (p : ℕ → Type 0) (n : ℕ) (l : List ℕ) : Type 0 where
  pub only : (a : ℕ) → a ∈ l → (a < n) × p a
  pub all : (a : ℕ) → a < n → p a → a ∈ l
  pub ascending : Ascending l

-- A text shows a board: it is the lines of exactly the changed addresses, ascending, each with the logical value and version.
pub record Shows (z : Sizes) (v : ℕ) (m : Memory) (text : List ℕ) : Type 0 where
  pub addresses : List ℕ
  pub exactly : Exactly (Changed z v m) z.words addresses
  pub lines : text ≡ lines_of z m addresses

abbrev pub ShowsTheBoard : Sizes → ℕ → Memory → Type 0
ShowsTheBoard z v m = Shows z v m (word_lines z v m z.words)

-- there is one such text
abbrev pub OneText : Type 0
OneText = (z : Sizes) (v : ℕ) (m : Memory) (k l : List ℕ) → Shows z v m k → Shows z v m l → k ≡ l
