-- What the contracts of this crate cite: bytes stored one after the other, decimal digits, and the lines that are printed.
use Rattle.std.specs.Prelude.{◌≡◌, cond, List, [], ◌∷◌, ◌++◌, ℕ, zero, suc, ◌+◌, ◌/◌, ◌%◌, ◌≤◌, ltb, length, take, drop}
use Rattle.std.proofs.lemmas.List.Edits.{sets}

-- The bytes stored from `at` on, each at the next place: `stored out at []` is `out`, and `stored out at (b ∷ bs)` is
-- `stored (set out at b) (suc at) bs`. A store past the end changes nothing.
abbrev pub stored : List ℕ → ℕ → List ℕ → List ℕ
stored out at bytes = sets out at bytes

-- As C's snprintf writes: from the first place on as many of the bytes as there is room for, and behind them what stood there.
abbrev pub written : List ℕ → List ℕ → List ℕ
written out bytes = take (length out) bytes ++ drop (length bytes) out

-- The last digits of n in ASCII, as many as n has and no more than the first argument says.
unfoldable pub last_digits : ℕ → ℕ → List ℕ
last_digits zero n = []
last_digits (suc k) n = cond (ltb n 10) ((48 + n) ∷ []) (last_digits k (n / 10) ++ ((48 + n % 10) ∷ []))

-- The decimal digits of n, without leading zeros. No number has more digits than one more than itself.
unfoldable pub digits : ℕ → List ℕ
digits n = last_digits (suc n) n

abbrev pub space : List ℕ
space = 32 ∷ []

abbrev pub newline : List ℕ
newline = 10 ∷ []

-- §12.3: the line of a record
unfoldable pub line : ℕ → ℕ → ℕ → List ℕ
line index number value = digits index ++ space ++ digits number ++ space ++ digits value ++ newline

-- §12.6: the line of an address
unfoldable pub word_line : ℕ → ℕ → ℕ → List ℕ
word_line address value version = (119 ∷ []) ++ space ++ line address value version

-- What a function that puts bytes at a place leaves: the buffer with the bytes stored, and the place after them, which is no
-- further on than `most`.
pub record Put (most : ℕ) (out : List ℕ) (at : ℕ) (bytes left : List ℕ) (next : ℕ) : Type 0 where
  pub holds : left ≡ stored out at bytes
  pub after : next ≡ at + length bytes
  pub near : next ≤ at + most
