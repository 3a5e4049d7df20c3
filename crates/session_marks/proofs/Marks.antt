-- The bytes in which a kind is found begin with its mark, and bytes that begin with its mark are found as it.
use Rattle.std.specs.Prelude.{Some, cond}
use Rattle.std.specs.List.{find}
use Rattle.std.proofs.lemmas.Option.{none-some}
use Rattle.std.proofs.lemmas.Slice.Eq.{bytes_eq-Decides}
use Prim.Native.Nat.{ℕ}
use mathlib.Core.Path.{◌≡◌, refl, sym}
use mathlib.Core.List.{List, [], ◌∷◌, ◌++◌}
use mathlib.Core.Bool.{Bool, true, false}
use lib.ListN.{length, take}
use Rattle.session_marks.specs.Marks.{Kind, Open, Start, Commit, Abort, Wait, Step, Read, Write, mark, begins, kind_at}

-- a mark has two bytes
pub two_long : (k : Kind) → length (mark k) ≡ 2
two_long Open = refl
two_long Start = refl
two_long Commit = refl
two_long Abort = refl
two_long Wait = refl
two_long Step = refl
two_long Read = refl
two_long Write = refl

-- the mark that the bytes begin with is their first two
begun : (k : Kind) (bytes : List ℕ) → begins bytes k ≡ true → take 2 bytes ≡ mark k
begun k bytes e = rw (← two_long k) (sym ((bytes_eq-Decides (mark k) (take (length (mark k)) bytes)).0 e))

-- the kind that is found has its mark there
pub found : (ks : List Kind) (bytes : List ℕ) (k : Kind) → find (begins bytes) ks ≡ Some k → take 2 bytes ≡ mark k
found [] bytes k e = absurd (none-some k e)
found (j ∷ ks) bytes k e = go (begins bytes j) refl e (found ks bytes k)
  where
    go : (b : Bool) → begins bytes j ≡ b → cond b (Some j) (find (begins bytes) ks) ≡ Some k
        → (find (begins bytes) ks ≡ Some k → take 2 bytes ≡ mark k) → take 2 bytes ≡ mark k
    go true is e among = let same : j ≡ k = cc in rw (← same) (begun j bytes is)
    go false is e among = among e

-- bytes that begin with a mark are found as its kind, whatever follows
pub known : (k : Kind) (rest : List ℕ) → kind_at (mark k ++ rest) ≡ Some k
unfolding kind_at
known Open rest = refl
known Start rest = refl
known Commit rest = refl
known Abort rest = refl
known Wait rest = refl
known Step rest = refl
known Read rest = refl
known Write rest = refl
