-- §11.2, the numbers in the body of a record, by the table of widths.
use Rattle.std.specs.Prelude.{ℕ, ◌+◌, ◌*◌, List, [], ◌∷◌, get_or, take, drop, sum}
use Rattle.session_marks.specs.declared.Kind.{Kind}
use Rattle.session_marks.specs.declared.Kind.TheVariants.{Open, Start, Commit, Abort, Wait, Step, Read, Write}

-- §11.2: the first byte of a number counts once, and what follows it 256 times.
unfoldable pub little_endian : List ℕ → ℕ
little_endian [] = 0
little_endian (b ∷ bs) = b + 256 * little_endian bs

-- the number of so many bytes at a place of a body; what is not there counts 0
unfoldable pub number_at : ℕ → ℕ → List ℕ → ℕ
number_at width at bytes = little_endian (take width (drop at bytes))

-- §11.2: the bytes of each number of a body, in their order, and 0 for a number that it has not. Every length and every offset
-- comes from this table.
abbrev pub row : ℕ → ℕ → ℕ → ℕ → List ℕ
row a b c d = a ∷ b ∷ c ∷ d ∷ []

abbrev pub widths : Kind → List ℕ
widths Open = row 2 2 1 4
widths Start = row 1 0 0 0
widths Commit = row 1 0 0 0
widths Abort = row 1 0 0 0
widths Wait = row 1 0 0 0
widths Step = row 1 0 0 0
widths Read = row 1 2 0 0
widths Write = row 1 2 4 0

-- a number of a body by its place among these: how wide it is, where it begins, and what it is
abbrev pub width : Kind → ℕ → ℕ
width k i = get_or (widths k) i 0

abbrev pub offset : Kind → ℕ → ℕ
offset k i = sum (take i (widths k))

abbrev pub number : Kind → ℕ → List ℕ → ℕ
number k i b = number_at (width k i) (offset k i) b

-- §11.2: the numbers of a BD
abbrev pub words : List ℕ → ℕ
words b = number Open 0 b

abbrev pub records : List ℕ → ℕ
records b = number Open 1 b

abbrev pub tasks : List ℕ → ℕ
tasks b = number Open 2 b

abbrev pub first_version : List ℕ → ℕ
first_version b = number Open 3 b

-- §11.2: those of every other body stand as in a WR, as far as the mark asks for them
abbrev pub task : List ℕ → ℕ
task b = number Write 0 b

abbrev pub address : List ℕ → ℕ
address b = number Write 1 b

abbrev pub value : List ℕ → ℕ
value b = number Write 2 b

-- the bytes of a body
abbrev pub body_length : Kind → ℕ
body_length k = sum (widths k)
