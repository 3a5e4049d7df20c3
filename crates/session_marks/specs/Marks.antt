-- §11.2, the marks: the kinds of record, and the kind whose mark some bytes begin with.
pub use Rattle.session_marks.specs.declared.Kind.{Kind}
pub use Rattle.session_marks.specs.declared.Kind.TheVariants.{Open, Start, Commit, Abort, Wait, Step, Read, Write}
use Rattle.std.specs.Prelude.{ℕ, Option, List, [], ◌∷◌, Bool, true, false, eqb}
use Rattle.std.specs.List.{find, starts_with}

-- §11.2: the marks BD, ST, CM, AB, WT, SP, RD and WR.
abbrev pub mark : Kind → List ℕ
mark Open = 66 ∷ 68 ∷ []
mark Start = 83 ∷ 84 ∷ []
mark Commit = 67 ∷ 77 ∷ []
mark Abort = 65 ∷ 66 ∷ []
mark Wait = 87 ∷ 84 ∷ []
mark Step = 83 ∷ 80 ∷ []
mark Read = 82 ∷ 68 ∷ []
mark Write = 87 ∷ 82 ∷ []

abbrev pub kinds : List Kind
kinds = Open ∷ Start ∷ Commit ∷ Abort ∷ Wait ∷ Step ∷ Read ∷ Write ∷ []

-- the bytes begin with the mark of a kind
abbrev pub begins : List ℕ → Kind → Bool
begins bytes k = starts_with eqb bytes (mark k)

-- the kind whose mark the bytes begin with
unfoldable pub kind_at : List ℕ → Option Kind
kind_at bytes = find (begins bytes) kinds

-- §11.3: a BD opens a board.
abbrev pub opens : Kind → Bool
opens Open = true
opens Start = false
opens Commit = false
opens Abort = false
opens Wait = false
opens Step = false
opens Read = false
opens Write = false
