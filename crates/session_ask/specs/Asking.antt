-- What a record of a session asks of the memory: a board of its sizes, or the request of its kind.
use Rattle.std.specs.Prelude.{ℕ, List, Option, Some, None}
use Rattle.memory.specs.declared.Sizes.{Sizes}
use Rattle.memory.specs.Pieces.{Memory}
use Rattle.memory.specs.Numbers.{Reply}
use Rattle.memory.specs.Requests.{open_board}
use Rattle.memory.specs.declared.Call.{Call}
use Rattle.memory.specs.declared.Call.TheVariants.{ST, CM, AB, WT, SP, RD, WR}
use Rattle.memory.specs.Calls.{call}
use Rattle.session_fields.specs.Fields as file
use Rattle.session_marks.specs.declared.Kind.{Kind}
use Rattle.session_marks.specs.declared.Kind.TheVariants.{Open, Start, Commit, Abort, Wait, Step, Read, Write}

-- §11.2: the sizes that a BD asks.
abbrev pub sizes_of : List ℕ → Sizes
sizes_of b = record { words = file.words b; records = file.records b; tasks = file.tasks b }

-- §11.2: what a record asks, by its kind and the numbers of its body: a request, or nothing where it asks that a board is opened
abbrev pub asked_of : Kind → List ℕ → Option Call
asked_of Open b = None
asked_of Start b = Some (ST (file.task b))
asked_of Commit b = Some (CM (file.task b))
asked_of Abort b = Some (AB (file.task b))
asked_of Wait b = Some (WT (file.task b))
asked_of Step b = Some (SP (file.task b))
asked_of Read b = Some (RD (file.task b) (file.address b))
asked_of Write b = Some (WR (file.task b) (file.address b) (file.value b))

-- what is answered to it
abbrev pub answered : Sizes → ℕ → Memory → Option Call → Reply
answered z v m None = open_board z v m
answered z v m (Some c) = call z m c

unfoldable pub requested : Sizes → ℕ → Memory → Kind → List ℕ → Reply
requested z v m k b = answered z v m (asked_of k b)
