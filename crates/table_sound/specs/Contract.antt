-- What the walk over the tables reads of a board.
use Rattle.std.specs.Prelude.{[]}
use Rattle.memory.specs.declared.Board.{Board}
use Rattle.memory.specs.Pieces.{Memory, memory}

-- all but its words
abbrev pub but_words : Board → Memory
but_words b = memory [] b.records.now b.places.now b.entries.now
