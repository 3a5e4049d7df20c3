-- §3.1: what the four tables of a board hold, as one memory.
use Rattle.memory.specs.declared.Board.{Board}
use Rattle.memory.specs.Pieces.{Memory, memory}

abbrev pub lent : Board → Memory
lent b = memory b.words.now b.records.now b.places.now b.entries.now
