-- What `session_show::put_board` keeps: the lines of the addresses passed.
use Rattle.memory.specs.Lent.{lent}
use Rattle.session_show.proofs.Passed.{Passed}
use Rattle.session_show.proofs.put_board.Given as goal

abbrev pub invariant-loop-address : goal.invariant-loop-address
invariant-loop-address l =
    Passed l.board.sizes l.first (lent l.board) l.initial.out l.out l.address
