-- The hypotheses of a whole turn are met and its count is exact: K8's board, where task 1 sleeps on record 1, and task 0 writes 7
-- at 3 as whole turns.
use mathlib.Core.Path.{◌≡◌, refl}
use mathlib.Core.List.{List, [], ◌∷◌, ◌++◌}
use mathlib.Core.Bool.{true}
use Rattle.memory.specs.{Idle, Asleep, Memory, sound, opened, SP, ours, numbers, small, board_after, sleeping, phase, Use, writes, body, try, AllZero, in_the_way}
use Rattle.memory.proofs.Machine.{machine}

unfoldable pub board : Memory
unfolding board_after
board = board_after (opened small 1) sleeping

unfoldable pub us : List Use
us = writes 3 7 ∷ []

hypotheses : (sound small board ≡ true) × (phase board 0 ≡ Idle) × (phase board 1 ≡ Asleep) × AllZero ours small board (body 0 us)
unfolding machine small board_after sleeping board us
hypotheses = (refl, refl, refl, refl)

-- one sleeper in the way of 3, none in that of 2
in_the_way_lem : (in_the_way small board (3 ∷ []) ≡ 1) × (in_the_way small board (2 ∷ []) ≡ 0)
unfolding machine small board_after sleeping board
in_the_way_lem = (refl, refl)

-- the first try ends with 22, the woken one with 23, the second try with 21
turn : numbers ours small board (try 0 us 3 ++ SP 1 ∷ SP 1 ∷ [] ++ try 0 us 6) ≡ 0 ∷ 0 ∷ 0 ∷ 0 ∷ 0 ∷ 22 ∷ 0 ∷ 23 ∷ 0 ∷ 0 ∷ 0 ∷ 0 ∷ 0 ∷ 0 ∷ 0 ∷ 0 ∷ 21 ∷ []
unfolding machine small board_after sleeping board us
turn = refl
