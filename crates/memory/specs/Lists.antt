-- §2.13 and §2.14: sets of tasks as numbers, and the lists of those who sleep with another. A list is stored with those who are on it:
-- each task's place has the set of the sleepers that it joined.
use Rattle.std.specs.Prelude.{ℕ, zero, suc, ◌+◌, ◌*◌, ◌/◌, ◌%◌, Bool, true, false, ◌&&◌, ◌||◌, eqb}
use Rattle.memory.specs.Pieces.{Memory, place}

-- §2.13: a task is in a set where the binary digit of its number is 1.
unfoldable pub has : ℕ → ℕ → Bool
has s zero = eqb (s % 2) 1
has s (suc t) = has (s / 2) t

abbrev pub bit : Bool → ℕ
bit true = 1
bit false = 0

-- the set of the tasks below n that pass a test
unfoldable pub set_of : ℕ → (ℕ → Bool) → ℕ
set_of zero p = 0
set_of (suc n) p = bit (p 0) + 2 * set_of n (λ t. p (suc t))

-- §2.14: task t is on the list of task w.
unfoldable pub on_list : Memory → ℕ → ℕ → Bool
on_list m w t = has (place m t).joins.bits w

-- §2.15: going from list to list leads from a to b, with no task between them but some below k.
unfoldable pub leads : (ℕ → ℕ → Bool) → ℕ → ℕ → ℕ → Bool
leads on zero a b = on a b
leads on (suc k) a b = leads on k a b || (leads on k a k && leads on k k b)
