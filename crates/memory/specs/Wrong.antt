-- Wrong machines as values: ours with the reply to one kind of call twisted.
use Rattle.std.specs.Prelude.{ℕ, eqb, if◌then◌else◌}
use Rattle.memory.specs.Pieces.{Sizes, Memory}
use Rattle.memory.specs.Numbers.{Looked, Reply, reply}
use Rattle.memory.specs.Requests.{open_board, look}
use Rattle.memory.specs.Calls.{Call, ST, CM, AB, WT, SP, RD, WR, call}
use Rattle.memory.specs.Machines.{Machine}

-- what becomes of our reply to a request of a task
abbrev pub Twist : Type 0
Twist = Sizes → Memory → ℕ → Reply → Reply

abbrev pub straight : Twist
straight z m t r = r

-- with another value; over another memory; with something else left where it answers one number
abbrev pub valued : ℕ → Reply → Reply
valued v r = reply r.number v r.after

abbrev pub over : Memory → Reply → Reply
over m r = reply r.number r.value m

abbrev pub leaving : ℕ → (Memory → Memory) → Reply → Reply
leaving n f r = over (if eqb r.number n then f r.after else r.after) r

-- by the kind of the call; a Read's twist has the address, a Write's the address and the value
abbrev pub twisted : Twist → Twist → Twist → Twist → Twist → (ℕ → Twist) → (ℕ → ℕ → Twist) → Sizes → Memory → Call → Reply
twisted st cm ab wt sp rd wr z m (ST t) = st z m t (call z m (ST t))
twisted st cm ab wt sp rd wr z m (CM t) = cm z m t (call z m (CM t))
twisted st cm ab wt sp rd wr z m (AB t) = ab z m t (call z m (AB t))
twisted st cm ab wt sp rd wr z m (WT t) = wt z m t (call z m (WT t))
twisted st cm ab wt sp rd wr z m (SP t) = sp z m t (call z m (SP t))
twisted st cm ab wt sp rd wr z m (RD t a) = rd a z m t (call z m (RD t a))
twisted st cm ab wt sp rd wr z m (WR t a v) = wr a v z m t (call z m (WR t a v))

abbrev pub calling : (Sizes → Memory → Call → Reply) → Machine
calling f = record { call = f; open_board = open_board; look = look }

abbrev pub starting : Twist → Machine
starting f = calling (twisted f straight straight straight straight (λ a. straight) (λ a v. straight))

abbrev pub aborting : Twist → Machine
aborting f = calling (twisted straight straight f straight straight (λ a. straight) (λ a v. straight))

abbrev pub stepping : Twist → Machine
stepping f = calling (twisted straight straight straight straight f (λ a. straight) (λ a v. straight))

abbrev pub reading : (ℕ → Twist) → Machine
reading f = calling (twisted straight straight straight straight straight f (λ a v. straight))

abbrev pub writing : (ℕ → ℕ → Twist) → Machine
writing f = calling (twisted straight straight straight straight straight (λ a. straight) f)

abbrev pub opening : (Sizes → ℕ → Memory → Reply → Reply) → Machine
opening f = record { call = call; open_board = λ z v m. f z v m (open_board z v m); look = look }

abbrev pub looking : (Sizes → Memory → ℕ → Looked → Looked) → Machine
looking f = record { call = call; open_board = open_board; look = λ z m a. f z m a (look z m a) }
