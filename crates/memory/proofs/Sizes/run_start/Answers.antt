-- `Sizes::run_start` meets its contract: a run for each task before it.
use Prim.Native.Nat.{ℕ, ◌*◌}
use mathlib.Core.Path.{◌≡◌, ap}
use native.Mathlib.Omega.{arith}
use Rattle.memory.specs.Pieces.{run_start}
use Rattle.memory.proofs.Limits.{runs_most}
use Rattle.memory.proofs.Sizes.run_start.Goals.{After-limit}
use Rattle.memory.proofs.Sizes.run_start.Goals as goal

-- the length of a run for each task is where the run begins
starts : (c : After-limit) → c.limit.result * c.args.task ≡ run_start c.args.self c.args.task
unfolding run_start
starts c = ap (λ (n : ℕ). n * c.args.task) c.limit.ensures

pub overflow_mul-result : goal.overflow_mul-result
overflow_mul-result c = omega (arith, starts (goal.at.overflow_mul-result c).After-limit, runs_most c.args.self c.args.task c.requires)

pub returns : goal.returns
returns c = starts (goal.at.returns c).After-limit
