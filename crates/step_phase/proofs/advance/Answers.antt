-- `step_phase::advance` meets its contract: a law of the whole step for each way through it.
use mathlib.Core.Path.{◌≡◌}
use native.Mathlib.Omega.{arith}
use Rattle.step_phase.proofs.Phases.{over_taking, over-writing, over_releasing, decides, written, ends, asleep, refuses}
use Rattle.step_phase.proofs.advance.Goals as goal

pub returns-in-Taking : goal.returns-in-Taking
returns-in-Taking c =
    rw c.plain.ensures (over_taking c.requires c.in-Taking.is c.if-i-count.true (c.take-next.ensures c.args.words.now c.requires.among.ok))

pub returns-in-Taking-2 : goal.returns-in-Taking-2
returns-in-Taking-2 c =
    let same : c.in-Taking-2.field-1 ≡ c.in-Taking.i = cc in
    decides c.requires c.in-Taking-2.is (omega arith) c.decide.ensures

pub returns-in-Writing : goal.returns-in-Writing
returns-in-Writing c =
    rw (c.plain-in-Writing.ensures, c.moved.ensures)
    (over-writing c.requires c.in-Writing.is c.if-i-count-2.true (c.write-next.ensures c.args.records.now c.args.places.now))

pub returns-in-Writing-2 : goal.returns-in-Writing-2
returns-in-Writing-2 c =
    rw (c.plain-in-Writing-2.ensures, c.moved-in-Writing-2.ensures) (written c.requires c.in-Writing.is c.if-i-count-2.false)

pub returns-in-Releasing : goal.returns-in-Releasing
returns-in-Releasing c =
    rw (c.plain-in-Releasing.ensures, c.moved-in-Releasing.ensures)
    (over_releasing c.requires c.in-Releasing.is c.if-i-count-3.true (c.release-next.ensures c.args.words.now c.args.places.now))

pub returns-in-Releasing-2 : goal.returns-in-Releasing-2
returns-in-Releasing-2 c =
    let same : c.in-Releasing-2.field-1 ≡ c.in-Releasing.i = cc in
    rw c.end.ensures (ends c.requires c.in-Releasing-2.is (omega arith))

pub returns-in-Asleep : goal.returns-in-Asleep
returns-in-Asleep c = rw c.plain-in-Asleep.ensures (asleep c.requires c.in-Asleep.is)

pub returns-in-Open : goal.returns-in-Open
returns-in-Open c = rw c.into.ensures (refuses c.requires c.in-Open.is)
