-- `step_wake::wake` meets its contract: those end who end with the sleeper.
use Rattle.step_wake.proofs.Ends.{few, may_end, wakes_all}
use Rattle.step_wake.proofs.wake.Goals as goal

pub ends_with-ends-requires : goal.ends_with-ends-requires
ends_with-ends-requires c = few c.requires

pub end_all-requires : goal.end_all-requires
end_all-requires c = may_end c.requires

pub returns : goal.returns
returns c = wakes_all c.requires _ _ c.ends_with-ends.ensures c.end_all.ensures
