-- No way leads back to one of the tasks so far.
use mathlib.Core.Path.{◌≡◌, refl, sym, ap, ◌∙◌}
use mathlib.Core.Bool.{not}
use native.Mathlib.Omega.{arith}
use Prim.Native.Nat.{◌<◌, ◌≤◌}
use lib.ListN.{length}
use Rattle.std.proofs.lemmas.List.{get_or-take, length-take-le}
use Rattle.memory.specs.declared.set.TaskSet.{TaskSet}
use Rattle.memory.specs.Lists.{has, leads}
use Rattle.memory.specs.Sound.{all_below}
use Rattle.table_parts.proofs.Tests.{below_more, below_all, below_fault}
use Rattle.table_leads.specs.Contract.{joined_in}
use Rattle.table_lists.proofs.no_way_back.Goals.{After-has}
use Rattle.table_lists.proofs.no_way_back.Goals as goal

pub loop-t-init : goal.loop-t-init
unfolding all_below
loop-t-init c = refl

-- the answer about task t
led : (c : After-has) → let places = c.args.places.now in
    c.has.result ≡ leads (joined_in places) (length places) c.loop-t.t c.loop-t.t
led c =
    let n = length c.args.places.now in
    let sets = c.ways.new.sets in
    let fits : n ≤ length sets = omega (arith, c.ways.ensures.long, c.requires) in
    let below : c.loop-t.t < n = omega (arith, c.loop-t-test.true, length-take-le n sets fits) in
    c.has.ensures ∙ ap (λ (s : TaskSet). has s.bits c.loop-t.t) (get_or-take n sets c.loop-t.t _ below) ∙ c.ways.ensures.each _ _ below

pub returns-then-has : goal.returns-then-has
returns-then-has c =
    let long = length-take-le (length c.args.places.now) c.ways.new.sets (omega (arith, c.ways.ensures.long, c.requires)) in
    sym (below_fault _ _ _ (omega (arith, c.loop-t-test.true, long)) (ap not (sym (led (goal.at.returns-then-has c).After-has) ∙ c.if-has.true)))

pub loop-t-preserved : goal.loop-t-preserved
loop-t-preserved c = below_more _ _ c.loop-t.invariant (ap not (sym (led (goal.at.loop-t-preserved c).After-has) ∙ c.if-has.false))

pub returns : goal.returns
returns c =
    let long = length-take-le (length c.args.places.now) c.ways.new.sets (omega (arith, c.ways.ensures.long, c.requires)) in
    sym (below_all _ _ _ c.loop-t.invariant (omega (arith, long)) (omega (arith, long)))
