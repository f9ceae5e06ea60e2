-- `rows::leaving` meets its contract: the loop of `proofs/Dropping.antt`. The measure is what is left, which falls by a cost of one or more.
-- Assumes nothing.
use native.Mathlib.Omega.{arith}
use Rattle.rows.proofs.Dropping.{Ready, drop_start, drop_inside, drop_ready, drop_step, drop_end, budget_countable, budget_stocked}
use Rattle.rows.proofs.leaving.Goals as goal
use Rattle.rows.proofs.leaving.Goals.{After-past-here}

pub taken_up-left-requires : goal.taken_up-left-requires
taken_up-left-requires c = budget_countable c.requires

pub loop-left-init : goal.loop-left-init
loop-left-init c = drop_start _ _ _ _ _ _

pub past-here-requires : goal.past-here-requires
past-here-requires c = drop_inside c.loop-left.invariant (budget_stocked c.requires c.taken_up-left.ensures) c.loop-left-test.true

-- what the body reads at the slot that it came to
ready : (c : After-past-here)
    → Ready c.args.view.now.fields.weights.now c.args.view.now.links.prev.now c.loop-left.left c.loop-left.k c.past-here.result.0
ready c =
    drop_ready c.loop-left.invariant (budget_stocked c.requires c.taken_up-left.ensures) _ c.loop-left-test.true c.past-here.ensures

pub offset_bounds-weights-here : goal.offset_bounds-weights-here
offset_bounds-weights-here c = omega arith

pub bounds-weights-here : goal.bounds-weights-here
bounds-weights-here c = (ready (goal.at.bounds-weights-here c).After-past-here).weighs

pub overflow_add-left : goal.overflow_add-left
overflow_add-left c = let r = ready (goal.at.overflow_add-left c).After-past-here in omega (arith, r.cost, r.small)

pub overflow_sub-left : goal.overflow_sub-left
overflow_sub-left c = omega (arith, (ready (goal.at.overflow_sub-left c).After-past-here).cost)

pub ahead-slot-requires : goal.ahead-slot-requires
ahead-slot-requires c = (ready (goal.at.ahead-slot-requires c).After-past-here).links

pub overflow_add-k : goal.overflow_add-k
overflow_add-k c = omega (arith, (ready (goal.at.overflow_add-k c).After-past-here).few)

pub loop-left-smaller : goal.loop-left-smaller
loop-left-smaller c = omega (arith, (ready (goal.at.loop-left-smaller c).After-past-here).cost)

pub loop-left-preserved : goal.loop-left-preserved
loop-left-preserved c = drop_step c.loop-left.invariant _ _ c.loop-left-test.true c.past-here.ensures c.ahead-slot.ensures

pub returns : goal.returns
returns c = drop_end c.taken_up-left.ensures c.loop-left.invariant c.loop-left-test.false
