-- `compact::plan` meets its contract. The invariant is `Planning`: the row so far, and where the entries of the places left stand.
-- Assumes nothing.
use mathlib.Core.Path.{refl}
use Rattle.state.proofs.Same.{links_stay}
use Rattle.compact.proofs.Planning.{planning_first, planning_step, planning_last}
use Rattle.compact.proofs.plan.Goals as goal

pub loop-i-init : goal.loop-i-init
loop-i-init c = (links_stay, refl, planning_first _ _ _ _ c.requires)

pub loop-i-preserved : goal.loop-i-preserved
loop-i-preserved c = (
  record { next = c.loop-i.invariant.0.next; prev = c.loop-i.invariant.0.prev; stack = c.loop-i.invariant.0.stack },
  c.loop-i.invariant.1,
  planning_step _ _ _ _ _ _ _ _ _ c.requires c.loop-i-test.true c.put.ensures c.put-in-loop-i.ensures c.loop-i.invariant.2,
)

pub returns-clause-planned : goal.returns-clause-planned
returns-clause-planned c = planning_last _ _ _ _ _ _ _ c.requires c.loop-i.invariant.2 c.loop-i-test.false
