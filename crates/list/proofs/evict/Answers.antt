-- `list::evict` meets its contract.
-- Assumes nothing.
use native.Mathlib.Omega.{arith}
use Rattle.state.proofs.Same.{links_stay, links_then}
use Rattle.list.proofs.Evicting.{evicting_first, evicting_held, evicting_more, evicting_last}
use Rattle.list.proofs.evict.Goals as goal

pub loop-init : goal.loop-init
loop-init c = (links_stay, evicting_first _ _ _ _ _ c.requires)

pub remove-left-requires : goal.remove-left-requires
remove-left-requires c = evicting_held c.loop.invariant.1 (omega arith)

pub loop-preserved : goal.loop-preserved
loop-preserved c = (links_then c.loop.invariant.0 c.remove-left.ensures.lists, evicting_more c.loop.invariant.1 (omega arith) c.remove-left.ensures.removed)

pub returns-clause-evicted : goal.returns-clause-evicted
returns-clause-evicted c = evicting_last c.loop.invariant.1 (omega arith)

pub returns-clause-lists : goal.returns-clause-lists
returns-clause-lists c = c.loop.invariant.0
