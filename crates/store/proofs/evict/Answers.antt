-- `store::evict` meets its contract: what has left so far, with what is still to leave, is what was to leave.
-- Assumes nothing.
use native.Mathlib.Omega.{arith}
use Rattle.state.proofs.Same.{lists_stay, lists_then}
use Rattle.store.proofs.Evicting.{evict_start, evict_occupied, evict_step, evict_end}
use Rattle.store.proofs.evict.Goals as goal

pub loop-init : goal.loop-init
loop-init c = (lists_stay, evict_start _ _ _ _ _ _ _)

pub remove-requires : goal.remove-requires
remove-requires c = evict_occupied c.loop.invariant.1 c.requires (omega arith)

pub loop-preserved : goal.loop-preserved
loop-preserved c =
    (lists_then c.loop.invariant.0 c.remove.ensures.lists, evict_step c.loop.invariant.1 _ _ _ _ _ _ c.requires (omega arith) c.remove.ensures.dropped)

pub returns-clause-lists : goal.returns-clause-lists
returns-clause-lists c = c.loop.invariant.0

pub returns-clause-shed : goal.returns-clause-shed
returns-clause-shed c = evict_end c.loop.invariant.1 (omega arith)
