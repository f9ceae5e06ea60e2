-- `list::evict` meets its contract.
-- Assumes nothing.
use Rattle.state.specs.State.{SameLinks}
use Rattle.list.proofs.Evicting.{Evicting}
use Rattle.list.proofs.evict.Given as goal

abbrev pub invariant-loop : goal.invariant-loop
invariant-loop l =
    SameLinks l.initial.links l.links
    × Evicting l.initial.left l.left l.initial.links.next.now l.initial.links.prev.now l.initial.links.stack.now l.links.next.now l.links.prev.now l.links.stack.now l.k l.counter
