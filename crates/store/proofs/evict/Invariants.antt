-- `store::evict` meets its contract: what has left so far, with what is still to leave, is what was to leave.
-- Assumes nothing.
use Rattle.state.specs.State.{lent, SameLists}
use Rattle.store.proofs.Evicting.{Evicting}
use Rattle.store.proofs.evict.Given as goal

abbrev pub invariant-loop : goal.invariant-loop
invariant-loop l =
    let s = lent l.initial.state in
    let t = lent l.state in
    SameLists l.initial.state l.state
    × Evicting s.head s.fields s.nexts s.prevs s.stack s.cells l.k t.head t.fields t.nexts t.prevs t.stack t.cells l.counter
