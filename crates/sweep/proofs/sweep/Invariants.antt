-- `sweep::sweep` meets its contract: a walk over the slots that were in the order.
-- Assumes nothing.
use Prim.Native.Nat.{◌-◌}
use Rattle.state.specs.State.{lent, SameLists}
use Rattle.sweep.proofs.Looking.{Sweeping}
use Rattle.sweep.proofs.sweep.Given as goal

abbrev pub invariant-loop : goal.invariant-loop
invariant-loop l =
    let s = lent l.initial.state in
    let t = lent l.state in
    SameLists l.initial.state l.state
    × Sweeping s.head s.fields s.nexts s.prevs s.stack s.cells l.rule t.head t.fields t.nexts t.prevs t.stack t.cells l.slot.0 (s.head.live - l.counter)
