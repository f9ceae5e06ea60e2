-- `rows::write_removed` meets its contract: the writing loop of `proofs/Sweeping.antt`.
-- Assumes nothing.
use Prim.Native.Nat.{◌-◌}
use Rattle.state.specs.State.{held, seen, SameRows}
use Rattle.rows.proofs.Sweeping.{Sweeping}
use Rattle.rows.proofs.write_removed.Given as goal

abbrev pub invariant-loop : goal.invariant-loop
invariant-loop l =
    let s = seen l.view in
    SameRows l.initial.rows l.rows
    × Sweeping s.fields s.nexts l.rule (held l.initial.rows) (held l.rows) s.head.front.0 s.head.live l.slot.0 (s.head.live - l.counter) l.n
