-- `rows::removed_by` meets its contract: the counting loop of `proofs/Sweeping.antt`.
-- Assumes nothing.
use Prim.Native.Nat.{◌-◌}
use Rattle.state.specs.State.{seen}
use Rattle.rows.proofs.Sweeping.{Counting}
use Rattle.rows.proofs.removed_by.Given as goal

abbrev pub invariant-loop : goal.invariant-loop
invariant-loop l =
    let s = seen l.view in
    Counting s.fields s.nexts l.rule s.head.front.0 s.head.live l.slot.0 (s.head.live - l.counter) l.n
