-- `rows::write_removed` meets its contract: the writing loop of `proofs/Sweeping.antt`.
-- Assumes nothing.
use Prim.Native.Nat.{◌+◌, ◌-◌}
use mathlib.Core.Path.{◌≡◌}
use native.Mathlib.Omega.{arith}
use Rattle.state.proofs.Same.{rows_stay, rows_then}
use Rattle.rows.proofs.Sweeping.{sweep_start, sweep_offered, sweep_step, sweep_end, ahead_readable, ahead_linked}
use Rattle.rows.proofs.write_removed.Goals as goal

pub loop-init : goal.loop-init
loop-init c =
    let z : c.args.view.now.head.live - 0 ≡ c.args.view.now.head.live = omega arith in
    (rows_stay, rw z (sweep_start c.requires))

pub read-row-requires : goal.read-row-requires
read-row-requires c = ahead_readable c.loop.invariant.1.ahead (omega arith)

pub hand_out-n-requires : goal.hand_out-n-requires
hand_out-n-requires c = sweep_offered c.loop.invariant.1 _ (omega arith) c.read-row.ensures

pub after-slot-requires : goal.after-slot-requires
after-slot-requires c = ahead_linked c.loop.invariant.1.ahead (omega arith)

pub loop-preserved : goal.loop-preserved
loop-preserved c =
    let live = c.args.view.now.head.live in
    let z : live - (c.loop.counter + 1) ≡ live - c.loop.counter - 1 = omega arith in (
      rows_then c.loop.invariant.0 c.hand_out-n.ensures.lists,
      rw z (sweep_step c.loop.invariant.1 _ (omega arith) c.read-row.ensures _ _ _ c.after-slot.ensures c.hand_out-n.ensures.handed),
    )

pub returns-clause-lists : goal.returns-clause-lists
returns-clause-lists c = c.loop.invariant.0

pub returns-clause-wrote : goal.returns-clause-wrote
returns-clause-wrote c = sweep_end c.loop.invariant.1 (omega arith)
