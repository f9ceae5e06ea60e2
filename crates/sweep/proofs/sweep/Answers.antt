-- `sweep::sweep` meets its contract: a walk over the slots that were in the order.
-- Assumes nothing.
use Prim.Native.Nat.{◌+◌, ◌-◌}
use mathlib.Core.Path.{◌≡◌, ap, ◌∙◌}
use native.Mathlib.Omega.{arith}
use Rattle.model.specs.Desk.{keeps}
use Rattle.state.proofs.Same.{lists_stay, lists_then}
use Rattle.head.specs.Fields.{Fields}
use Rattle.store.specs.State.{entry_in}
use Rattle.store.proofs.Writing.{occupied_writable}
use Rattle.sweep.proofs.Looking.{sweep_start, sweep_linked, sweep_occupied, sweep_step, sweep_end}
use Rattle.sweep.proofs.sweep.Goals as goal

pub loop-init : goal.loop-init
loop-init c =
    let z : c.args.state.now.head.live - 0 ≡ c.args.state.now.head.live = omega arith in
    (lists_stay, rw z (sweep_start _ _ _ _ _ _ _))

pub bounds-state-slot : goal.bounds-state-slot
bounds-state-slot c = sweep_linked c.requires c.loop.invariant.1 (omega arith)

pub read-row-requires : goal.read-row-requires
read-row-requires c = rw c.view.ensures (occupied_writable (sweep_occupied c.requires c.loop.invariant.1 (omega arith)))

pub judge-requires : goal.judge-requires
judge-requires c = sweep_occupied c.requires c.loop.invariant.1 (omega arith)

pub loop-preserved : goal.loop-preserved
loop-preserved c =
    let live = c.args.state.now.head.live in
    let z : live - (c.loop.counter + 1) ≡ live - c.loop.counter - 1 = omega arith in (
      lists_then c.loop.invariant.0 c.judge.ensures.lists,
      rw z
          (sweep_step c.requires c.loop.invariant.1 _ _ _ _ _ _ _ (omega arith)
          (c.keeps.ensures ∙ ap (keeps c.args.rule) (c.read-row.ensures ∙ ap (λ (f : Fields). entry_in f c.loop.slot.0) c.view.ensures))
          c.judge.ensures.judged),
    )

pub returns-clause-lists : goal.returns-clause-lists
returns-clause-lists c = c.loop.invariant.0

pub returns-clause-swept : goal.returns-clause-swept
returns-clause-swept c = sweep_end c.requires c.loop.invariant.1 (omega arith)
