-- `store::remove` meets its contract: out of the table, its fields zeroed, on the stack.
-- Assumes nothing.
use native.Mathlib.Omega.{arith}
use mathlib.Core.Path.{refl}
use Rattle.store.proofs.Writing.{occupied_writable, occupied_weight, occupied_live, occupied_held, dropped_ok}
use Rattle.store.proofs.remove.Goals as goal

pub bounds-state-slot : goal.bounds-state-slot
bounds-state-slot c = (occupied_writable c.requires).weights

pub remove_slot-requires : goal.remove_slot-requires
remove_slot-requires c = occupied_live c.requires

pub write-requires : goal.write-requires
write-requires c = occupied_writable c.requires

pub remove-left-requires : goal.remove-left-requires
remove-left-requires c = occupied_held c.requires

pub overflow_sub-left : goal.overflow_sub-left
overflow_sub-left c = omega (arith, c.remove-left.ensures.removed.rest.weight, occupied_weight c.requires)

pub returns-clause-dropped : goal.returns-clause-dropped
returns-clause-dropped c =
    rw c.with_weight-state.ensures
    (dropped_ok c.requires _ _ _ _ _ _ _ refl c.remove_slot.ensures.removed c.write.ensures.wrote c.remove-left.ensures.removed)
