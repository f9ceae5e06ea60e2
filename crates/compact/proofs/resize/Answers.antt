-- `compact::resize` meets its contract.
-- Assumes nothing.
use Prim.Native.Nat.{min}
use mathlib.Core.Path.{◌≡◌}
use native.Mathlib.Omega.{arith}
use Rattle.compact.proofs.Resizing.{resize_stays, resize_compactable, resize_shrinks}
use Rattle.compact.proofs.resize.Goals as goal

pub returns-then-head-capacity-clause-resized : goal.returns-then-head-capacity-clause-resized
returns-then-head-capacity-clause-resized c = resize_stays _ _ _ _ _ _ _ (omega arith) c.with_capacity-state.ensures

pub reorder-requires : goal.reorder-requires
reorder-requires c =
    let e : c.min.result ≡ min c.args.state.now.head.top.0 c.args.capacity = grind arith in
    resize_compactable _ _ _ _ _ _ _ c.requires e

pub returns-else-head-capacity-clause-resized : goal.returns-else-head-capacity-clause-resized
returns-else-head-capacity-clause-resized c =
    let e : c.min.result ≡ min c.args.state.now.head.top.0 c.args.capacity = grind arith in
    resize_shrinks _ _ _ _ _ _ _ _ _ _ _ _ _ (omega arith) e c.reorder.ensures.reordered c.with_capacity-state-else-head-capacity.ensures
