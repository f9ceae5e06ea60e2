-- `list::inspect_links` meets its contract.
-- Assumes nothing.
use native.Mathlib.Omega.{arith}
use Rattle.list.specs.Inspect.{links_ok}
use Rattle.list.proofs.Decide.{numbers, answer}
use Rattle.list.proofs.inspect_links.Goals as goal

pub walk_ok-requires : goal.walk_ok-requires
walk_ok-requires c =
    let a = c.args in
    let n = numbers a.head a.next.now a.prev.now a.stack.now (grind arith) in
    omega (arith, n.fit, n.long.nexts, n.long.prevs)

pub cells_ok-requires : goal.cells_ok-requires
cells_ok-requires c =
    let a = c.args in
    let n = numbers a.head a.next.now a.prev.now a.stack.now (grind arith) in
    omega (arith, n.fit, n.long.nexts, n.long.prevs, n.long.stacks)

pub bare_ok-requires : goal.bare_ok-requires
bare_ok-requires c =
    let a = c.args in
    let n = numbers a.head a.next.now a.prev.now a.stack.now (grind arith) in
    omega (arith, n.fit, n.long.nexts, n.long.prevs)

pub returns-then-cells_ok : goal.returns-then-cells_ok
unfolding links_ok
returns-then-cells_ok c = answer _ _ _ _ _ (grind arith)

pub returns-else-cells_ok : goal.returns-else-cells_ok
unfolding links_ok
returns-else-cells_ok c = answer _ _ _ _ _ (grind arith)
