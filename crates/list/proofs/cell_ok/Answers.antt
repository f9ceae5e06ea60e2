-- `list::cell_ok` meets its contract.
-- Assumes nothing.
use mathlib.Core.Path.{◌∙◌}
use borrow.Author.Tests.{lt-ltb, le-ltb}
use Rattle.list.specs.Inspect.{cell_ok}
use Rattle.list.proofs.cell_ok.Goals as goal

pub returns-then-slot-top : goal.returns-then-slot-top
unfolding cell_ok
returns-then-slot-top c = c.links_are.ensures ∙ simp (lt-ltb _ _ c.if-place-depth.true, lt-ltb _ _ c.if-slot-top.true)

pub returns-else-slot-top : goal.returns-else-slot-top
unfolding cell_ok
returns-else-slot-top c = simp (lt-ltb _ _ c.if-place-depth.true, le-ltb _ _ c.if-slot-top.false)

pub returns-else-place-depth : goal.returns-else-place-depth
unfolding cell_ok
returns-else-place-depth c = simp (le-ltb _ _ c.if-place-depth.false)
