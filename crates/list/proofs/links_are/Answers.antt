-- `list::links_are` meets its contract.
-- Assumes nothing.
use borrow.Author.Tests.{eq-eqb, ne_eqb}
use Rattle.list.specs.Inspect.{links_are}
use Rattle.list.proofs.links_are.Goals as goal

pub returns-then-next-slot : goal.returns-then-next-slot
unfolding links_are
returns-then-next-slot c = simp (eq-eqb _ _ c.if-next-slot.true)

pub returns-else-next-slot : goal.returns-else-next-slot
unfolding links_are
returns-else-next-slot c = simp (ne_eqb _ _ c.if-next-slot.false)
