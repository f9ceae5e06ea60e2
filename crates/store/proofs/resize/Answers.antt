-- `store::resize` meets its contract: a shrink makes the table anew along the new links, anything else leaves it.
-- Assumes nothing.
use Rattle.store.proofs.Resizing.{holds_resizable, shrunk_keyed, capped_shrunk, capped_stayed}
use Rattle.store.proofs.resize.Goals as goal

pub resize-requires : goal.resize-requires
resize-requires c = holds_resizable c.requires

pub rebuild-requires : goal.rebuild-requires
rebuild-requires c = shrunk_keyed c.requires _ _ _ _ _ c.resize.ensures.resized c.if-capacity-before.true _ c.resize.ensures.cells

pub returns-then-capacity-before-clause-capped : goal.returns-then-capacity-before-clause-capped
returns-then-capacity-before-clause-capped c =
    capped_shrunk c.requires _ _ _ _ _ c.resize.ensures.resized c.if-capacity-before.true _ _ c.resize.ensures.cells c.rebuild.ensures.rebuilt

pub returns-else-capacity-before-clause-capped : goal.returns-else-capacity-before-clause-capped
returns-else-capacity-before-clause-capped c = capped_stayed c.requires _ _ _ _ _ _ c.resize.ensures.cells c.resize.ensures.resized c.if-capacity-before.false
