-- `compact::reorder` meets its contract.
-- Assumes nothing.
use native.Mathlib.Omega.{arith}
use Rattle.compact.proofs.Compacting.{compactable_walk, reorder_exchangeable, reorder_writable, reordered}
use Rattle.compact.proofs.reorder.Goals as goal

pub arrange-requires : goal.arrange-requires
arrange-requires c = compactable_walk _ _ _ _ _ _ c.requires

pub exchange_fields-requires-clause-long : goal.exchange_fields-requires-clause-long
exchange_fields-requires-clause-long c =
    let w = reorder_writable _ _ _ _ _ _ c.requires _ _ c.arrange.ensures.planned _ c.arrange.ensures.next in
    omega (arith, w.stacks, w.low, w.high)

pub exchange_fields-requires-clause-row : goal.exchange_fields-requires-clause-row
exchange_fields-requires-clause-row c = reorder_exchangeable _ _ _ _ _ _ c.requires _ _ c.arrange.ensures.planned

pub write_links-requires : goal.write_links-requires
write_links-requires c = reorder_writable _ _ _ _ _ _ c.requires _ _ c.arrange.ensures.planned _ c.arrange.ensures.next

pub head_of-state-requires : goal.head_of-state-requires
head_of-state-requires c = c.requires.low

pub returns-clause-reordered : goal.returns-clause-reordered
returns-clause-reordered c =
    reordered _ _ _ _ _ _ c.requires _ _ c.arrange.ensures.planned _ _ _ _ _ _ c.arrange.ensures.next
    c.exchange_fields.ensures.exchanged c.write_links.ensures.written c.head_of-state.ensures
