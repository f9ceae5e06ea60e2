-- If the slot is on the links at all, it is among those still ahead.
use mathlib.Core.List.{Memᴰ}
use Rattle.head.specs.Walks.{walk}
use Rattle.test_table.proofs.absent.Given as goal

abbrev pub invariant-loop-left : goal.invariant-loop-left
invariant-loop-left l = Memᴰ l.slot (walk l.next l.from l.k) → Memᴰ l.slot (walk l.next l.at l.left)
