-- If what is still ahead is proper, the whole is.
use Rattle.head.specs.Walks.{walk}
use Rattle.test_table.specs.Tests.{Proper}
use Rattle.test_table.proofs.proper.Given as goal

abbrev pub invariant-loop-left : goal.invariant-loop-left
invariant-loop-left l = Proper (walk l.next l.at l.left) → Proper (walk l.next l.front l.live)
