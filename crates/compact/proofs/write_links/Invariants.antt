-- `compact::write_links` meets its contract. The invariant is `Writing`: each list as far as it is written.
-- Assumes nothing.
use Rattle.state.specs.State.{SameLinks}
use Rattle.compact.proofs.Writing.{Writing}
use Rattle.compact.proofs.write_links.Given as goal

abbrev pub invariant-loop-i : goal.invariant-loop-i
invariant-loop-i l =
    SameLinks l.initial.links l.links
    × Writing l.n l.live l.top l.initial.links.next.now l.initial.links.prev.now l.initial.links.stack.now l.links.next.now l.links.prev.now l.links.stack.now l.i
