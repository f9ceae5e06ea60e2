-- `compact::plan` meets its contract. The invariant is `Planning`: the row so far, and where the entries of the places left stand.
-- Assumes nothing.
use mathlib.Core.Path.{◌≡◌}
use Rattle.state.specs.State.{SameLinks}
use Rattle.compact.proofs.Planning.{Planning}
use Rattle.compact.proofs.plan.Given as goal

abbrev pub invariant-loop-i : goal.invariant-loop-i
invariant-loop-i l =
    SameLinks l.initial.links l.links
    × (l.links.next.now ≡ l.initial.links.next.now)
    × Planning l.n l.live l.initial.links.prev.now l.initial.links.stack.now l.links.prev.now l.links.stack.now l.i
