-- `compact::number` meets its contract. The invariant is `Numbering`: what is written so far, and where the walk goes on.
-- Assumes nothing.
use mathlib.Core.Path.{◌≡◌}
use Rattle.state.specs.State.{SameLinks}
use Rattle.compact.proofs.Numbering.{Numbering}
use Rattle.compact.proofs.number.Given as goal

abbrev pub invariant-loop-k : goal.invariant-loop-k
invariant-loop-k l =
    SameLinks l.initial.links l.links
    × (l.links.next.now ≡ l.initial.links.next.now)
    × Numbering l.n l.live l.front l.initial.links.next.now l.initial.links.prev.now l.initial.links.stack.now l.links.prev.now l.links.stack.now l.s l.k
