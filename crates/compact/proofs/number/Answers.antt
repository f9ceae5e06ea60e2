-- `compact::number` meets its contract. The invariant is `Numbering`: what is written so far, and where the walk goes on.
-- Assumes nothing.
use native.Mathlib.Omega.{arith}
use Rattle.list.proofs.Filling.{fill_at, fill_tail}
use Rattle.head.specs.Bounds.{none_mark}
use lib.ListN.{length}
use mathlib.Core.Path.{refl, ap}
use Rattle.state.proofs.Same.{links_stay}
use Rattle.compact.proofs.Numbering.{numbering_first, numbering_slot, numbering_step, numbering_last}
use Rattle.compact.proofs.number.Goals as goal

pub loop-k-init : goal.loop-k-init
loop-k-init c = (links_stay, refl, numbering_first _ _ _ _ _ _ (fill_at _ _ none_mark c.fill.ensures))

pub returns-clause-numbered : goal.returns-clause-numbered
returns-clause-numbered c =
    numbering_last _ _ _ _ _ _ _ _ _ _ _
    (fill_tail _ _ none_mark c.fill.ensures c.requires.prevs) c.loop-k.invariant.2 c.loop-k-test.false

pub bounds-links-s : goal.bounds-links-s
bounds-links-s c = omega (arith, numbering_slot _ _ _ _ _ _ _ _ _ _ c.loop-k.invariant.2 c.requires.fit c.loop-k-test.true)

pub bounds-links-s-in-loop-k : goal.bounds-links-s-in-loop-k
bounds-links-s-in-loop-k c =
    omega (arith, numbering_slot _ _ _ _ _ _ _ _ _ _ c.loop-k.invariant.2 c.requires.fit c.loop-k-test.true, ap length c.loop-k.invariant.1)

pub loop-k-preserved : goal.loop-k-preserved
loop-k-preserved c = (
  record { next = c.loop-k.invariant.0.next; prev = c.loop-k.invariant.0.prev; stack = c.loop-k.invariant.0.stack },
  c.loop-k.invariant.1,
  rw c.loop-k.invariant.1 (numbering_step _ _ _ _ _ _ _ _ _ _ c.loop-k.invariant.2 c.requires.fit c.loop-k-test.true (omega arith) (omega arith)),
)
