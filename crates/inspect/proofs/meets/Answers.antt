-- `inspect::meets` meets its contract: the invariant and the steps are those of `proofs/Ends.antt`.
-- Assumes nothing.
use native.Mathlib.Omega.{arith}
use Rattle.inspect.proofs.Ends.{apart, far_a, far_b, loose_a, loose_b, nearer, meet_one, meet_apart, meet_two}
use Rattle.inspect.proofs.meets.Goals as goal
use Rattle.inspect.proofs.meets.Goals.{then-top-q-via-then-top-q, then-top-q-via-else-top-q+then-top-p, then-top-q-via-else-top-q+else-top-p+then-prev-q, then-top-q-via-else-top-q+else-top-p+else-prev-q+then-next-p}

pub loop-init : goal.loop-init
loop-init c = apart _ _ _ _ (omega arith) c.requires.ends.0 c.requires.ends.1 c.requires.ends.2

pub returns-then-top-q : goal.returns-then-top-q
returns-then-top-q c =
    elim c.then-top-q.branch [
      | then-top-q-via-then-top-q w ↦ far_a _ _ _ _ c.loop.invariant (omega arith) w.if-top-q.true
      | then-top-q-via-else-top-q+then-top-p w ↦ far_b _ _ _ _ c.loop.invariant (omega arith) w.if-top-p.true
      | then-top-q-via-else-top-q+else-top-p+then-prev-q w ↦ loose_a _ _ _ _ c.loop.invariant (omega arith) w.if-top-q.false w.if-prev-q.true
      | then-top-q-via-else-top-q+else-top-p+else-prev-q+then-next-p w ↦ loose_b _ _ _ _ c.loop.invariant (omega arith) w.if-next-p.true
    ]

pub loop-preserved : goal.loop-preserved
loop-preserved c = nearer _ _ _ _ c.loop.invariant (omega arith) (omega arith) c.if-top-q.false c.if-top-p.false c.if-prev-q.false c.if-next-p.false

pub returns-then-more-eq0 : goal.returns-then-more-eq0
returns-then-more-eq0 c = meet_one _ _ _ _ c.loop.invariant (omega (arith, c.if-more-eq0.true, c.loop-test.false))

pub returns-then-next-front : goal.returns-then-next-front
returns-then-next-front c = meet_two _ _ _ _ c.loop.invariant (omega (arith, c.if-more-eq0.false, c.loop-test.false)) c.if-next-front.true

pub returns-else-next-front : goal.returns-else-next-front
returns-else-next-front c = meet_apart _ _ _ _ c.loop.invariant (omega (arith, c.if-more-eq0.false, c.loop-test.false)) c.if-next-front.false
