-- `inspect::weights_ok` meets its contract, weight by weight.
-- Assumes nothing.
use mathlib.Core.Path.{◌≡◌, ◌∙◌, sym, ap}
use Prim.Native.Nat.{◌<◌}
use native.Mathlib.Omega.{arith}
use lib.ListN.{get_or, take}
use lib.Seq.{get_or-take, length-take-le}
use Rattle.inspect.specs.Tests.{sum_ok}
use Rattle.inspect.proofs.Sums.{sum_heavy, sum_more, sum_end, zero_sum}
use Rattle.inspect.proofs.weights_ok.Goals as goal
use Rattle.inspect.proofs.weights_ok.Goals.{At-loop-taken}

pub returns-then-weight-eq0 : goal.returns-then-weight-eq0
returns-then-weight-eq0 c = c.all_zero.ensures ∙ zero_sum _ _ _ ∙ ap (sum_ok _ _ 0) (sym c.if-weight-eq0.true)

-- the weight that is taken is the slot's
weighed : (c : At-loop-taken) → c.loop-taken.taken-index < c.args.n → get_or (take c.args.n c.args.weights.now) c.loop-taken.taken-index 0 ≡ get_or c.args.weights.now c.loop-taken.taken-index 0
weighed c h = get_or-take c.args.n c.args.weights.now c.loop-taken.taken-index 0 h

pub returns-then-left-taken : goal.returns-then-left-taken
returns-then-left-taken c =
    let h : c.loop-taken.taken-index < c.args.n = omega (arith, length-take-le c.args.n c.args.weights.now c.requires) in
    sym (c.loop-taken.invariant ∙ sum_heavy _ _ _ _ h (omega (arith, weighed (goal.at.returns-then-left-taken c).At-loop-taken h, c.if-left-taken.true)))

pub loop-taken-preserved : goal.loop-taken-preserved
loop-taken-preserved c =
    let h : c.loop-taken.taken-index < c.args.n = omega (arith, length-take-le c.args.n c.args.weights.now c.requires) in
    let e : get_or (take c.args.n c.args.weights.now) c.loop-taken.taken-index 0 ≡ get_or c.args.weights.now c.loop-taken.taken-index 0 = weighed (goal.at.loop-taken-preserved c).At-loop-taken h in
    rw e (c.loop-taken.invariant ∙ sum_more _ _ _ _ h (omega (arith, c.if-left-taken.false)))

pub returns : goal.returns
returns c = sym (c.loop-taken.invariant ∙ sum_end _ _ _ _ (omega (arith, length-take-le c.args.n c.args.weights.now c.requires)))
