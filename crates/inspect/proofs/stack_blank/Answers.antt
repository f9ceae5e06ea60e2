-- `inspect::stack_blank` meets its contract, place by place.
-- Assumes nothing.
use mathlib.Core.Path.{◌≡◌, ◌∙◌, sym, ap}
use Prim.Native.Nat.{◌<◌}
use native.Mathlib.Omega.{arith}
use lib.Seq.{get_or-take, length-take-le}
use Rattle.list.proofs.Tests.{all_fail, all_more, all_end}
use Rattle.state.specs.State.{viewed}
use Rattle.inspect.specs.Tests.{blank_at, stack_blank}
use Rattle.inspect.proofs.stack_blank.Goals as goal
use Rattle.inspect.proofs.stack_blank.Goals.{After-blank_at}

-- what the place's slot was tested for
tested : (c : After-blank_at) → c.blank_at.result ≡ stack_blank (viewed c.args.fields.now) c.args.stack.now c.loop-slot.slot-index
unfolding stack_blank
tested c =
    let a = c.args in
    let h : c.loop-slot.slot-index < a.depth = omega (arith, length-take-le a.depth a.stack.now c.requires.long) in
    c.blank_at.ensures ∙ ap (blank_at (viewed a.fields.now)) (get_or-take a.depth a.stack.now c.loop-slot.slot-index 0 h)

pub returns-then-not-blank_at : goal.returns-then-not-blank_at
returns-then-not-blank_at c = sym (c.loop-slot.invariant ∙ all_fail _ _ _ (omega (arith, length-take-le c.args.depth c.args.stack.now c.requires.long)) (sym (tested (goal.at.returns-then-not-blank_at c).After-blank_at) ∙ c.if-not-blank_at.true))

pub loop-slot-preserved : goal.loop-slot-preserved
loop-slot-preserved c = c.loop-slot.invariant ∙ all_more _ _ _ (omega (arith, length-take-le c.args.depth c.args.stack.now c.requires.long)) (sym (tested (goal.at.loop-slot-preserved c).After-blank_at) ∙ c.if-not-blank_at.false)

pub returns : goal.returns
returns c = sym (c.loop-slot.invariant ∙ all_end _ _ _ (omega (arith, length-take-le c.args.depth c.args.stack.now c.requires.long)))
