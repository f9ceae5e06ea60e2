-- `inspect::rest_blank` meets its contract, place by place.
-- Assumes nothing.
use mathlib.Core.Path.{◌∙◌, sym}
use Rattle.list.proofs.Tests.{all_fail, all_more, all_end}
use Rattle.inspect.proofs.rest_blank.Goals as goal

pub returns-then-not-blank_at : goal.returns-then-not-blank_at
returns-then-not-blank_at c = sym (c.loop-slot.invariant ∙ all_fail _ _ _ c.loop-slot-test.true (sym c.blank_at.ensures ∙ c.if-not-blank_at.true))

pub loop-slot-preserved : goal.loop-slot-preserved
loop-slot-preserved c = c.loop-slot.invariant ∙ all_more _ _ _ c.loop-slot-test.true (sym c.blank_at.ensures ∙ c.if-not-blank_at.false)

pub returns : goal.returns
returns c = sym (c.loop-slot.invariant ∙ all_end _ _ _ c.loop-slot-test.false)
