-- `inspect::table_ok` meets its contract, slot by slot.
-- Assumes nothing.
use mathlib.Core.Path.{◌∙◌, sym}
use Rattle.list.proofs.Tests.{all_fail, all_more, all_end}
use Rattle.inspect.proofs.table_ok.Goals as goal

pub returns-then-not-used_stands : goal.returns-then-not-used_stands
returns-then-not-used_stands c = sym (c.loop-slot.invariant ∙ all_fail _ _ _ c.loop-slot-test.true (sym c.used_stands.ensures ∙ c.if-not-used_stands.true))

pub loop-slot-preserved : goal.loop-slot-preserved
loop-slot-preserved c = c.loop-slot.invariant ∙ all_more _ _ _ c.loop-slot-test.true (sym c.used_stands.ensures ∙ c.if-not-used_stands.false)

pub returns : goal.returns
returns c = sym (c.loop-slot.invariant ∙ all_end _ _ _ c.loop-slot-test.false)
