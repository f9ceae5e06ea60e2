-- What is kept of a plain order of slots.
-- Assumes nothing.
use Rattle.std.specs.Prelude.{◌≡◌, ◌+◌, ◌≤◌}
use Rattle.test_kit.specs.declared.line.Order.{Order}

-- none of the counts is over 16
abbrev pub Within : Order → Type 0
Within o = (o.live ≤ 16) × (o.depth ≤ 16) × (o.top ≤ 16)

-- each slot below top is in use or on the pile, and there are at most 16
abbrev pub Fits : Order → Type 0
Fits o = (o.live + o.depth ≡ o.top) × (o.top ≤ 16)
