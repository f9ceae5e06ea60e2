-- `records::save`: the first i rows stand in the records.
-- Assumes nothing.
use Rattle.std.proofs.Common.{◌≡◌}
use Rattle.state.specs.State.{viewed}
use Rattle.records.specs.Saving.{copied}
use Rattle.records.proofs.save.Given as goal

abbrev pub invariant-loop-i : goal.invariant-loop-i
invariant-loop-i l = l.records ≡ copied l.i (viewed l.rows) l.initial.records
