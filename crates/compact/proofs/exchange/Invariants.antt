-- `compact::exchange` meets its contract. What is left of the row does the rest.
-- Assumes nothing.
use Rattle.std.proofs.Common.{◌≡◌, drop}
use Rattle.compact.specs.Plan.{exchanges}
use Rattle.compact.proofs.exchange.Given as goal

abbrev pub invariant-loop-i : goal.invariant-loop-i
invariant-loop-i g l = exchanges l.i (drop l.i l.row) l.list ≡ exchanges 0 l.row l.initial.list
