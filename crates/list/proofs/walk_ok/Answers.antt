-- `list::walk_ok` meets its contract.
-- Assumes nothing.
use native.Mathlib.Omega.{arith}
use Rattle.std.proofs.lemmas.Bool.Decides.{nat_tests}
use Rattle.list.proofs.Tests.{walk_step, walk_end}
use Rattle.list.proofs.walk_ok.Goals as goal

pub returns-then-top-here : goal.returns-then-top-here
returns-then-top-here c = grind (arith, nat_tests, walk_step)

pub loop-preserved : goal.loop-preserved
loop-preserved c = grind (arith, nat_tests, walk_step)

pub returns-then-here : goal.returns-then-here
returns-then-here c = grind (arith, nat_tests, walk_end)

pub returns-else-here : goal.returns-else-here
returns-else-here c = grind (arith, nat_tests, walk_end)
