-- `list::numbers_ok` meets its contract.
-- Assumes nothing.
use native.Mathlib.Omega.{arith}
use Rattle.std.proofs.lemmas.Bool.Decides.{nat_tests}
use Rattle.list.specs.Inspect.{numbers_ok}
use Rattle.list.proofs.numbers_ok.Goals as goal

pub returns-then-head-2 : goal.returns-then-head-2
unfolding numbers_ok
returns-then-head-2 c = grind (arith, nat_tests)

pub returns-else-head-2 : goal.returns-else-head-2
unfolding numbers_ok
returns-else-head-2 c = grind (arith, nat_tests)
