-- `list::next` meets its contract.
-- Assumes nothing.
use native.Mathlib.Omega.{arith}
use Rattle.list.proofs.Taking.{given_top, given_pop}
use Rattle.list.proofs.next.Goals as goal

pub returns-then-head-eq0 : goal.returns-then-head-eq0
returns-then-head-eq0 c = given_top _ _ (omega arith) c.requires.some

pub returns : goal.returns
returns c = given_pop _ _ _ _ (λ z. omega arith) c.at-s.ensures c.put.ensures
