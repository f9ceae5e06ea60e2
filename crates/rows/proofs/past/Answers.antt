-- `rows::past` meets its contract.
-- Assumes nothing.
use borrow.Author.Tests.{eq-eqb, ne_eqb}
use Rattle.rows.proofs.past.Goals as goal

pub returns-then-slot-skip : goal.returns-then-slot-skip
returns-then-slot-skip c = simp (eq-eqb _ _ c.if-slot-skip.true) c.ahead.ensures

pub returns-else-slot-skip : goal.returns-else-slot-skip
returns-else-slot-skip c = simp (ne_eqb _ _ c.if-slot-skip.false)
