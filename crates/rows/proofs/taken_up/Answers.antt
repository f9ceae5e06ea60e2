-- `rows::taken_up` meets its contract: nothing wraps, and the weight of the slot to skip is part of the whole.
-- Assumes nothing.
use native.Mathlib.Omega.{arith}
use borrow.Author.Tests.{eq-eqb, ne_eqb}
use Rattle.rows.proofs.taken_up.Goals as goal

pub returns-then-skip-eq-NONE : goal.returns-then-skip-eq-NONE
returns-then-skip-eq-NONE c = simp (eq-eqb _ _ c.if-skip-eq-NONE.true) (omega arith)

pub bounds-weights-skip : goal.bounds-weights-skip
bounds-weights-skip c = omega (arith, c.requires.inside c.if-skip-eq-NONE.false)

pub overflow_add-result : goal.overflow_add-result
overflow_add-result c = omega (arith, rw (ne_eqb _ _ c.if-skip-eq-NONE.false) at c.requires.less, c.requires.small)

pub overflow_sub-result : goal.overflow_sub-result
overflow_sub-result c = omega (arith, rw (ne_eqb _ _ c.if-skip-eq-NONE.false) at c.requires.less)

pub returns-else-skip-eq-NONE : goal.returns-else-skip-eq-NONE
returns-else-skip-eq-NONE c = simp (ne_eqb _ _ c.if-skip-eq-NONE.false) (omega arith)
