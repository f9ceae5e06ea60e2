-- `digits` meets its contract. The measure is the number.
-- Assumes nothing.
use native.Mathlib.Omega.{arith}
use mathlib.Core.Path.{refl}
use Rattle.script_digits.proofs.Decimals.{digits_longer}
use Rattle.script_digits.proofs.Laying.{laid_one}
use Rattle.script_digits.proofs.Writing.{front, laid_front_none, laid_front_some, laid_last_room, laid_wrote}
use Rattle.script_digits.specs.Laid.{Laid}
use Rattle.script_digits.proofs.+digits.Goals as goal
use Rattle.script_digits.proofs.+digits.Goals.{then-n-ge10, else-n-ge10, Joined-n-ge10}

-- what is laid before the last digit
before : (t : _) (c : Joined-n-ge10 t) → Laid c.args.at (front c.args.n) c.if-n-ge10.end c.args.buffer.now c.if-n-ge10.buffer
before t c =
    elim c.if-n-ge10.branch [
      | then-n-ge10 w ↦ laid_front_some (omega arith) w.digits-end.ensures w.end-is w.buffer-is
      | else-n-ge10 w ↦ laid_front_none (omega arith) (omega arith) w.end-is w.buffer-is
    ]

pub digits-end-requires : goal.digits-end-requires
digits-end-requires t c = (omega arith, omega (arith, digits_longer c.args.n c.if-n-ge10.true (omega arith)))

pub bounds-buffer-end : goal.bounds-buffer-end
bounds-buffer-end t c = laid_last_room (omega arith) (before t (goal.at.bounds-buffer-end t c).Joined-n-ge10) c.requires

pub returns : goal.returns
returns t c =
    let h = before t (goal.at.returns t c).Joined-n-ge10 in
    laid_wrote (omega arith) h (laid_one c.if-n-ge10.end _ (laid_last_room (omega arith) h c.requires) refl)
