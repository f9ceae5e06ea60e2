-- `digits` ends: the number falls.
-- Assumes nothing.
use Rattle.script_digits.proofs.+digits.Given as goal

abbrev pub decreases-digits : goal.decreases-digits
decreases-digits l = l.n
