-- `script_read::four` meets its contract: the stamp fits 32 bits, and then its table is the definition's.
-- Assumes nothing.
use mathlib.Core.Path.{sym, ◌∙◌}
use Rattle.script_read.specs.Grammar.{four_of}
use Rattle.script_read.proofs.Saying.{too_wide, fits_narrow}
use Rattle.script_read.proofs.four.Goals as goal

pub returns-in_err-stamp : goal.returns-in_err-stamp
unfolding four_of
returns-in_err-stamp c = c.from_residual.ensures ∙ too_wide _ _ c.in_err-stamp.ensures

pub returns : goal.returns
unfolding four_of
returns c = fits_narrow _ c.in_ok-stamp.ensures.0 (rw (sym c.in_ok-stamp.ensures.1) c.call_named.ensures)
