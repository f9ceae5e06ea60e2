-- `script_read::range_line` meets its contract: its table is the definition's.
-- Assumes nothing.
use mathlib.Core.Path.{sym}
use Rattle.script_read.specs.Grammar.{range_line}
use Rattle.script_read.proofs.range_line.Goals as goal

pub returns : goal.returns
unfolding range_line
returns c = rw (sym c.keeping-code.ensures, sym c.keeping-value.ensures) c.call_named.ensures
