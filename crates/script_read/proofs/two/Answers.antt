-- `script_read::two` meets its contract: its table is the definition's.
-- Assumes nothing.
use Rattle.script_read.specs.Grammar.{two_of}
use Rattle.script_read.proofs.two.Goals as goal

pub returns : goal.returns
unfolding two_of
returns c = c.call_named.ensures
