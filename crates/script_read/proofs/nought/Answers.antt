-- `script_read::nought` meets its contract: its table is the definition's.
-- Assumes nothing.
use Rattle.script_read.specs.Grammar.{nought_of}
use Rattle.script_read.proofs.nought.Goals as goal

pub returns : goal.returns
unfolding nought_of
returns c = c.call_named.ensures
