-- `script_read::one` meets its contract: its table is the definition's.
-- Assumes nothing.
use Rattle.script_read.specs.Grammar.{one_of}
use Rattle.script_read.proofs.one.Goals as goal

pub returns : goal.returns
unfolding one_of
returns c = c.call_named.ensures
