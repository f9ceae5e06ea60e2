-- `script_write::write_numbered` meets its contract.
-- Assumes nothing.
use Rattle.script_digits.proofs.Laying.{added_then}
use Rattle.script_write.proofs.write_numbered.Goals as goal

pub returns : goal.returns
returns c = added_then c.word.ensures c.write_field.ensures
