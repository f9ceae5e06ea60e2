-- `script_write::write_entry` meets its contract.
-- Assumes nothing.
use native.Mathlib.Omega.{arith}
use mathlib.Core.Bool.{true}
use Rattle.script_digits.proofs.Laying.{added_then}
use Rattle.script_write.proofs.Parts.{behind, row_most}
use Rattle.script_write.proofs.write_entry.Goals as goal

pub word-requires : goal.word-requires
word-requires c = omega (arith, behind 88 40 (row_most true c.args.row) c.write_row.ensures c.requires)

pub returns : goal.returns
returns c = added_then c.write_row.ensures c.word.ensures
