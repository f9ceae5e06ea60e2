-- `script_write::write_field` meets its contract.
-- Assumes nothing.
use native.Mathlib.Omega.{arith}
use Rattle.script_digits.proofs.Decimals.{digits_most}
use Rattle.script_digits.proofs.Laying.{added_then}
use Rattle.script_write.proofs.Parts.{behind}
use Rattle.script_write.proofs.write_field.Goals as goal

pub number-requires : goal.number-requires
number-requires c = omega (arith, digits_most c.args.n)

pub put-requires : goal.put-requires
put-requires c = behind 20 1 (digits_most c.args.n) c.number.ensures c.requires

pub returns : goal.returns
returns c = added_then c.number.ensures c.put.ensures
