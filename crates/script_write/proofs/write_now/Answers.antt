-- `script_write::write_now` meets its contract: behind the word and behind the number there is room for the next.
-- Assumes nothing.
use native.Mathlib.Omega.{arith}
use Rattle.script_digits.proofs.Laying.{added_then}
use Rattle.script_write.proofs.Parts.{behind, field_most}
use Rattle.script_write.proofs.write_now.Goals as goal

pub write_either-requires : goal.write_either-requires
write_either-requires c =
    let left = behind 21 103 (field_most _ _) c.write_field.ensures (behind 4 124 (omega arith) c.word.ensures c.requires) in
    omega arith

pub returns : goal.returns
returns c = added_then c.word.ensures (added_then c.write_field.ensures c.write_either.ensures)
