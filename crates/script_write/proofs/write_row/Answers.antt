-- `script_write::write_row` meets its contract: behind the word and behind each field there is room for the next.
-- Assumes nothing.
use native.Mathlib.Omega.{arith}
use Rattle.script_digits.proofs.Laying.{added_then}
use Rattle.script_write.proofs.Parts.{behind, field_most, row_word_most}
use Rattle.script_write.proofs.write_row.Goals as goal

pub write_field-requires-2 : goal.write_field-requires-2
write_field-requires-2 c =
    omega (arith, behind 21 103 (field_most _ _) c.write_field.ensures (behind 4 124 (row_word_most c.args.listed) c.write_either.ensures c.requires))

pub write_field-requires-3 : goal.write_field-requires-3
write_field-requires-3 c =
    omega (
      arith,
      behind 21 82 (field_most _ _) c.write_field-2.ensures
          (behind 21 103 (field_most _ _) c.write_field.ensures (behind 4 124 (row_word_most c.args.listed) c.write_either.ensures c.requires)),
    )

pub write_field-requires-4 : goal.write_field-requires-4
write_field-requires-4 c =
    omega (
      arith,
      behind 21 61 (field_most _ _) c.write_field-3.ensures
          (behind 21 82 (field_most _ _) c.write_field-2.ensures
          (behind 21 103 (field_most _ _) c.write_field.ensures (behind 4 124 (row_word_most c.args.listed) c.write_either.ensures c.requires))),
    )

pub returns : goal.returns
returns c =
    rw c.from.ensures at
    (added_then c.write_either.ensures
    (added_then c.write_field.ensures (added_then c.write_field-2.ensures (added_then c.write_field-3.ensures c.write_field-4.ensures))))
