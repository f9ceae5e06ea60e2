-- The links are listed, and `inspect_cells` decides the rest. A sound table has a gap.
use native.Mathlib.Omega.{arith}
use Rattle.table.proofs.Found.{sound_open}
use Rattle.test_table.proofs.Walks.{listed}
use Rattle.test_table.proofs.Table.is_sound.Goals as goal

pub inspect_cells-requires : goal.inspect_cells-requires
inspect_cells-requires c = listed _ _ (omega arith) (omega arith) (omega arith) c.if-self-gt16.false (c.proper.ensures c.if-not-proper.false)

pub returns-clause-gapped : goal.returns-clause-gapped
returns-clause-gapped c = λ e. sound_open (c.inspect_cells.ensures.yes e)
