-- The table is sound, so it takes one more.
use Rattle.std.proofs.Common.{rules}
use Rattle.test_table.proofs.Table.insert.Goals as goal

pub insert-requires : goal.insert-requires
insert-requires c = record { table = c.is_sound.ensures.gapped c.if-not-is_sound.false; coded = search rules }
