-- `rows::write_all` meets its contract: the rule that keeps none removes all.
-- Assumes nothing.
use Rattle.rows.proofs.Listing.{no_stamp_lem, all_swept, all_wrote}
use Rattle.rows.proofs.write_all.Goals as goal

pub write_removed-requires : goal.write_removed-requires
write_removed-requires c = all_swept _ (no_stamp_lem _ _ c.stamp-any.ensures c.negated.ensures) c.requires

pub returns-clause-wrote : goal.returns-clause-wrote
returns-clause-wrote c = all_wrote _ (no_stamp_lem _ _ c.stamp-any.ensures c.negated.ensures) c.write_removed.ensures.wrote
