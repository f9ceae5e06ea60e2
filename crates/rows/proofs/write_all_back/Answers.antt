-- `rows::write_all_back` meets its contract: all are as many as the oldest, and no slot is skipped.
-- Assumes nothing.
use Rattle.rows.proofs.Listing.{back_aged, back_wrote}
use Rattle.rows.proofs.write_all_back.Goals as goal

pub write_oldest-requires : goal.write_oldest-requires
write_oldest-requires c = back_aged c.requires

pub returns-clause-wrote : goal.returns-clause-wrote
returns-clause-wrote c = back_wrote c.write_oldest.ensures.wrote
