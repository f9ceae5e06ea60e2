-- `table::all_stand` meets its contract: the invariant and the steps are those of `proofs/Checked.antt`.
-- Assumes nothing.
use Rattle.table.proofs.Checked.{ask_start, ask_end, ask_coded, ask_no, ask_on}
use Rattle.table.proofs.all_stand.Goals as goal

pub loop-init : goal.loop-init
loop-init c = ask_start _ _ c.requires.search_ends c.requires.order_fits

pub stands-requires : goal.stands-requires
stands-requires c = record { table = c.loop.invariant.table; coded = (ask_coded c.loop.invariant c.loop-test.true).0 }

pub returns-then-not-stands : goal.returns-then-not-stands
returns-then-not-stands c = ask_no c.loop.invariant c.loop-test.true c.stands.ensures c.if-not-stands.true

pub bounds-next-asked : goal.bounds-next-asked
bounds-next-asked c = (ask_coded c.loop.invariant c.loop-test.true).1

pub loop-preserved : goal.loop-preserved
loop-preserved c = ask_on c.loop.invariant c.loop-test.true c.stands.ensures c.if-not-stands.false

pub returns : goal.returns
returns c = ask_end c.loop.invariant c.loop-test.false
