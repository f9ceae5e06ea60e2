-- `table::rebuild` meets its contract: the invariant and the steps are those of `proofs/Renewal.antt`.
-- Assumes nothing.
use Rattle.crc.specs.Home.{home_of}
use Rattle.head.specs.Walks.{walk}
use Rattle.table.proofs.Renewal.{Renewing}
use Rattle.table.proofs.rebuild.Given as goal

abbrev pub invariant-loop : goal.invariant-loop
invariant-loop l = Renewing (home_of l.n) l.n l.initial.cells l.codes l.next (walk l.next l.initial.slot l.live) l.cells l.live l.slot l.counter
