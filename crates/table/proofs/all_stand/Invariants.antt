-- `table::all_stand` meets its contract: the invariant and the steps are those of `proofs/Checked.antt`.
-- Assumes nothing.
use Prim.Native.Nat.{◌*◌}
use Rattle.crc.specs.Home.{home_of}
use Rattle.head.specs.Walks.{walk}
use Rattle.table.specs.Acts.{all_standing}
use Rattle.table.proofs.Checked.{Asking}
use Rattle.table.proofs.all_stand.Given as goal

abbrev pub invariant-loop : goal.invariant-loop
invariant-loop l = Asking (home_of l.n) (2 * l.n) l.cells l.codes l.next (all_standing (home_of l.n) (2 * l.n) l.cells l.codes (walk l.next l.initial.asked l.live)) l.live l.asked l.counter
