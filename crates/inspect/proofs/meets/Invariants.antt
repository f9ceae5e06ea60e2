-- `inspect::meets` meets its contract: the invariant and the steps are those of `proofs/Ends.antt`.
-- Assumes nothing.
use Prim.Native.Nat.{◌-◌, ◌*◌}
use lib.ListN.{get_or}
use Rattle.list.specs.Inspect.{walk_ok}
use Rattle.inspect.proofs.Ends.{Meeting}
use Rattle.inspect.proofs.meets.Given as goal

abbrev pub invariant-loop : goal.invariant-loop
invariant-loop l = Meeting l.next l.prev l.top l.b (walk_ok l.next l.prev l.top l.b l.more l.a (get_or l.next l.a 0)) (l.more - 2 * l.counter) l.front l.back
