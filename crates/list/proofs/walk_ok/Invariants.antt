-- `list::walk_ok` meets its contract.
-- Assumes nothing.
use Rattle.std.proofs.Common.{◌≡◌, ◌-◌}
use Rattle.head.specs.Bounds.{none_mark}
use Rattle.list.specs.Inspect.{walk_ok}
use Rattle.list.proofs.walk_ok.Given as goal

abbrev pub invariant-loop : goal.invariant-loop
invariant-loop l = walk_ok l.next l.prev l.top.0 l.back.0 l.live none_mark l.initial.here ≡ walk_ok l.next l.prev l.top.0 l.back.0 (l.live - l.counter) l.last l.here
