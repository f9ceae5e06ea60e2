-- Each turn lets one go while there is one.
use Rattle.std.proofs.Common.{◌≡◌, ◌-◌}
use Rattle.test_kit.specs.Orders.{Fits, Within}
use Rattle.test_kit.proofs.line.Order.evict.Given as goal

abbrev pub invariant-loop : goal.invariant-loop
invariant-loop l = record {
  within : Within l.fn.self → Within l.self;
  fits : Fits l.fn.self → Fits l.self × (l.self.live ≡ l.fn.self.live - l.counter);
}
