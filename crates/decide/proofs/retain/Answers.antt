-- `decide::retain` meets its contract.
-- Assumes nothing.
use Rattle.std.proofs.Common.{refl}
use Rattle.decide.proofs.Refusing.{rows_fit, rows_refused}
use Rattle.decide.proofs.Weighing.{no_rule_lem, retain_settles}
use Rattle.decide.proofs.retain.Goals as goal

pub returns-then-rule-gt-WEIGHT : goal.returns-then-rule-gt-WEIGHT
returns-then-rule-gt-WEIGHT c = no_rule_lem c.args.rule c.args.room c.if-rule-gt-WEIGHT.true refl

pub returns-in_err-within : goal.returns-in_err-within
returns-in_err-within c = retain_settles c.args.rule c.args.room c.if-rule-gt-WEIGHT.false c.removed_by-k.ensures (rows_refused c.args.room _ _ c.within.ensures c.from_residual.result c.in_err-within.was c.from_residual.ensures.1)

pub returns : goal.returns
returns c = retain_settles c.args.rule c.args.room c.if-rule-gt-WEIGHT.false c.removed_by-k.ensures (rows_fit c.args.room _ _ c.within.ensures c.in_ok-within.was)
