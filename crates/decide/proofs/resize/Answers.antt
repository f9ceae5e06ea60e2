-- `decide::resize` meets its contract.
-- Assumes nothing.
use Rattle.std.proofs.Common.{refl}
use Rattle.rows.proofs.Callers.{budgeted}
use Rattle.decide.proofs.Refusing.{rows_fit, rows_refused}
use Rattle.decide.proofs.Weighing.{no_capacity_lem, resize_settles}
use Rattle.decide.proofs.resize.Goals as goal

pub returns-then-not-capacity_ok : goal.returns-then-not-capacity_ok
returns-then-not-capacity_ok c = no_capacity_lem c.args.capacity c.args.room c.capacity_ok.ensures c.if-not-capacity_ok.true refl

pub leaving-k-requires : goal.leaving-k-requires
leaving-k-requires c = budgeted c.requires.seen.backward.described

pub returns-in_err-within : goal.returns-in_err-within
returns-in_err-within c = resize_settles c.args.capacity c.args.room c.capacity_ok.ensures c.if-not-capacity_ok.false c.leaving-k.ensures (rows_refused c.args.room _ _ c.within.ensures c.from_residual.result c.in_err-within.was c.from_residual.ensures.1)

pub returns : goal.returns
returns c = resize_settles c.args.capacity c.args.room c.capacity_ok.ensures c.if-not-capacity_ok.false c.leaving-k.ensures (rows_fit c.args.room _ _ c.within.ensures c.in_ok-within.was)
