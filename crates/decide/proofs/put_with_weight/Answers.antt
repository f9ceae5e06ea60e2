-- `decide::put_with_weight` meets its contract.
-- Assumes nothing.
use Rattle.std.proofs.Common.{refl}
use Rattle.decide.proofs.Pointing.{reaches, found_reached}
use Rattle.decide.proofs.Refusing.{rows_fit, rows_refused}
use Rattle.decide.proofs.Weighing.{loaded_budgeted, loaded_but, wrong_kind_lem, too_heavy_lem, weighed_none, weighed_found}
use Rattle.decide.proofs.put_with_weight.Goals as goal

pub returns-then-wrong_weight : goal.returns-then-wrong_weight
returns-then-wrong_weight c =
    let a = c.args in
    wrong_kind_lem a.row a.room c.wrong_weight.ensures c.if-wrong_weight.true refl

pub returns-then-head-row : goal.returns-then-head-row
returns-then-head-row c =
    let a = c.args in
    too_heavy_lem a.row a.room c.wrong_weight.ensures c.if-wrong_weight.false c.if-head-row.true refl

pub leaving-k-requires : goal.leaving-k-requires
leaving-k-requires c = loaded_budgeted c.args.row c.requires

pub returns-in_default : goal.returns-in_default
returns-in_default c =
    let a = c.args in
    weighed_none a.row a.room c.wrong_weight.ensures c.if-wrong_weight.false c.if-head-row.false c.in_default.is c.leaving-k.ensures c.admit.ensures

pub leaving-k-requires-2 : goal.leaving-k-requires-2
leaving-k-requires-2 c = loaded_but c.args.row c.in-Found.is c.requires

pub bounds-view-slot : goal.bounds-view-slot
bounds-view-slot c = found_reached _ (reaches _ c.requires.seen.searched) c.in-Found.is

pub returns-in_err-within : goal.returns-in_err-within
returns-in_err-within c =
    let a = c.args in
    weighed_found a.row a.room c.wrong_weight.ensures c.if-wrong_weight.false c.if-head-row.false c.in-Found.is c.leaving-k-2.ensures (rows_refused c.args.room _ _ c.within.ensures c.from_residual.result c.in_err-within.was c.from_residual.ensures.1)

pub returns : goal.returns
returns c =
    let a = c.args in
    weighed_found a.row a.room c.wrong_weight.ensures c.if-wrong_weight.false c.if-head-row.false c.in-Found.is c.leaving-k-2.ensures (rows_fit c.args.room _ _ c.within.ensures c.in_ok-within.was)
