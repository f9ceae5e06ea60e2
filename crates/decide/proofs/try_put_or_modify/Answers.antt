-- `decide::try_put_or_modify` meets its contract.
-- Assumes nothing.
use Rattle.std.proofs.Common.{refl}
use Rattle.decide.proofs.Pointing.{found_reached}
use Rattle.decide.proofs.Refusing.{plain_asked, kind_refused, kind_handed}
use Rattle.decide.proofs.Finding.{not_plain}
use Rattle.decide.proofs.Putting.{try_none_over, try_none, try_found_over, try_found}
use Rattle.decide.proofs.try_put_or_modify.Goals as goal

pub returns-in_err-plain_only : goal.returns-in_err-plain_only
returns-in_err-plain_only c =
    let p = c.plain_only.ensures in
    not_plain c.args.room _ (kind_refused c.args.head.kind p c.in_err-plain_only.was) (kind_handed c.args.head.kind p c.from_residual.result c.in_err-plain_only.was c.from_residual.ensures.1)

pub returns-then-ceiling-row : goal.returns-then-ceiling-row
returns-then-ceiling-row c =
    let a = c.args in
    try_none_over a.room (plain_asked c.args.head.kind c.plain_only.ensures c.in_ok-plain_only.was) c.in_default.is a.row.stamp a.row.value a.ceiling c.if-ceiling-row.true refl

pub returns-in_default : goal.returns-in_default
returns-in_default c =
    let a = c.args in
    try_none a.room (plain_asked c.args.head.kind c.plain_only.ensures c.in_ok-plain_only.was) c.in_default.is a.row.stamp a.row.value a.ceiling c.if-ceiling-row.false c.enter.ensures

pub bounds-values-slot : goal.bounds-values-slot
bounds-values-slot c = found_reached _ c.requires.0 c.in-Found.is

pub returns-then-over : goal.returns-then-over
returns-then-over c =
    let a = c.args in
    try_found_over a.room (plain_asked c.args.head.kind c.plain_only.ensures c.in_ok-plain_only.was) c.in-Found.is a.row.stamp a.row.value a.ceiling c.over.ensures c.if-over.true

pub returns : goal.returns
returns c =
    let a = c.args in
    try_found a.room (plain_asked c.args.head.kind c.plain_only.ensures c.in_ok-plain_only.was) c.in-Found.is a.row.stamp a.row.value a.ceiling c.over.ensures c.if-over.false c.modify.ensures
