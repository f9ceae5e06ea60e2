-- `decide::put` meets its contract.
-- Assumes nothing.
use Rattle.decide.proofs.Pointing.{found_reached}
use Rattle.decide.proofs.Refusing.{plain_asked, kind_refused, kind_handed}
use Rattle.decide.proofs.Finding.{on_plain_lem, not_plain, renew_found}
use Rattle.decide.proofs.Putting.{unweighed, put_none}
use Rattle.decide.proofs.put.Goals as goal

pub returns-in_err-plain_only : goal.returns-in_err-plain_only
returns-in_err-plain_only c =
    let p = c.plain_only.ensures in
    not_plain c.args.room _ (kind_refused c.args.head.kind p c.in_err-plain_only.was) (kind_handed c.args.head.kind p c.from_residual.result c.in_err-plain_only.was c.from_residual.ensures.1)

pub returns-in_default : goal.returns-in_default
returns-in_default c =
    let a = c.args in
    put_none a.room (plain_asked c.args.head.kind c.plain_only.ensures c.in_ok-plain_only.was) c.in_default.is a.row.stamp a.row.value (unweighed a.row c.requires.1) c.pushing-k.ensures c.admit.ensures

pub bounds-values-slot : goal.bounds-values-slot
bounds-values-slot c = found_reached _ c.requires.0 c.in-Found.is

pub returns : goal.returns
returns c =
    let a = c.args in
    on_plain_lem a.room _ (plain_asked c.args.head.kind c.plain_only.ensures c.in_ok-plain_only.was) (renew_found a.room c.in-Found.is _ a.row.value)
