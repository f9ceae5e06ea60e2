-- `decide::get_mut` meets its contract.
-- Assumes nothing.
use Rattle.decide.proofs.Pointing.{found_reached}
use Rattle.decide.proofs.Refusing.{plain_asked, kind_refused, kind_handed}
use Rattle.decide.proofs.Finding.{says, on_plain_lem, not_plain, if_absent, renew_found}
use Rattle.decide.proofs.get_mut.Goals as goal

pub returns-in_err-plain_only : goal.returns-in_err-plain_only
returns-in_err-plain_only c =
    let p = c.plain_only.ensures in
    λ code lent. not_plain lent _ (kind_refused c.args.head.kind p c.in_err-plain_only.was) (kind_handed c.args.head.kind p c.from_residual.result c.in_err-plain_only.was c.from_residual.ensures.1)

pub returns-in_default : goal.returns-in_default
returns-in_default c =
    λ code lent. on_plain_lem lent _ (plain_asked c.args.head.kind c.plain_only.ensures c.in_ok-plain_only.was) (if_absent lent _ _ c.in_default.is (says _ lent c.say.ensures))

pub bounds-values-slot : goal.bounds-values-slot
bounds-values-slot c = found_reached _ c.requires c.in-Found.is

pub returns : goal.returns
returns c = λ code lent. on_plain_lem lent _ (plain_asked c.args.head.kind c.plain_only.ensures c.in_ok-plain_only.was) (renew_found lent c.in-Found.is _ c.args.value)
