-- `records::save` meets its contract: each turn writes one more row.
-- Assumes nothing.
use Rattle.std.proofs.Common.{List, set, refl, ap, ◌∙◌, add-one}
use Rattle.head.specs.declared.Row.{Row}
use Rattle.state.specs.State.{viewed}
use Rattle.records.specs.Saving.{copied}
use Rattle.records.proofs.save.Goals as goal

pub loop-i-init : goal.loop-i-init
unfolding copied
loop-i-init c = refl

pub loop-i-preserved : goal.loop-i-preserved
unfolding copied
loop-i-preserved c =
    let l = c.loop-i in
    rw add-one (ap (λ (rs : List Row). set rs l.i c.read.result) l.invariant ∙ ap (λ (e : Row). set (copied l.i (viewed c.args.rows.now) c.args.records.now) l.i e) c.read.ensures)
