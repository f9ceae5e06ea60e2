-- `list::fill` meets its contract.
-- Assumes nothing.
use mathlib.Core.Path.{ap, ◌∙◌}
use mathlib.Core.List.{List}
use lib.ListN.{set}
use native.Mathlib.Omega.{arith}
use Rattle.list.proofs.Filling.{fill_step}
use Rattle.list.proofs.fill.Goals as goal

pub loop-x-preserved : goal.loop-x-preserved
loop-x-preserved g c =
    ap (λ (t : List g.row.T.Denot). set t c.loop-x.x-index c.args.v) c.loop-x.invariant
    ∙ fill_step c.loop-x.x-index c.args.v _ (omega arith)
