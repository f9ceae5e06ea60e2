-- `list::cells_ok` meets its contract.
-- Assumes nothing.
use mathlib.Core.Path.{◌≡◌, refl}
use mathlib.Core.Bool.{true, false}
use native.Mathlib.Omega.{arith}
use borrow.Author.Rules.{rules}
use Rattle.std.proofs.lemmas.Iterator.{cases_from_all, YieldsList-from_range}
use Rattle.list.specs.Inspect.{cell_ok}
use Rattle.list.proofs.Tests.{all_from_is}
use Rattle.list.proofs.cells_ok.Goals as goal

pub returns : goal.returns
returns c =
    all_from_is _ _ _ _
    (cases_from_all _ _ _
    (λ k. cell_ok c.args.next.now c.args.prev.now c.args.stack.now c.args.depth.0 c.args.top.0 k ≡ true)
    (λ k. cell_ok c.args.next.now c.args.prev.now c.args.stack.now c.args.depth.0 c.args.top.0 k ≡ false)
    c.all.ensures.ran (YieldsList-from_range _ _ _ refl (omega arith))
    (λ k q w. search rules)
    (λ k q w. search rules))
