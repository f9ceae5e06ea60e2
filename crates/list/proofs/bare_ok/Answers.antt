-- `list::bare_ok` meets its contract.
-- Assumes nothing.
use mathlib.Core.Path.{◌≡◌, refl}
use mathlib.Core.Bool.{true, false}
use borrow.Author.Rules.{rules}
use Rattle.std.proofs.lemmas.Iterator.{cases_from_all, YieldsList-from_range}
use Rattle.list.specs.Inspect.{bare_ok}
use Rattle.list.proofs.Tests.{all_from_is}
use Rattle.list.proofs.bare_ok.Goals as goal

pub returns : goal.returns
unfolding bare_ok
returns c =
    all_from_is _ _ _ _
    (cases_from_all _ _ _
    (λ k. bare_ok c.args.next.now c.args.prev.now k ≡ true)
    (λ k. bare_ok c.args.next.now c.args.prev.now k ≡ false)
    c.all.ensures.ran (YieldsList-from_range _ _ _ refl refl)
    (λ k q w. search rules)
    (λ k q w. search rules))
