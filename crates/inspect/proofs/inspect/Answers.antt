-- `inspect::inspect` meets its contract: the tests of `proofs/Decided.antt`, one after another.
-- Assumes nothing.
use mathlib.Core.Bool.{true}
use mathlib.Core.Path.{◌≡◌}
use native.Mathlib.Omega.{arith}
use Rattle.std.proofs.lemmas.Grind.{common_steps}
use Rattle.list.specs.Inspect.{links_ok}
use Rattle.state.specs.State.{seen, viewed}
use Rattle.store.specs.Lengths.{spacious}
use Rattle.inspect.specs.Tests.{head_ok}
use Rattle.inspect.proofs.Decided.{Framed, decided, framed, ready, searchable}
use Rattle.inspect.proofs.inspect.Goals as goal
use Rattle.inspect.proofs.inspect.Goals.{Start}

-- what the first three tests say
three : (c : Start) → head_ok c.args.view.now.head ≡ true → spacious c.args.view.now.head.slots (seen c.args.view.now) ≡ true
    → links_ok c.args.view.now.head c.args.view.now.links.next.now c.args.view.now.links.prev.now c.args.view.now.links.stack.now ≡ true
    → Framed c.args.view.now.head (viewed c.args.view.now.fields) c.args.view.now.links.next.now c.args.view.now.links.prev.now c.args.view.now.links.stack.now c.args.view.now.cells.now
three c = framed _ _ _ _ _ _

pub cells_full-requires : goal.cells_full-requires
cells_full-requires c = (ready _ _ _ _ _ _ (three (goal.at.cells_full-requires c).Start (grind (arith, common_steps)) (grind (arith, common_steps)) (grind (arith, common_steps)))).full

pub table_ok-requires-clause-search_ends : goal.table_ok-requires-clause-search_ends
table_ok-requires-clause-search_ends c =
    searchable _ _ _ _ _ _
    (three (goal.at.table_ok-requires-clause-search_ends c).Start (grind (arith, common_steps)) (grind (arith, common_steps)) (grind (arith, common_steps)))
    (grind (arith, common_steps))

pub table_ok-requires-clause-slots_reached : goal.table_ok-requires-clause-slots_reached
table_ok-requires-clause-slots_reached c = (ready _ _ _ _ _ _ (three (goal.at.table_ok-requires-clause-slots_reached c).Start (grind (arith, common_steps)) (grind (arith, common_steps)) (grind (arith, common_steps)))).used

pub stack_blank-requires : goal.stack_blank-requires
stack_blank-requires c = (ready _ _ _ _ _ _ (three (goal.at.stack_blank-requires c).Start (grind (arith, common_steps)) (grind (arith, common_steps)) (grind (arith, common_steps)))).piled

pub rest_blank-requires : goal.rest_blank-requires
rest_blank-requires c = (ready _ _ _ _ _ _ (three (goal.at.rest_blank-requires c).Start (grind (arith, common_steps)) (grind (arith, common_steps)) (grind (arith, common_steps)))).rest

pub returns-then-stack_blank : goal.returns-then-stack_blank
returns-then-stack_blank c = decided _ _ _ _ _ _ (grind (arith, common_steps))

pub returns-else-stack_blank : goal.returns-else-stack_blank
returns-else-stack_blank c = decided _ _ _ _ _ _ (grind (arith, common_steps))
