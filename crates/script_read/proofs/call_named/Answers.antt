-- `script_read::call_named` meets its contract: the first pair whose keyword the word is, or none.
-- Assumes nothing.
use mathlib.Core.Path.{◌∙◌}
use Rattle.std.proofs.Common.{rules, tests}
use Rattle.std.proofs.lemmas.Iterator.{YieldsList-from_slice}
use Rattle.std.proofs.lemmas.Iterator.Search.{find_from_yields_List}
use Rattle.script_read.proofs.Reading.{is_named, named_some, named_none}
use Rattle.script_read.proofs.call_named.Goals as goal

pub returns-in_err-command : goal.returns-in_err-command
returns-in_err-command c =
    let found = find_from_yields_List (is_named c.args.word.now) _ _ c.find.result c.find.ensures.ran (YieldsList-from_slice _ c.iter.ensures.rest) (λ x b q k. search (rules, tests)) in
    c.from_residual.ensures ∙ named_none _ _ found c.in_err-command.was

pub returns : goal.returns
returns c =
    let found = find_from_yields_List (is_named c.args.word.now) _ _ c.find.result c.find.ensures.ran (YieldsList-from_slice _ c.iter.ensures.rest) (λ x b q k. search (rules, tests)) in
    named_some _ _ found c.in_ok-command.was
