-- `script_read::first_word` meets its contract: the word ends at the first space, or with the line.
-- Assumes nothing.
use Rattle.std.proofs.Common.{◌≡◌, rules, tests}
use Rattle.std.specs.List.{position}
use Rattle.std.proofs.lemmas.Iterator.{YieldsList-from_slice}
use Rattle.std.proofs.lemmas.Iterator.Search.{position_from_yields_List}
use Rattle.script_read.proofs.Reading.{is_space, word_cut}
use Rattle.script_read.proofs.first_word.Goals as goal

pub returns-clause-words : goal.returns-clause-words
returns-clause-words c =
    let at : c.position-space.result ≡ position is_space c.args.line.now =
    position_from_yields_List is_space _ _ _ c.position-space.ensures.ran (YieldsList-from_slice _ c.iter.ensures.rest) (λ x b q k. search (rules, tests)) in
    rw (c.split_at.ensures.front, c.split_at.ensures.back, c.unwrap_or.ensures, at) (word_cut c.args.line.now)
