-- `script_read::read_numbers` meets its contract. The invariant: the whole is the numbers so far with the words from here on behind them.
-- The measure: bytes not read yet.
-- Assumes nothing.
use mathlib.Core.Path.{sym, ◌∙◌}
use Rattle.script_read.proofs.Reading.{numbers_bad, numbers_full, numbers_more, numbers_last}
use Rattle.script_read.proofs.read_numbers.Goals as goal

pub returns-in_err-read_number : goal.returns-in_err-read_number
returns-in_err-read_number c =
    c.from_residual.ensures ∙ numbers_bad _ _ c.in-Some.ensures.words _ c.in_err-read_number.ensures ∙ sym c.loop-word.invariant

pub returns-in_err-numbers : goal.returns-in_err-numbers
returns-in_err-numbers c =
    c.from_residual-in_err-numbers.ensures ∙ numbers_full _ _ c.in-Some.ensures.words _ _ c.in_ok-read_number.ensures c.in_err-numbers.ensures ∙ sym c.loop-word.invariant

pub loop-word-preserved : goal.loop-word-preserved
loop-word-preserved c =
    c.loop-word.invariant ∙ numbers_more _ _ c.in-Some.ensures.words _ _ c.in_ok-read_number.ensures _ c.in_ok-numbers.ensures

pub returns : goal.returns
returns c = numbers_last _ _ c.in_default.ensures.words ∙ sym c.loop-word.invariant
