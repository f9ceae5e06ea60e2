-- `script_read::read_numbers` meets its contract. The invariant: the whole is the numbers so far with the words from here on behind them.
-- The measure: bytes not read yet.
-- Assumes nothing.
use mathlib.Core.Path.{◌≡◌}
use lib.ListN.{length}
use Rattle.std.specs.Prelude.{Some}
use Rattle.script_read.specs.Words.{words_past}
use Rattle.script_read.specs.Numerals.{numbers_after, numbers_of}
use Rattle.script_read.proofs.read_numbers.Given as goal

abbrev pub invariant-loop-word : goal.invariant-loop-word
invariant-loop-word l = numbers_of (words_past l.fn.rest) ≡ numbers_after (Some l.numbers) (words_past l.rest)

abbrev pub decreases-loop-word : goal.decreases-loop-word
decreases-loop-word l = length l.rest
