-- `script_read::understand` meets its contract. The answer is for a first word that is shorter than each keyword.
-- Assumes nothing.
use mathlib.Core.Bool.{false}
use mathlib.Core.Path.{◌≡◌}
use Rattle.std.proofs.Common.{arith}
use Rattle.script_read.specs.Keywords.{same, open_word, retain_word}
use Rattle.script_read.specs.Grammar.{line_of, understood}
use Rattle.script_read.proofs.Reading.{same_reads}
use Rattle.script_read.proofs.understand.Goals as goal

pub returns-in_default : goal.returns-in_default
unfolding understood line_of
returns-in_default c =
    let w = c.first_word.result.0.now in
    let s : same w open_word ≡ false = grind (arith, same_reads) in
    let t : same w retain_word ≡ false = grind (arith, same_reads) in
    rw (c.first_word.ensures.words, s, t) c.call_line.ensures
