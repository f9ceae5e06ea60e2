-- `script_read::bound_line` meets its contract.
-- Assumes nothing.
use mathlib.Core.Bool.{false}
use mathlib.Core.Path.{◌≡◌}
use Rattle.std.proofs.Common.{arith}
use Rattle.script_read.specs.Keywords.{same, stamp_word, weight_word}
use Rattle.script_read.specs.Grammar.{bound_line, if_call}
use Rattle.script_read.proofs.Reading.{same_reads}
use Rattle.script_read.proofs.bound_line.Goals as goal

pub returns-in_default-12 : goal.returns-in_default-12
unfolding bound_line if_call
returns-in_default-12 c =
    let s : same c.args.word.now stamp_word ≡ false = grind (arith, same_reads) in
    let t : same c.args.word.now weight_word ≡ false = grind (arith, same_reads) in
    rw (s, t)
