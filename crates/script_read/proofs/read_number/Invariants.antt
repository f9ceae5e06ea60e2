-- `script_read::read_number` meets its contract. The invariant: the word is the digits from here on behind a value.
-- Assumes nothing.
use Prim.Native.Nat.{◌≤◌}
use mathlib.Core.Path.{◌≡◌}
use lib.ListN.{drop}
use Rattle.script_read.specs.Numerals.{most_wide, number_of}
use Rattle.script_read.proofs.Reading.{number_after}
use Rattle.script_read.proofs.read_number.Given as goal

abbrev pub invariant-loop-byte : goal.invariant-loop-byte
invariant-loop-byte l = (l.value ≤ most_wide) × (number_of l.word ≡ number_after l.value (drop l.byte-index l.word))
