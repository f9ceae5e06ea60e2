-- What the words of a line say, as the functions that look at one word after the other find it.
-- Assumes nothing.
use Prim.Native.Nat.{ℕ, ◌≤◌}
use mathlib.Core.Path.{◌≡◌}
use native.Mathlib.Omega.{arith}
use borrow.Author.Tests.{le-leb, lt-leb}
use Rattle.std.specs.Prelude.{Option, None}
use Rattle.script_read.specs.declared.Line.{Line}
use Rattle.script_read.specs.Numerals.{most_narrow}
use Rattle.script_read.specs.Grammar.{narrow}

-- ---- a number that has to fit 32 bits

pub too_wide : (n : ℕ) (line : Option Line) → (n ≤ most_narrow → ⊥) → None ≡ narrow n line
unfolding narrow
too_wide n line h = rw (lt-leb n most_narrow (omega arith))

pub fits_narrow : (n : ℕ) {r line : Option Line} → n ≤ most_narrow → r ≡ line → r ≡ narrow n line
unfolding narrow
fits_narrow n h p = rw (le-leb n most_narrow h) p
