-- The refusals by their numbers in document 01.
-- Assumes nothing.
use Rattle.std.specs.Prelude.{ℕ}
use Rattle.head.specs.declared.Refusal.{Refusal}
use Rattle.head.specs.declared.Refusal.TheVariants.{NotOpened, Unsound, WrongKind, TooHeavy, NoSlot, TooFewRows, OverCeiling, NotUnderstood}

-- the number of a refusal
abbrev pub number_of : Refusal → ℕ
number_of NotOpened = 1
number_of Unsound = 2
number_of WrongKind = 3
number_of TooHeavy = 4
number_of NoSlot = 5
number_of TooFewRows = 6
number_of OverCeiling = 7
number_of NotUnderstood = 8
