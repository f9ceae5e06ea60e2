-- Words as numbers.
-- Assumes nothing.
use Rattle.std.specs.Prelude.{ℕ, cond, ◌&&◌, List, [], ◌∷◌, Option, Some, None, leb}
use Rattle.script_digits.specs.Decimal.{is_numeral, value_of}
use Rattle.script_read.specs.declared.Numbers.{Numbers}
use Rattle.script_read.specs.declared.Numbers.TheVariants.{Nought, One, Two, Three, Four}

-- the largest number of 64 bits
abbrev pub most_wide : ℕ
most_wide = 18446744073709551615

-- the largest number of 32 bits
abbrev pub most_narrow : ℕ
most_narrow = 4294967295

-- a word as a number: decimal digits, leading zeros allowed, of a value within 64 bits
unfoldable pub number_of : List ℕ → Option ℕ
number_of w = cond (is_numeral w && leb (value_of w) most_wide) (Some (value_of w)) None

-- numbers with one more behind them; no line has more than four
abbrev pub with_one : Option Numbers → ℕ → Option Numbers
with_one (Some Nought) x = Some (One x)
with_one (Some (One a)) x = Some (Two a x)
with_one (Some (Two a b)) x = Some (Three a b x)
with_one (Some (Three a b c)) x = Some (Four a b c x)
with_one (Some (Four a b c d)) x = None
with_one None x = None

-- what is made of a number, where there is one
abbrev pub where_number : Option ℕ → (ℕ → Option Numbers) → Option Numbers
where_number (Some x) f = f x
where_number None f = None

-- numbers with the words behind them, each of which is to be a number
unfoldable pub numbers_after : Option Numbers → List (List ℕ) → Option Numbers
numbers_after ns [] = ns
numbers_after ns (w ∷ ws) = where_number (number_of w) (λ x. numbers_after (with_one ns x) ws)

-- words that are up to four numbers
abbrev pub numbers_of : List (List ℕ) → Option Numbers
numbers_of ws = numbers_after (Some Nought) ws
