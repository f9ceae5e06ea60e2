-- Numbers as decimal digits, in bytes.
-- Assumes nothing.
use Rattle.std.specs.Prelude.{ℕ, zero, suc, ◌+◌, ◌-◌, ◌*◌, ◌/◌, ◌%◌, Bool, true, false, cond, ◌&&◌, List, [], ◌∷◌, leb, ltb}

-- the byte of a digit
abbrev pub digit_byte : ℕ → ℕ
digit_byte d = 48 + d

-- at most k digits of n, in front of what follows them
abbrev pub digits_before : ℕ → ℕ → List ℕ → List ℕ
digits_before zero n after = after
digits_before (suc k) n after = cond (ltb n 10) (digit_byte n ∷ after) (digits_before k (n / 10) (digit_byte (n % 10) ∷ after))

-- the decimal digits of a number of 64 bits, without leading zeros
unfoldable pub digits_of : ℕ → List ℕ
digits_of n = digits_before 20 n []

-- a byte is a digit
abbrev pub is_digit : ℕ → Bool
is_digit b = leb 48 b && leb b 57

-- every byte is a digit
abbrev pub all_digits : List ℕ → Bool
all_digits [] = true
all_digits (b ∷ bs) = is_digit b && all_digits bs

-- one or more digits, leading zeros allowed
abbrev pub is_numeral : List ℕ → Bool
is_numeral [] = false
is_numeral (b ∷ bs) = all_digits (b ∷ bs)

-- the value of digits that stand after digits of value v
abbrev pub value_after : ℕ → List ℕ → ℕ
value_after v [] = v
value_after v (b ∷ bs) = value_after (10 * v + (b - 48)) bs

-- the value of a numeral
abbrev pub value_of : List ℕ → ℕ
value_of bs = value_after 0 bs
