-- The digits of a number are a numeral, and their value is the number.
-- Assumes nothing.
use Prim.Native.Nat.{ℕ, zero, suc, ◌+◌, ◌-◌, ◌*◌, ◌/◌, ◌%◌, ◌≤◌, ◌<◌}
use mathlib.Core.Bool.{Bool, true, ◌&&◌}
use mathlib.Core.List.{List, [], ◌∷◌}
use mathlib.Core.Path.{◌≡◌, refl, ap, ◌∙◌}
use native.Mathlib.Omega.{arith}
use lib.Dec.{ltb}
use lib.ListN.{length}
use borrow.Author.Tests.{ltb-true, lt-ltb, le-leb}
use Rattle.script_digits.specs.Decimal.{digit_byte, digits_before, digits_of, is_digit, all_digits, is_numeral, value_after, value_of}
use Rattle.script_digits.proofs.Decimals.{split, most, digits_least}

is_digit_lem : (d : ℕ) → d < 10 → is_digit (digit_byte d) ≡ true
is_digit_lem d h = rw (le-leb 48 (48 + d) (omega arith), le-leb (48 + d) 57 (omega arith))

-- a digit more, where v and it make x
value_step : (v d x : ℕ) (after : List ℕ) → 10 * v + d ≡ x → value_after v (digit_byte d ∷ after) ≡ value_after x after
value_step v d x after e =
    let z : 10 * v + (48 + d - 48) ≡ x = omega arith in
    ap (λ (y : ℕ). value_after y after) z

before_value : (k n : ℕ) (after : List ℕ) → n < most k → value_after 0 (digits_before (suc k) n after) ≡ value_after n after
before_value zero n after h = rw (lt-ltb n 10 h) (value_step 0 n n after (omega arith))
before_value (suc k) n after h =
    split (ltb n 10)
    (λ e. rw e (value_step 0 n n after (omega arith)))
    (λ e. rw e (before_value k (n / 10) (digit_byte (n % 10) ∷ after) (omega arith) ∙ value_step (n / 10) (n % 10) n after (omega arith)))

before_digits : (k n : ℕ) (after : List ℕ) → n < most k → all_digits (digits_before (suc k) n after) ≡ all_digits after
before_digits zero n after h = rw (lt-ltb n 10 h) (ap (λ (t : Bool). t && all_digits after) (is_digit_lem n h))
before_digits (suc k) n after h =
    split (ltb n 10)
    (λ e. rw e (ap (λ (t : Bool). t && all_digits after) (is_digit_lem n (ltb-true n 10 e))))
    (λ e.
    rw e
    (before_digits k (n / 10) (digit_byte (n % 10) ∷ after) (omega arith)
    ∙ ap (λ (t : Bool). t && all_digits after) (is_digit_lem (n % 10) (omega arith))))

numeral : (bs : List ℕ) → 1 ≤ length bs → is_numeral bs ≡ all_digits bs
numeral [] h = absurd (omega arith)
numeral (b ∷ bs) h = refl

-- what is written reads back as the number
pub digits_value : (n : ℕ) → n < 18446744073709551616 → value_of (digits_of n) ≡ n
unfolding digits_of
digits_value n h = before_value 19 n [] (omega arith)

all_digits_lem : (n : ℕ) → n < 18446744073709551616 → all_digits (digits_of n) ≡ true
unfolding digits_of
all_digits_lem n h = before_digits 19 n [] (omega arith)

-- what is written is a numeral
pub digits_numeral : (n : ℕ) → n < 18446744073709551616 → is_numeral (digits_of n) ≡ true
digits_numeral n h = numeral (digits_of n) (digits_least n) ∙ all_digits_lem n h
