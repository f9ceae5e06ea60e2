-- The digits of a number are a numeral of that value.
-- Assumes nothing.
use Prim.Native.Nat.{ℕ, zero, suc, ◌+◌, ◌-◌, ◌*◌, ◌/◌, ◌%◌, ◌^◌, ◌≤◌, ◌<◌}
use mathlib.Core.Bool.{Bool, true, false}
use mathlib.Core.List.{List, [], ◌∷◌}
use mathlib.Core.Path.{◌≡◌, refl, ap, ◌∙◌}
use native.Mathlib.Omega.{arith}
use lib.Dec.{ltb}
use borrow.Author.Tests.{lt-ltb, le-leb, ltb-true}
use Rattle.script_digits.specs.Decimal.{digit_byte, digits_before, digits_of, is_digit, all_digits, is_numeral, value_after, value_of}
use Rattle.std.specs.Prelude.{Some}
use Rattle.script_read.specs.Numerals.{most_wide, number_of}

split : {P : Type 0} (b : Bool) → (b ≡ true → P) → (b ≡ false → P) → P
split true f g = f refl
split false f g = g refl

pub digits_value : (k n : ℕ) (after : List ℕ) → n < 10 ^ suc k → value_after 0 (digits_before (suc k) n after) ≡ value_after n after
digits_value zero n after h =
    let small : n < 10 = omega arith in
    rw (lt-ltb n 10 small) (ap (λ (v : ℕ). value_after v after) (omega arith))
digits_value (suc k) n after h =
    split (ltb n 10)
    (λ e. rw e (ap (λ (v : ℕ). value_after v after) (omega arith)))
    (λ e.
    let less : n / 10 < 10 ^ suc k = omega arith in
    let same : 10 * (n / 10) + (48 + n % 10 - 48) ≡ n = omega arith in
    rw e (digits_value k (n / 10) (digit_byte (n % 10) ∷ after) less ∙ ap (λ (v : ℕ). value_after v after) same))

pub digit_byte_lem : (d : ℕ) → d < 10 → is_digit (digit_byte d) ≡ true
digit_byte_lem d h = rw (le-leb 48 (48 + d) (omega arith), le-leb (48 + d) 57 (omega arith))

digits_follow : (k n b : ℕ) (bs : List ℕ) → all_digits (b ∷ bs) ≡ true → is_numeral (digits_before k n (b ∷ bs)) ≡ true
digits_follow zero n b bs h = h
digits_follow (suc k) n b bs h =
    split (ltb n 10)
    (λ e. let small : n < 10 = ltb-true n 10 e in rw (e, digit_byte_lem n small) h)
    (λ e. let small : n % 10 < 10 = omega arith in rw e (digits_follow k (n / 10) (digit_byte (n % 10)) (b ∷ bs) (rw (digit_byte_lem (n % 10) small) h)))

pub digits_numeral : (k n : ℕ) → is_numeral (digits_before (suc k) n []) ≡ true
digits_numeral k n =
    split (ltb n 10)
    (λ e. let small : n < 10 = ltb-true n 10 e in rw (e, digit_byte_lem n small))
    (λ e. let small : n % 10 < 10 = omega arith in rw e (digits_follow k (n / 10) (digit_byte (n % 10)) [] (rw (digit_byte_lem (n % 10) small) refl)))

-- the digits of a number have its value
pub value_digits : (n : ℕ) → n ≤ most_wide → value_of (digits_of n) ≡ n
unfolding digits_of
value_digits n h = digits_value 19 n [] (omega arith)

-- the digits of a number are a numeral
pub numeral_digits : (n : ℕ) → is_numeral (digits_of n) ≡ true
unfolding digits_of
numeral_digits n = digits_numeral 19 n

-- the digits of a number are read as that number
pub number_digits : (n : ℕ) → n ≤ most_wide → number_of (digits_of n) ≡ Some n
unfolding number_of
number_digits n h = rw (numeral_digits n, value_digits n h, le-leb n most_wide h)
