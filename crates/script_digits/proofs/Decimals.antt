-- The digits of a number from those of a tenth of it, and how many there are.
-- Assumes nothing.
use Prim.Native.Nat.{ℕ, zero, suc, ◌+◌, ◌*◌, ◌/◌, ◌%◌, ◌≤◌, ◌<◌}
use mathlib.Core.Bool.{Bool, true, false, cond}
use mathlib.Core.List.{List, [], ◌∷◌, ◌++◌}
use mathlib.Core.Path.{◌≡◌, refl, sym, ap, ◌∙◌}
use native.Mathlib.Omega.{arith}
use lib.Dec.{ltb}
use lib.ListN.{length, length-append}
use borrow.Author.Tests.{lt-ltb, le-ltb}
use Rattle.script_digits.specs.Decimal.{digit_byte, digits_before, digits_of}

-- by cases on a test
pub split : {P : Type 0} (b : Bool) → (b ≡ true → P) → (b ≡ false → P) → P
split true f g = f refl
split false f g = g refl

-- the first number with more than k + 1 digits
abbrev pub most : ℕ → ℕ
most zero = 10
most (suc k) = most k * 10

-- fuel beyond a number's digits changes nothing
fuel : (k n : ℕ) (after : List ℕ) → n < most k → digits_before (suc (suc k)) n after ≡ digits_before (suc k) n after
fuel zero n after h = rw (lt-ltb n 10 h)
fuel (suc k) n after h =
    split (ltb n 10) (λ e. rw e)
    (λ e. rw e (fuel k (n / 10) (digit_byte (n % 10) ∷ after) (omega arith)))

before_append : (k n : ℕ) (xs ys : List ℕ) → digits_before k n (xs ++ ys) ≡ digits_before k n xs ++ ys
before_append zero n xs ys = refl
before_append (suc k) n xs ys =
    split (ltb n 10) (λ e. rw e) (λ e. rw e (before_append k (n / 10) (digit_byte (n % 10) ∷ xs) ys))

before_most : (k n : ℕ) (after : List ℕ) → length (digits_before k n after) ≤ k + length after
before_most zero n after = omega arith
before_most (suc k) n after =
    split (ltb n 10) (λ e. rw e (omega arith)) (λ e. rw e (omega (arith, before_most k (n / 10) (digit_byte (n % 10) ∷ after))))

before_least : (k n : ℕ) (after : List ℕ) → length after ≤ length (digits_before k n after)
before_least zero n after = omega arith
before_least (suc k) n after =
    split (ltb n 10) (λ e. rw e (omega arith)) (λ e. rw e (omega (arith, before_least k (n / 10) (digit_byte (n % 10) ∷ after))))

-- a number below ten is its one digit
pub digits_one : (n : ℕ) → n < 10 → digits_of n ≡ digit_byte n ∷ []
unfolding digits_of
digits_one n h = rw (lt-ltb n 10 h)

-- the digits of a tenth, and the last digit
pub digits_more : (n : ℕ) → 10 ≤ n → n < 18446744073709551616 → digits_of n ≡ digits_of (n / 10) ++ (digit_byte (n % 10) ∷ [])
unfolding digits_of
digits_more n h l =
    let last : List ℕ = digit_byte (n % 10) ∷ [] in
    ap (λ (t : Bool). cond t (digit_byte n ∷ []) (digits_before 19 (n / 10) last)) (le-ltb n 10 h)
    ∙ sym (fuel 18 (n / 10) last (omega arith))
    ∙ before_append 20 (n / 10) [] last

-- and so it has one digit more
pub digits_longer : (n : ℕ) → 10 ≤ n → n < 18446744073709551616 → length (digits_of n) ≡ length (digits_of (n / 10)) + 1
digits_longer n h l = ap length (digits_more n h l) ∙ length-append (digits_of (n / 10)) (digit_byte (n % 10) ∷ [])

-- at most twenty digits
pub digits_most : (n : ℕ) → length (digits_of n) ≤ 20
unfolding digits_of
digits_most n = omega (arith, before_most 20 n [])

-- at least one digit
pub digits_least : (n : ℕ) → 1 ≤ length (digits_of n)
unfolding digits_of
digits_least n =
    split (ltb n 10)
    (λ e. rw e (omega arith))
    (λ e. rw e (omega (arith, before_least 19 (n / 10) (digit_byte (n % 10) ∷ []))))
