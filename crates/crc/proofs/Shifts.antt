-- Shifting is linear, so k shifts are a table of the k low bits and a plain shift of the others.
-- Assumes nothing.
use mathlib.Core.Path.{◌≡◌, refl, sym, ap, ap₂, ◌∙◌}
use mathlib.Core.Bool.{cond}
use mathlib.Core.List.{List}
use Prim.Native.Nat.{ℕ, zero, suc, ◌+◌, ◌*◌, ◌/◌, ◌%◌, ◌^◌, ◌<◌, ◌≤◌}
use native.Mathlib.Nat.{mod-lt, div-add-mod', pow-suc, mul_assoc, zero-add, suc-add}
use native.Mathlib.Omega.{arith}
use lib.Dec.{eqb}
use lib.Bits.{bit_xor, differ, xor_zero_r, xor_shifted}
use lib.ListN.{length, get_or, drop, drop_of_length-le}
use lib.Seq.{drop-cons}
use lib.Pow.{pow_pos}
use native.Mathlib.Numerals.{add-one}
use Rattle.crc.specs.Crc.{polynomial, shift, shifts, with_byte, with_bytes}
use Rattle.crc.proofs.Xor.{xor_half, xor_odd, xor_middle}

-- what a shift takes in, by the bit that falls out
taken : ℕ → ℕ
taken zero = zero
taken (suc b) = polynomial

taken_linear : (a b : ℕ) → a < 2 → b < 2 → taken (differ a b) ≡ bit_xor (taken a) (taken b)
unfolding taken
taken_linear zero b ha hb = refl
taken_linear (suc zero) zero ha hb = refl
taken_linear (suc zero) (suc zero) ha hb = refl
taken_linear (suc zero) (suc (suc b)) ha hb = absurd (omega arith)
taken_linear (suc (suc a)) b ha hb = absurd (omega arith)

shift_is : (c : ℕ) → shift c ≡ bit_xor (c / 2) (taken (c % 2))
unfolding shift taken
shift_is c = go (c % 2) (omega arith)
  where
    go : (b : ℕ) → b < 2 → cond (eqb b 1) (bit_xor (c / 2) polynomial) (c / 2) ≡ bit_xor (c / 2) (taken b)
    go zero h = sym (xor_zero_r (c / 2))
    go (suc zero) h = refl
    go (suc (suc b)) h = absurd (omega arith)

pub shift_linear : (a b : ℕ) → shift (bit_xor a b) ≡ bit_xor (shift a) (shift b)
shift_linear a b =
    shift_is (bit_xor a b)
    ∙ ap₂ bit_xor (xor_half a b) (ap taken (xor_odd a b) ∙ taken_linear (a % 2) (b % 2) (omega arith) (omega arith))
    ∙ xor_middle (a / 2) (b / 2) (taken (a % 2)) (taken (b % 2))
    ∙ sym (ap₂ bit_xor (shift_is a) (shift_is b))

pub shifts_linear : (k a b : ℕ) → shifts k (bit_xor a b) ≡ bit_xor (shifts k a) (shifts k b)
unfolding shifts
shifts_linear zero a b = refl
shifts_linear (suc k) a b = ap (shifts k) (shift_linear a b) ∙ shifts_linear k (shift a) (shift b)

shift_even : (a : ℕ) → shift (a * 2) ≡ a
unfolding taken
shift_even a = shift_is (a * 2) ∙ ap₂ (λ (x y : ℕ). bit_xor x (taken y)) half even ∙ xor_zero_r a
  where
    half : a * 2 / 2 ≡ a
    half = omega arith

    even : a * 2 % 2 ≡ 0
    even = omega arith

shifts_high : (k a : ℕ) → shifts k (a * 2 ^ k) ≡ a
unfolding shifts
shifts_high zero a = omega arith
shifts_high (suc k) a =
    ap (λ (x : ℕ). shifts k (shift x)) (ap (λ (x : ℕ). a * x) (pow-suc 2 k) ∙ sym (mul_assoc a (2 ^ k) 2)) ∙ ap (shifts k) (shift_even (a * 2 ^ k)) ∙ shifts_high k a

-- the law of the table
pub shifts_split : (k x : ℕ) → shifts k x ≡ bit_xor (x / 2 ^ k) (shifts k (x % 2 ^ k))
shifts_split k x =
    ap (shifts k) (sym (div-add-mod' x (2 ^ k)) ∙ sym (xor_shifted (x / 2 ^ k) k (x % 2 ^ k) (mod-lt x (pow_pos k))))
    ∙ shifts_linear k (x / 2 ^ k * 2 ^ k) (x % 2 ^ k)
    ∙ ap (λ (y : ℕ). bit_xor y (shifts k (x % 2 ^ k))) (shifts_high k (x / 2 ^ k))

pub shifts_add : (j k x : ℕ) → shifts (j + k) x ≡ shifts k (shifts j x)
unfolding shifts
shifts_add zero k x = ap (λ (n : ℕ). shifts n x) (zero-add k)
shifts_add (suc j) k x = ap (λ (n : ℕ). shifts n x) (suc-add j k) ∙ shifts_add j k (shift x)

-- ---- byte by byte

pub next_of : (s : List ℕ) (c : ℕ) {c' : ℕ} (i : ℕ) → i < length s → c' ≡ with_byte c (get_or s i 0) → with_bytes c' (drop (i + 1) s) ≡ with_bytes c (drop i s)
unfolding with_bytes
next_of s c {c'} i h p =
    ap (λ (k : ℕ). with_bytes k (drop (i + 1) s)) p ∙ ap (λ (k : ℕ). with_bytes (with_byte c (get_or s i 0)) (drop k s)) (add-one i)
    ∙ ap (with_bytes c) (sym (drop-cons s i 0 h))

pub last_of : (s : List ℕ) (c i : ℕ) → length s ≤ i → with_bytes c (drop i s) ≡ c
unfolding with_bytes
last_of s c i h = ap (with_bytes c) (drop_of_length-le s h)
