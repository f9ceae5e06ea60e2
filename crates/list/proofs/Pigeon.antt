-- n distinct numbers below n are all of them.
-- Assumes nothing.
use Prim.Native.Nat.{ℕ, zero, suc, ◌+◌, ◌≤◌, ◌<◌}
use native.Mathlib.Omega.{arith}
use mathlib.Core.Path.{◌≡◌, refl, sym, ap, ◌∙◌}
use mathlib.Core.Logic.{⊎_elim}
use mathlib.Core.List.{List, [], ◌∷◌}
use lib.ListN.{length}
use lib.Dec.{eqb}
use Rattle.model.specs.Codes.{one, count}
use Rattle.list.specs.Order.{below}
use Rattle.list.proofs.Marks.{same?, under?, hit, miss, below_in, below_out}

abbrev pub sum : ℕ → (ℕ → ℕ) → ℕ
sum zero g = 0
sum (suc n) g = sum n g + g n

sum_zero : (n : ℕ) → sum n (λ i. 0) ≡ 0
sum_zero zero = refl
sum_zero (suc n) = omega (arith, sum_zero n)

pub sum_add : (n : ℕ) (g k : ℕ → ℕ) → sum n (λ i. g i + k i) ≡ sum n g + sum n k
sum_add zero g k = refl
sum_add (suc n) g k = omega (arith, sum_add n g k)

sum_out : (n x : ℕ) → n ≤ x → sum n (λ i. one (eqb i x)) ≡ 0
sum_out zero x h = refl
sum_out (suc n) x h = omega (arith, sum_out n x (omega arith), miss x n (λ e. omega arith))

sum_one : (n x : ℕ) → x < n → sum n (λ i. one (eqb i x)) ≡ 1
sum_one zero x h = absurd (omega arith)
sum_one (suc n) x h =
    ⊎_elim
    (λ e. omega (arith, sum_out n x (omega arith), hit x n e))
    (λ d. omega (arith, sum_one n x (omega arith), miss x n d))
    (same? x n)

pub sum_count : (n : ℕ) (l : List ℕ) → ((i : ℕ) → 1 ≤ count i l → i < n) → sum n (λ i. count i l) ≡ length l
sum_count n [] h = sum_zero n
sum_count n (x ∷ l) h =
    omega (
      arith,
      sum_add n (λ i. one (eqb i x)) (λ i. count i l),
      sum_one n x (h x (omega (arith, hit x x refl))),
      sum_count n l (λ i c. h i (omega arith)),
    )

sum_le : (n : ℕ) (g : ℕ → ℕ) → ((i : ℕ) → g i ≤ 1) → sum n g ≤ n
sum_le zero g h = omega arith
sum_le (suc n) g h = omega (arith, sum_le n g h, h n)

pub sum_full : (n : ℕ) (g : ℕ → ℕ) → ((i : ℕ) → g i ≤ 1) → sum n g ≡ n → (i : ℕ) → i < n → g i ≡ 1
sum_full zero g h e i hi = absurd (omega arith)
sum_full (suc n) g h e i hi =
    ⊎_elim
    (λ q. ap g q ∙ omega (arith, sum_le n g h, h n))
    (λ d. sum_full n g h (omega (arith, sum_le n g h, h n)) i (omega arith))
    (same? i n)

pub pigeon : (n : ℕ) (o f : List ℕ) → ((i : ℕ) → count i o + count i f ≤ 1) → ((i : ℕ) → 1 ≤ count i o + count i f → i < n)
    → length o + length f ≡ n → (i : ℕ) → count i o + count i f ≡ below i n
pigeon n o f once in-n len i =
    ⊎_elim
    (λ l. sum_full n (λ j. count j o + count j f) once total i l ∙ sym (below_in i n l))
    (λ g. ⊎_elim (λ z. absurd (omega (arith, in-n i z))) (λ z. omega (arith, below_out i n g)) (under? 0 (count i o + count i f)))
    (under? i n)
  where
    total : sum n (λ j. count j o + count j f) ≡ n
    total =
        omega (arith, sum_add n (λ j. count j o) (λ j. count j f), sum_count n o (λ j c. in-n j (omega arith)), sum_count n f (λ j c. in-n j (omega arith)))
