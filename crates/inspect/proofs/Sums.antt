-- The weights of the slots in a row, taken off one after another: where slots outside an order weigh nothing, they are what the order's entries weigh.
-- Assumes nothing.
use Prim.Native.Nat.{ℕ, zero, suc, ◌+◌, ◌-◌, ◌≤◌, ◌<◌}
use mathlib.Core.Bool.{true, false, cond, ◌&&◌}
use mathlib.Core.List.{List, [], ◌∷◌}
use mathlib.Core.Logic.{⊎_elim}
use mathlib.Core.Path.{◌≡◌, refl, sym, ap, ◌∙◌}
use native.Mathlib.Omega.{arith}
use native.Mathlib.Numerals.{add-one}
use lib.Dec.{eqb, leb}
use lib.ListN.{get_or}
use borrow.Author.Tests.{eqb-true, eq-eqb, ne_eqb, leb-true, le-leb, lt-leb}
use Rattle.model.specs.Codes.{count}
use Rattle.model.specs.Desk.{weighs}
use Rattle.model.proofs.Cases.{both}
use Rattle.list.specs.Inspect.{all_from}
use Rattle.list.proofs.Marks.{same?, under?, hit, miss}
use Rattle.list.proofs.Walked.{and_in}
use Rattle.head.specs.Fields.{Fields}
use Rattle.store.specs.State.{gather}
use Rattle.inspect.specs.Tests.{sum_ok, is_at}

-- a list's number at a place
abbrev pub at : List ℕ → ℕ → ℕ
at l j = get_or l j 0

-- what a function gives at k places from i on, together
abbrev pub total : (ℕ → ℕ) → ℕ → ℕ → ℕ
total g zero i = 0
total g (suc k) i = g i + total g k (suc i)

-- the test passes exactly where the weights make the sum
pub sum_is : (ws : List ℕ) (k i left : ℕ) → sum_ok ws k i left ≡ true → left ≡ total (at ws) k i
unfolding sum_ok
sum_is ws zero i left e = eqb-true left 0 e
sum_is ws (suc k) i left e =
    let p = both (leb (get_or ws i 0) left) _ e in
    omega (arith, leb-true (get_or ws i 0) left p.0, sum_is ws k (suc i) (left - get_or ws i 0) p.1)

pub sum_passes : (ws : List ℕ) (k i left : ℕ) → left ≡ total (at ws) k i → sum_ok ws k i left ≡ true
unfolding sum_ok
sum_passes ws zero i left e = eq-eqb left 0 e
sum_passes ws (suc k) i left e =
    and_in _ _ (le-leb (get_or ws i 0) left (omega arith)) (sum_passes ws k (suc i) (left - get_or ws i 0) (omega arith))

-- ---- the loop: n - k weights from place k on, with so much left

sum_step : (ws : List ℕ) (n k left : ℕ) → k < n
    → sum_ok ws (n - k) k left ≡ (leb (get_or ws k 0) left && sum_ok ws (n - (k + 1)) (k + 1) (left - get_or ws k 0))
unfolding sum_ok
sum_step ws n k left h =
    let e : n - k ≡ suc (n - (k + 1)) = omega arith in
    ap (λ (j : ℕ). sum_ok ws j k left) e ∙ ap (λ (j : ℕ). leb (get_or ws k 0) left && sum_ok ws (n - (k + 1)) j (left - get_or ws k 0)) (sym (add-one k))

pub sum_heavy : (ws : List ℕ) (n k left : ℕ) → k < n → left < get_or ws k 0 → sum_ok ws (n - k) k left ≡ false
sum_heavy ws n k left h l = sum_step ws n k left h ∙ rw (lt-leb (get_or ws k 0) left l) refl

pub sum_more : (ws : List ℕ) (n k left : ℕ) → k < n → get_or ws k 0 ≤ left → sum_ok ws (n - k) k left ≡ sum_ok ws (n - (k + 1)) (k + 1) (left - get_or ws k 0)
sum_more ws n k left h l = sum_step ws n k left h ∙ rw (le-leb (get_or ws k 0) left l) refl

pub sum_end : (ws : List ℕ) (n k left : ℕ) → n ≤ k → sum_ok ws (n - k) k left ≡ eqb left 0
unfolding sum_ok
sum_end ws n k left h = let e : n - k ≡ 0 = omega arith in ap (λ (j : ℕ). sum_ok ws j k left) e

-- ---- sums of functions

-- functions that agree, two functions added, none
total_same : (f g : ℕ → ℕ) (k i : ℕ) → ((j : ℕ) → i ≤ j → j < i + k → f j ≡ g j) → total f k i ≡ total g k i
total_same f g zero i h = refl
total_same f g (suc k) i h = omega (arith, h i (omega arith) (omega arith), total_same f g k (suc i) (λ j lo hi. h j (omega arith) (omega arith)))

total_add : (f g : ℕ → ℕ) (k i : ℕ) → total (λ j. f j + g j) k i ≡ total f k i + total g k i
total_add f g zero i = refl
total_add f g (suc k) i = omega (arith, total_add f g k (suc i))

total_none : (k i : ℕ) → total (λ j. 0) k i ≡ 0
total_none zero i = refl
total_none (suc k) i = omega (arith, total_none k (suc i))

module _ (ws : List ℕ) where
  -- one slot's weight, at that slot alone
  abbrev alone : ℕ → ℕ → ℕ
  alone s j = cond (eqb j s) (get_or ws j 0) 0

  -- it is that weight there, 0 elsewhere, and that weight over all slots
  alone_same : (s : ℕ) → alone s s ≡ get_or ws s 0
  alone_same s = rw (eq-eqb s s refl)

  alone_other : (s j : ℕ) → (j ≡ s → ⊥) → alone s j ≡ 0
  alone_other s j n = rw (ne_eqb j s n)

  total_alone : (s k i : ℕ) → i ≤ s → s < i + k → total (alone s) k i ≡ get_or ws s 0
  total_alone s zero i lo hi = absurd (omega arith)
  total_alone s (suc k) i lo hi =
      ⊎_elim
      (λ (q : i ≡ s).
      let a : alone s i ≡ get_or ws s 0 = ap (alone s) q ∙ alone_same s in
      omega (arith, total_same (alone s) (λ j. 0) k (suc i) (λ j l u. alone_other s j (λ e. omega arith)), total_none k (suc i)))
      (λ n. omega (arith, alone_other s i n, total_alone s k (suc i) (omega arith) (omega arith)))
      (same? i s)

  -- what an order's slots weigh at a place
  abbrev mass : List ℕ → ℕ → ℕ
  mass [] j = 0
  mass (s ∷ o) j = alone s j + mass o j

  -- nothing where none of them stands, the place's weight where one does
  mass_none : (o : List ℕ) (j : ℕ) → count j o ≡ 0 → mass o j ≡ 0
  mass_none [] j z = refl
  mass_none (s ∷ o) j z =
      ⊎_elim
      (λ (q : s ≡ j). absurd (omega (arith, hit s j q)))
      (λ n. omega (arith, alone_other s j (λ e. n (sym e)), mass_none o j (omega (arith, miss s j n))))
      (same? s j)

  mass_once : (o : List ℕ) (j : ℕ) → count j o ≡ 1 → mass o j ≡ get_or ws j 0
  mass_once [] j z = absurd (omega arith)
  mass_once (s ∷ o) j z =
      ⊎_elim
      (λ (q : s ≡ j).
      let a : alone s j ≡ get_or ws j 0 = ap (λ (x : ℕ). alone x j) q ∙ alone_same j in
      omega (arith, mass_none o j (omega (arith, hit s j q))))
      (λ n. omega (arith, alone_other s j (λ e. n (sym e)), mass_once o j (omega (arith, miss s j n))))
      (same? s j)

-- over all slots it is what the order's entries weigh
total_mass : (f : Fields) (n : ℕ) (o : List ℕ) → ((u : ℕ) → 1 ≤ count u o → u < n) → total (mass f.weights o) n 0 ≡ weighs (gather f o)
total_mass f n [] h = total_none n 0
total_mass f n (s ∷ o) h =
    let a = total_alone f.weights s n 0 (omega arith) (omega (arith, h s (omega (arith, hit s s refl)))) in
    omega (arith, total_add (alone f.weights s) (mass f.weights o) n 0, total_mass f n o (λ u c. h u (omega arith)))

-- each slot stands at most once in an order, and those that do not weigh nothing: the sum over all slots is the order's
pub total_order : (f : Fields) (n : ℕ) (o : List ℕ) → ((u : ℕ) → 1 ≤ count u o → u < n) → ((u : ℕ) → count u o ≤ 1)
    → ((u : ℕ) → u < n → count u o ≡ 0 → get_or f.weights u 0 ≡ 0)
    → total (at f.weights) n 0 ≡ weighs (gather f o)
total_order f n o below once none =
    total_same (at f.weights) (mass f.weights o) n 0 (λ j lo hi.
    ⊎_elim
    (λ (l : 0 < count j o). sym (mass_once f.weights o j (omega (arith, once j))))
    (λ (g : count j o ≤ 0). none j (omega arith) (omega arith) ∙ sym (mass_none f.weights o j (omega arith)))
    (under? 0 (count j o)))
    ∙ total_mass f n o below

-- ---- no weight at all

-- no number is taken off where each is 0
pub zero_sum : (ws : List ℕ) (k i : ℕ) → all_from k i (is_at 0 ws) ≡ sum_ok ws k i 0
unfolding all_from is_at sum_ok
zero_sum ws zero i = refl
zero_sum ws (suc k) i =
    ⊎_elim
    (λ (q : get_or ws i 0 ≡ 0).
    let z : 0 - get_or ws i 0 ≡ 0 = omega arith in
    rw (eq-eqb (get_or ws i 0) 0 q, le-leb (get_or ws i 0) 0 (omega arith), z) (zero_sum ws k (suc i)))
    (λ n. rw (ne_eqb (get_or ws i 0) 0 n, lt-leb (get_or ws i 0) 0 (omega arith)) refl)
    (same? (get_or ws i 0) 0)
