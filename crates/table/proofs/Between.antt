-- Cells on the way from one cell to another, around the end. Pure arithmetic; then what it says of runs.
-- Assumes nothing.
use mathlib.Core.Path.{◌≡◌, refl, sym, ap, ◌∙◌, subst}
use mathlib.Core.Bool.{Bool, true, false, ◌||◌}
use mathlib.Core.Logic.{◌≢◌, ◌⊎◌, inl, inr, ⊎_elim}
use mathlib.Core.List.{List}
use Prim.Native.Nat.{ℕ, ◌+◌, ◌-◌, ◌≤◌, ◌<◌}
use native.Mathlib.Omega.{arith}
use borrow.Author.Tests.{le-leb, lt-leb, leb-true, leb-false}
use lib.Dec.{leb}
use lib.ListN.{get_or}
use Rattle.head.specs.Bounds.{none_mark}
use Rattle.table.specs.Cells.{wrap, cell_after}
use Rattle.table.specs.Sound.{Run, here, over}
use Rattle.table.specs.Acts.{between}
use Rattle.table.proofs.Ring.{bool, or_right, and_both, lt_or_le, eq_or_ne, wrap_cases, next_cases, next_lt}

-- ---- the test

pub straight : (f j t : ℕ) → f ≤ j → j ≤ t → between f j t ≡ true
unfolding between
straight f j t a b = rw (le-leb f t (omega arith), le-leb f j a, le-leb j t b)

pub high : (f j t : ℕ) → t < f → f ≤ j → between f j t ≡ true
unfolding between
high f j t a b = rw (lt-leb f t a, le-leb f j b)

pub low : (f j t : ℕ) → t < f → j ≤ t → between f j t ≡ true
unfolding between
low f j t a b = rw (lt-leb f t a) (or_right (leb f j) (leb j t) (le-leb j t b))

abbrev Way : ℕ → ℕ → ℕ → Type 0
Way f j t = ((f ≤ j) × (j ≤ t)) ⊎ (((t < f) × (f ≤ j)) ⊎ ((t < f) × (j ≤ t)))

or_either : (a b : Bool) → (a || b) ≡ true → (a ≡ true) ⊎ (b ≡ true)
or_either true b e = inl refl
or_either false b e = inr e

pub ways : (f j t : ℕ) → between f j t ≡ true → Way f j t
unfolding between
ways f j t e =
    ⊎_elim
    (λ (b : leb f t ≡ true). let r = and_both (leb f j) (leb j t) (rw b at e) in inl (leb-true f j r.0, leb-true j t r.1))
    (λ (b : leb f t ≡ false). ⊎_elim (λ r. inr (inl (leb-false f t b, leb-true f j r))) (λ r. inr (inr (leb-false f t b, leb-true j t r))) (or_either (leb f j) (leb j t) (rw b at e)))
    (bool (leb f t))

-- ---- one cell further, and one back

pub further : (m i j t : ℕ) → i < m → j < m → t < m → i ≢ j → between i j t ≡ true → between (cell_after m i) j t ≡ true
further m i j t im jm tm n e =
    ⊎_elim
    (λ w. ⊎_elim (λ q. straight (cell_after m i) j t (omega arith) w.1) (λ q. absurd (omega arith)) (next_cases m i im))
    (⊎_elim
    (λ w. ⊎_elim (λ q. high (cell_after m i) j t (omega arith) (omega arith)) (λ q. absurd (omega arith)) (next_cases m i im))
    (λ w. ⊎_elim (λ q. low (cell_after m i) j t (omega arith) w.1) (λ q. straight (cell_after m i) j t (omega arith) w.1) (next_cases m i im)))
    (ways i j t e)

pub back : (m h i t : ℕ) → h < m → i < m → t < m → i ≢ h → between (cell_after m h) (cell_after m i) t ≡ true → between (cell_after m h) i t ≡ true
back m h i t hm im tm n e =
    ⊎_elim
    (λ w. ⊎_elim (λ q. straight (cell_after m h) i t (⊎_elim (λ p. omega arith) (λ p. omega arith) hs) (omega arith)) (λ q. absurd (⊎_elim (λ p. omega arith) (λ p. omega arith) hs)) is)
    (⊎_elim
    (λ w. ⊎_elim (λ q. high (cell_after m h) i t w.0 (⊎_elim (λ p. omega arith) (λ p. omega arith) hs)) (λ q. absurd (omega arith)) is)
    (λ w. ⊎_elim (λ q. low (cell_after m h) i t w.0 (omega arith)) (λ q. high (cell_after m h) i t w.0 (omega (arith, next_lt m h hm))) is))
    (ways (cell_after m h) (cell_after m i) t e)
  where
    hs : ((h + 1 < m) × (cell_after m h ≡ h + 1)) ⊎ ((h + 1 ≡ m) × (cell_after m h ≡ 0))
    hs = next_cases m h hm

    is : ((i + 1 < m) × (cell_after m i ≡ i + 1)) ⊎ ((i + 1 ≡ m) × (cell_after m i ≡ 0))
    is = next_cases m i im

pub at_end : (f t : ℕ) → between f t t ≡ true
at_end f t = ⊎_elim (λ l. low f t t l (omega arith)) (λ l. straight f t t l (omega arith)) (lt_or_le t f)

-- from the cell after h to h: every cell
pub around : (m h j : ℕ) → h < m → j < m → between (cell_after m h) j h ≡ true
around m h j hm jm =
    ⊎_elim
    (λ q. ⊎_elim (λ l. high (cell_after m h) j h (omega arith) (omega arith)) (λ l. low (cell_after m h) j h (omega arith) l) (lt_or_le h j))
    (λ q. straight (cell_after m h) j h (omega arith) (omega arith))
    (next_cases m h hm)

only_end : (i j : ℕ) → between j i j ≡ true → i ≡ j
only_end i j e = ⊎_elim (λ w. omega arith) (⊎_elim (λ w. absurd (omega arith)) (λ w. absurd (omega arith))) (ways j i j e)

-- ---- how far an empty cell is

pub far : ℕ → ℕ → ℕ → ℕ
far m e i = wrap m (e + m - i)

pub nearer : (m e i : ℕ) → e < m → i < m → i ≢ e → far m e (cell_after m i) < far m e i
unfolding far
nearer m e i em im n =
    ⊎_elim
    (λ q. ⊎_elim (λ a. ⊎_elim (λ b. omega arith) (λ b. omega arith) (wrap_cases m (e + m - i))) (λ a. ⊎_elim (λ b. omega arith) (λ b. omega arith) (wrap_cases m (e + m - i))) (wrap_cases m (e + m - cell_after m i)))
    (λ q. ⊎_elim (λ a. ⊎_elim (λ b. omega arith) (λ b. omega arith) (wrap_cases m (e + m - i))) (λ a. ⊎_elim (λ b. omega arith) (λ b. omega arith) (wrap_cases m (e + m - i))) (wrap_cases m (e + m - cell_after m i)))
    (next_cases m i im)

-- ---- runs

-- a run to j goes by every cell on the way
pub run_from : {cells : List ℕ} {m j i : ℕ} → Run cells m j i → (r : ℕ) → i < m → j < m → r < m → between i r j ≡ true → Run cells m j r
run_from {cells} {m} {j} (here {i = i} e) r im jm rm b = here (only_end r j (subst (λ (x : ℕ). between x r j ≡ true) e b))
run_from {cells} {m} {j} (over {i = i} k t) r im jm rm b =
    step (run_from t r (next_lt m i im) jm rm) (eq_or_ne i r)
  where
    step : (between (cell_after m i) r j ≡ true → Run cells m j r) → (i ≡ r) ⊎ (i ≢ r) → Run cells m j r
    step f (inl q) = subst (λ (x : ℕ). Run cells m j x) q (over k t)
    step f (inr n) = f (further m i r j im rm jm n b)

-- a run that does not go over the empty cell h starts on the way from the cell after h to its end
pub run_within : {cells : List ℕ} {m j i : ℕ} → Run cells m j i → (h : ℕ) → h < m → i < m → j < m → get_or cells h 0 ≡ none_mark → between (cell_after m h) i j ≡ true
run_within {cells} {m} {j} (here {i = i} e) h hm im jm z = subst (λ (x : ℕ). between (cell_after m h) x j ≡ true) (sym e) (at_end (cell_after m h) j)
run_within {cells} {m} {j} (over {i = i} k t) h hm im jm z =
    back m h i j hm im jm (λ q. k (ap (λ (x : ℕ). get_or cells x 0) q ∙ z)) (run_within t h hm (next_lt m i im) jm z)
