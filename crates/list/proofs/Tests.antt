-- The tests of specs/Inspect.antt, one step at a time, as the loops run them.
-- Assumes nothing.
use Prim.Native.Nat.{ℕ, suc, ◌+◌, ◌-◌, ◌≤◌, ◌<◌}
use native.Mathlib.Omega.{arith}
use native.Mathlib.Numerals.{add-one}
use mathlib.Core.Path.{◌≡◌, refl, sym, ap, ◌∙◌, subst}
use mathlib.Core.Bool.{Bool, true, false, ◌&&◌}
use mathlib.Core.List.{List}
use lib.ListN.{length, get_or}
use lib.Dec.{eqb, ltb}
use borrow.Author.Tests.{lt-ltb, le-ltb, eq-eqb, ne_eqb}
use Rattle.std.specs.Bool.{MatchBool}
use Rattle.std.specs.List.{AllWithin, HoldsAt, range_with_len}
use Rattle.std.proofs.lemmas.List.FromFn.{get_or-range_with_len, length-range_with_len}
use Rattle.head.specs.Bounds.{none_mark}
use Rattle.list.specs.Inspect.{all_from, walk_ok}
use Rattle.list.proofs.Walked.{all_at, all_of}

pub all_step : (n k : ℕ) (f : ℕ → Bool) → k < n → all_from (n - k) k f ≡ (f k && all_from (n - (k + 1)) (k + 1) f)
unfolding all_from
all_step n k f h =
    let e : n - k ≡ suc (n - (k + 1)) = omega arith in
    ap (λ (j : ℕ). all_from j k f) e ∙ ap (λ (j : ℕ). f k && all_from (n - (k + 1)) j f) (sym (add-one k))

pub all_fail : (n k : ℕ) (f : ℕ → Bool) → k < n → f k ≡ false → all_from (n - k) k f ≡ false
all_fail n k f h e = all_step n k f h ∙ ap (λ (b : Bool). b && all_from (n - (k + 1)) (k + 1) f) e

pub all_more : (n k : ℕ) (f : ℕ → Bool) → k < n → f k ≡ true → all_from (n - k) k f ≡ all_from (n - (k + 1)) (k + 1) f
all_more n k f h e = all_step n k f h ∙ ap (λ (b : Bool). b && all_from (n - (k + 1)) (k + 1) f) e

pub all_end : (n k : ℕ) (f : ℕ → Bool) → n ≤ k → all_from (n - k) k f ≡ true
unfolding all_from
all_end n k f h = let e : n - k ≡ 0 = omega arith in ap (λ (j : ℕ). all_from j k f) e

pub all_start : (n : ℕ) (f : ℕ → Bool) → all_from n 0 f ≡ all_from (n - 0) 0 f
all_start n f = let e : n ≡ n - 0 = omega arith in ap (λ (j : ℕ). all_from j 0 f) e

-- what an `all` over a range answers
pub all_from_is : (a n : ℕ) (f : ℕ → Bool) (r : Bool)
    → MatchBool r
    (AllWithin (λ k. f k ≡ true) (range_with_len a n) 0 (length (range_with_len a n)))
    ((k : ℕ) × (k < length (range_with_len a n)) × HoldsAt (λ k. f k ≡ false) (range_with_len a n) k)
    → r ≡ all_from n a f
all_from_is a n f true h =
    sym
    (all_of n a f (λ j lo hi.
    let i : j - a < n = omega arith in
    let e : get_or (range_with_len a n) (j - a) 0 ≡ j = get_or-range_with_len a n (j - a) 0 i ∙ omega arith in
    subst (λ (m : ℕ). f m ≡ true) e (h (j - a) 0 (omega arith) (omega (arith, length-range_with_len a n)))))
all_from_is a n f false h = go (all_from n a f) refl
  where
    go : (b : Bool) → all_from n a f ≡ b → false ≡ b
    go false e = refl
    go true e =
        let i : h.0 < n = omega (arith, h.1, length-range_with_len a n) in
        let e' : get_or (range_with_len a n) h.0 0 ≡ a + h.0 = get_or-range_with_len a n h.0 0 i in
        sym (subst (λ (m : ℕ). f m ≡ false) e' (h.2 0)) ∙ all_at n a f e (a + h.0) (omega arith) (omega arith)

module _ (nx pv : List ℕ) (top back : ℕ) where
  pub walk_step : (left last cur : ℕ) → 0 < left
      → walk_ok nx pv top back left last cur ≡ (ltb cur top && (eqb (get_or pv cur 0) last && walk_ok nx pv top back (left - 1) cur (get_or nx cur 0)))
  unfolding walk_ok
  walk_step left last cur h =
      let e : left ≡ suc (left - 1) = omega arith in
      ap (λ (j : ℕ). walk_ok nx pv top back j last cur) e

  pub walk_far : (left last cur : ℕ) → 0 < left → top ≤ cur → walk_ok nx pv top back left last cur ≡ false
  walk_far left last cur h g = walk_step left last cur h ∙ rw (le-ltb cur top g) refl

  pub walk_miss : (left last cur : ℕ) → 0 < left → cur < top → (get_or pv cur 0 ≡ last → ⊥) → walk_ok nx pv top back left last cur ≡ false
  walk_miss left last cur h g d = walk_step left last cur h ∙ rw (lt-ltb cur top g, ne_eqb (get_or pv cur 0) last d) refl

  pub walk_more : (left last cur : ℕ) → 0 < left → cur < top → get_or pv cur 0 ≡ last
      → walk_ok nx pv top back left last cur ≡ walk_ok nx pv top back (left - 1) cur (get_or nx cur 0)
  walk_more left last cur h g d = walk_step left last cur h ∙ rw (lt-ltb cur top g, eq-eqb (get_or pv cur 0) last d) refl

  pub walk_end : (left last cur : ℕ) → left ≤ 0 → walk_ok nx pv top back left last cur ≡ (eqb cur none_mark && eqb last back)
  unfolding walk_ok
  walk_end left last cur h =
      let e : left ≡ 0 = omega arith in
      ap (λ (j : ℕ). walk_ok nx pv top back j last cur) e
