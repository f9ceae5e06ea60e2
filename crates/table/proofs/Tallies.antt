-- The count of the cells that are not empty: the loop of `count_full`, and what its answer says.
-- Assumes nothing.
use mathlib.Core.Path.{◌≡◌, refl, sym, ap, ◌∙◌, subst}
use mathlib.Core.Bool.{Bool, true, false, cond, ◌&&◌, ◌||◌, false≢true}
use mathlib.Core.Logic.{◌≢◌, ⊎_elim}
use mathlib.Core.List.{List, [], ◌∷◌}
use Prim.Native.Nat.{ℕ, zero, suc, ◌+◌, ◌≤◌, ◌<◌, zero-le, suc-le-suc}
use native.Mathlib.Nat.{not-suc-le-zero, le_of_suc-le-suc}
use native.Mathlib.Numerals.{add-one}
use native.Mathlib.Omega.{arith}
use borrow.Author.Count.{below_more}
use borrow.Author.Tests.{eqb-true, eq-eqb, ne_eqb, lt-ltb, le-ltb}
use lib.Dec.{eqb, ltb}
use lib.ListN.{length, get_or, take}
use lib.Seq.{take-suc, take-length, get_or-take, length-take-le}
use Rattle.std.specs.Prelude.{Option, Some, None, nat_eq}
use Rattle.std.specs.Option.{option_eq}
use Rattle.head.specs.Bounds.{none_mark}
use Rattle.table.specs.Acts.{filled, all_below, tallied, counts}
use Rattle.table.proofs.Ring.{eq_or_ne, lt_or_le}
use Rattle.table.proofs.Count.{filled_none, filled_some, filled_append}

-- ---- the loop that counts: i numbers of a list are counted, k of them are not none

pub record Counting (xs : List ℕ) (top k i : ℕ) : Type 0 where
  pub k_le : k ≤ i
  pub k_is : k ≡ filled (take i xs)
  pub below : (p : ℕ) → p < i → get_or xs p 0 ≢ none_mark → get_or xs p 0 < top

filled_one : (x : ℕ) → x ≢ none_mark → filled (x ∷ []) ≡ 1
unfolding filled
filled_one x n = filled_some x [] n

filled_no : (x : ℕ) → x ≡ none_mark → filled (x ∷ []) ≡ 0
unfolding filled
filled_no x n = filled_none x [] n

next_cell : (cells : List ℕ) (i : ℕ) → i < length cells → filled (take (i + 1) cells) ≡ filled (take i cells) + filled (get_or cells i 0 ∷ [])
next_cell cells i h = ap (λ (j : ℕ). filled (take j cells)) (add-one i) ∙ ap filled (take-suc cells i 0 h) ∙ filled_append (take i cells) (get_or cells i 0 ∷ [])

module _ {xs : List ℕ} {top k i : ℕ} (l : i < length xs) (c : Counting xs top k i) where
  grown : (get_or xs i 0 ≢ none_mark → get_or xs i 0 < top) → (p : ℕ) → p < i + 1 → get_or xs p 0 ≢ none_mark → get_or xs p 0 < top
  grown h = below_more (λ (p : ℕ). get_or xs p 0 ≢ none_mark → get_or xs p 0 < top) i c.below h

  pub count_none : get_or xs i 0 ≡ none_mark → Counting xs top k (i + 1)
  count_none e =
      record {
        k_le = omega (arith, c.k_le);
        k_is = omega (arith, c.k_is, next_cell xs i l, filled_no (get_or xs i 0) e);
        below = grown (λ n. absurd (n e));
      }

  pub count_some : get_or xs i 0 ≢ none_mark → get_or xs i 0 < top → Counting xs top (k + 1) (i + 1)
  count_some n h =
      record {
        k_le = omega (arith, c.k_le);
        k_is = omega (arith, c.k_is, next_cell xs i l, filled_one (get_or xs i 0) n);
        below = grown (λ _. h);
      }

pub count_start : (xs : List ℕ) (top : ℕ) → Counting xs top 0 0
unfolding filled
count_start xs top = record { k_le = zero-le; k_is = refl; below = λ p h. absurd (not-suc-le-zero h) }

-- ---- what the count says

and_false : (b : Bool) → (b && false) ≡ false
and_false true = refl
and_false false = refl

all_is : (b : Bool) (x k : ℕ) → cond b (Some x) None ≡ Some k → k ≡ x
all_is true x k e = let w : Some x ≡ Some k = e in cc
all_is false x k e = let w : None ≡ Some k = e in let z : ◌≡◌ {A = ℕ} 0 1 = cc in absurd (omega arith)

all_below_true : (top : ℕ) (xs : List ℕ) → ((p : ℕ) → p < length xs → get_or xs p 0 ≢ none_mark → get_or xs p 0 < top) → all_below top xs ≡ true
unfolding all_below
all_below_true top [] h = refl
all_below_true top (x ∷ xs) h =
    let r = all_below_true top xs (λ p l. h (suc p) (suc-le-suc l)) in
    ⊎_elim
    (λ (e : x ≡ none_mark). rw (eq-eqb x none_mark e, all_below) r)
    (λ e. rw (ne_eqb x none_mark e, lt-ltb x top (h 0 (suc-le-suc zero-le) e), all_below) r)
    (eq_or_ne x none_mark)

-- one number that is not below top
all_below_false : (top : ℕ) (xs : List ℕ) (p : ℕ) → p < length xs → get_or xs p 0 ≢ none_mark → top ≤ get_or xs p 0 → all_below top xs ≡ false
unfolding all_below
all_below_false top [] p l n h = absurd (not-suc-le-zero l)
all_below_false top (x ∷ xs) zero l n h = rw (ne_eqb x none_mark n, le-ltb x top h, all_below)
all_below_false top (x ∷ xs) (suc p) l n h =
    let r : all_below top xs ≡ false = all_below_false top xs p (le_of_suc-le-suc l) n h in
    rw r (and_false (eqb x none_mark || ltb x top))

pub tallied_all : (top : ℕ) (xs : List ℕ) → ((p : ℕ) → p < length xs → get_or xs p 0 ≢ none_mark → get_or xs p 0 < top) → tallied top xs ≡ Some (filled xs)
unfolding tallied
tallied_all top xs h = rw (all_below_true top xs h)

pub tallied_stray : (top : ℕ) (xs : List ℕ) (p : ℕ) → p < length xs → get_or xs p 0 ≢ none_mark → top ≤ get_or xs p 0 → tallied top xs ≡ None
unfolding tallied
tallied_stray top xs p l n h = rw (all_below_false top xs p l n h)

pub counted_all : {xs : List ℕ} {top k i : ℕ} → i ≡ length xs → Counting xs top k i → Some k ≡ tallied top xs
counted_all {xs} {top} {k} {i} e c =
    ap (λ (j : ℕ). Some j) (c.k_is ∙ ap (λ (j : ℕ). filled (take j xs)) e ∙ ap filled (take-length xs))
    ∙ sym (tallied_all top xs (λ p l. c.below p (omega arith)))

pub counted_stray : (xs : List ℕ) {top i : ℕ} → i < length xs → get_or xs i 0 ≢ none_mark → top ≤ get_or xs i 0 → None ≡ tallied top xs
counted_stray xs {top} {i} l n h = sym (tallied_stray top xs i l n h)

module _ (top m : ℕ) (cells : List ℕ) (wide : m ≤ length cells) where
  size : length (take m cells) ≡ m
  size = length-take-le m cells wide

  at : (p : ℕ) → p < m → get_or (take m cells) p 0 ≡ get_or cells p 0
  at p l = get_or-take m cells p 0 l

  pub tallied_here : ((p : ℕ) → p < m → get_or cells p 0 ≢ none_mark → get_or cells p 0 < top) → tallied top (take m cells) ≡ Some (filled (take m cells))
  tallied_here h =
      tallied_all top (take m cells) (λ p l n.
      let l' : p < m = omega (arith, size) in
      subst (λ (x : ℕ). x < top) (sym (at p l')) (h p l' (λ z. n (at p l' ∙ z))))

  -- what an answer says of the cells
  pub tallied_below : {k : ℕ} → tallied top (take m cells) ≡ Some k → (k ≡ filled (take m cells)) × ((p : ℕ) → p < m → get_or cells p 0 ≢ none_mark → get_or cells p 0 < top)
  unfolding tallied
  tallied_below {k} e = (all_is (all_below top (take m cells)) (filled (take m cells)) k e, below)
    where
      below : (p : ℕ) → p < m → get_or cells p 0 ≢ none_mark → get_or cells p 0 < top
      below p l n =
          ⊎_elim (λ h. h)
          (λ h. let w : None ≡ Some k = sym (tallied_stray top (take m cells) p (omega (arith, size)) (λ z. n (sym (at p l) ∙ z)) (omega (arith, at p l))) ∙ e in
          let z : ◌≡◌ {A = ℕ} 0 1 = cc in
          absurd (omega arith))
          (lt_or_le (get_or cells p 0) top)

-- ---- a count compared

pub counts_all : (k : ℕ) (t : Option ℕ) → counts k t ≡ true → t ≡ Some k
unfolding counts
counts_all k (Some j) e = ap (λ (x : ℕ). Some x) (eqb-true j k e)
counts_all k None e = absurd (false≢true e)

pub all_counts : (k : ℕ) (t : Option ℕ) → t ≡ Some k → counts k t ≡ true
unfolding counts
all_counts k t e = ap (counts k) e ∙ eq-eqb k k refl

-- that is how the code compares a count with k
pub counts_same : (k : ℕ) (t : Option ℕ) → option_eq nat_eq t (Some k) ≡ counts k t
unfolding counts
counts_same k None = refl
counts_same k (Some j) = refl
