-- What the tests of a walk and of a stack tell.
-- Assumes nothing.
use Prim.Native.Nat.{ℕ, zero, suc, ◌+◌, ◌≤◌, ◌<◌}
use native.Mathlib.Omega.{arith}
use mathlib.Core.Path.{◌≡◌, refl, sym, ap, ◌∙◌, subst}
use mathlib.Core.Bool.{Bool, true, ◌&&◌}
use mathlib.Core.Logic.{⊎_elim}
use mathlib.Core.List.{List, [], ◌∷◌}
use lib.ListN.{length, get_or}
use lib.Dec.{eqb, ltb}
use borrow.Author.Tests.{eqb-true, ltb-true}
use Rattle.head.specs.Bounds.{none_mark, unused_mark}
use Rattle.head.specs.Walks.{walk}
use Rattle.model.specs.Codes.{count}
use Rattle.model.proofs.Cases.{both}
use Rattle.list.specs.Order.{head_or, last_or, next_at, prev_at, place_at}
use Rattle.list.specs.Inspect.{all_from, walk_ok}
use Rattle.list.proofs.Marks.{same?, under?, hit, miss, ifeq_by}

pub and_l : (a b : Bool) → (a && b) ≡ true → a ≡ true
and_l a b e = (both a b e).0

pub and_r : (a b : Bool) → (a && b) ≡ true → b ≡ true
and_r a b e = (both a b e).1

pub and_in : (a b : Bool) → a ≡ true → b ≡ true → (a && b) ≡ true
and_in a b p q = rw (p, q) refl

pub all_at : (k i : ℕ) (f : ℕ → Bool) → all_from k i f ≡ true → (j : ℕ) → i ≤ j → j < i + k → f j ≡ true
unfolding all_from
all_at zero i f e j lo hi = absurd (omega arith)
all_at (suc k) i f e j lo hi =
    ⊎_elim
    (λ q. subst (λ (m : ℕ). f m ≡ true) q (and_l (f i) _ e))
    (λ d. all_at k (suc i) f (and_r (f i) _ e) j (omega arith) (omega arith))
    (same? i j)

pub all_of : (k i : ℕ) (f : ℕ → Bool) → ((j : ℕ) → i ≤ j → j < i + k → f j ≡ true) → all_from k i f ≡ true
unfolding all_from
all_of zero i f h = refl
all_of (suc k) i f h =
    and_in (f i) _ (h i (omega arith) (omega arith)) (all_of k (suc i) f (λ j lo hi. h j (omega arith) (omega arith)))

-- ---- the walk

pub record Step (nx pv : List ℕ) (top back k last cur : ℕ) : Type 0 where
  pub low : cur < top
  pub linked : get_or pv cur 0 ≡ last
  pub more : walk_ok nx pv top back k cur (get_or nx cur 0) ≡ true

module _ (nx pv : List ℕ) (top back : ℕ) where
  step : (k last cur : ℕ) → walk_ok nx pv top back (suc k) last cur ≡ true → Step nx pv top back k last cur
  unfolding walk_ok
  step k last cur w = record {
    low = ltb-true cur top (and_l _ _ w);
    linked = eqb-true (get_or pv cur 0) last (and_l _ _ (and_r (ltb cur top) _ w));
    more = and_r (eqb (get_or pv cur 0) last) _ (and_r (ltb cur top) _ w);
  }

  end_cur : (last cur : ℕ) → walk_ok nx pv top back zero last cur ≡ true → cur ≡ none_mark
  unfolding walk_ok
  end_cur last cur w = eqb-true cur none_mark (and_l _ _ w)

  end_last : (last cur : ℕ) → walk_ok nx pv top back zero last cur ≡ true → last ≡ back
  unfolding walk_ok
  end_last last cur w = eqb-true last back (and_r (eqb cur none_mark) _ w)

  pub w_head : (k last cur : ℕ) → walk_ok nx pv top back k last cur ≡ true → head_or none_mark (walk nx cur k) ≡ cur
  unfolding walk
  w_head zero last cur w = sym (end_cur last cur w)
  w_head (suc k) last cur w = refl

  pub w_last : (k last cur : ℕ) → walk_ok nx pv top back k last cur ≡ true → last_or last (walk nx cur k) ≡ back
  unfolding walk
  w_last zero last cur w = end_last last cur w
  w_last (suc k) last cur w = w_last k cur (get_or nx cur 0) (step k last cur w).more

  pub w_top : (k last cur : ℕ) → walk_ok nx pv top back k last cur ≡ true → (i : ℕ) → 1 ≤ count i (walk nx cur k) → i < top
  unfolding walk
  w_top zero last cur w i c = absurd (omega arith)
  w_top (suc k) last cur w i c =
      let s = step k last cur w in
      ⊎_elim
      (λ e. omega (arith, s.low))
      (λ d. w_top k cur (get_or nx cur 0) s.more i (omega (arith, miss cur i d)))
      (same? cur i)

  pub w_next : (k last cur : ℕ) → walk_ok nx pv top back k last cur ≡ true → (i : ℕ) → 1 ≤ count i (walk nx cur k) → next_at (walk nx cur k) i ≡ get_or nx i 0
  unfolding walk
  w_next zero last cur w i c = absurd (omega arith)
  w_next (suc k) last cur w i c =
      let s = step k last cur w in
      ifeq_by cur i _ _ _
      (λ e. w_head k cur (get_or nx cur 0) s.more ∙ ap (λ (j : ℕ). get_or nx j 0) e)
      (λ d. w_next k cur (get_or nx cur 0) s.more i (omega (arith, miss cur i d)))

  pub w_prev : (k last cur : ℕ) → walk_ok nx pv top back k last cur ≡ true → (i d : ℕ) → 1 ≤ count i (walk nx cur k) → prev_at last (walk nx cur k) i d ≡ get_or pv i 0
  unfolding walk
  w_prev zero last cur w i d c = absurd (omega arith)
  w_prev (suc k) last cur w i d c =
      let s = step k last cur w in
      ifeq_by cur i _ _ _
      (λ e. sym s.linked ∙ ap (λ (j : ℕ). get_or pv j 0) e)
      (λ n. w_prev k cur (get_or nx cur 0) s.more i d (omega (arith, miss cur i n)))

  w_cur : (k last cur : ℕ) → top ≤ unused_mark → walk_ok nx pv top back k last cur ≡ true → cur ≡ unused_mark → ⊥
  w_cur zero last cur t w e = omega (arith, end_cur last cur w)
  w_cur (suc k) last cur t w e = omega (arith, (step k last cur w).low)

  pub w_used : (k last cur : ℕ) → top ≤ unused_mark → walk_ok nx pv top back k last cur ≡ true → (i : ℕ) → 1 ≤ count i (walk nx cur k) → get_or nx i 0 ≡ unused_mark → ⊥
  unfolding walk
  w_used zero last cur t w i c e = omega arith
  w_used (suc k) last cur t w i c e =
      let s = step k last cur w in
      ⊎_elim
      (λ q. w_cur k cur (get_or nx cur 0) t s.more (ap (λ (j : ℕ). get_or nx j 0) q ∙ e))
      (λ d. w_used k cur (get_or nx cur 0) t s.more i (omega (arith, miss cur i d)) e)
      (same? cur i)

  -- the slot that a slot of the walk is linked back to stands in the walk, or just before it
  w_back : (k last cur : ℕ) → walk_ok nx pv top back k last cur ≡ true → (i : ℕ) → 1 ≤ count i (walk nx cur k) → 1 ≤ count (get_or pv i 0) (last ∷ walk nx cur k)
  unfolding walk
  w_back zero last cur w i c = absurd (omega arith)
  w_back (suc k) last cur w i c =
      let s = step k last cur w in
      ⊎_elim
      (λ e. let q : last ≡ get_or pv i 0 = sym s.linked ∙ ap (λ (j : ℕ). get_or pv j 0) e in omega (arith, hit last (get_or pv i 0) q))
      (λ d. omega (arith, w_back k cur (get_or nx cur 0) s.more i (omega (arith, miss cur i d))))
      (same? cur i)

  -- no slot stands in the walk twice
  pub w_once : (k last cur : ℕ) → walk_ok nx pv top back k last cur ≡ true → count last (walk nx cur k) ≡ 0 → (i : ℕ) → count i (walk nx cur k) ≤ 1
  unfolding walk
  w_once zero last cur w z i = omega arith
  w_once (suc k) last cur w z i =
      let s = step k last cur w in
      let none_left : count cur (walk nx (get_or nx cur 0) k) ≡ 0 =
      ⊎_elim
      (λ (l : 0 < count cur (walk nx (get_or nx cur 0) k)). absurd (again s l))
      (λ (g : count cur (walk nx (get_or nx cur 0) k) ≤ 0). omega arith)
      (under? 0 (count cur (walk nx (get_or nx cur 0) k))) in
      ⊎_elim
      (λ e. let c0 : count i (walk nx (get_or nx cur 0) k) ≡ 0 = subst (λ (j : ℕ). count j (walk nx (get_or nx cur 0) k) ≡ 0) e none_left in omega (arith, hit cur i e))
      (λ d. omega (arith, miss cur i d, w_once k cur (get_or nx cur 0) s.more none_left i))
      (same? cur i)
    where
      again : Step nx pv top back k last cur → 1 ≤ count cur (walk nx (get_or nx cur 0) k) → ⊥
      again s l =
          let b : 1 ≤ count last (cur ∷ walk nx (get_or nx cur 0) k) =
          subst (λ (j : ℕ). 1 ≤ count j (cur ∷ walk nx (get_or nx cur 0) k)) s.linked (w_back k cur (get_or nx cur 0) s.more cur l) in
          omega arith

-- ---- the stack

-- each slot of f is below top, unused, and knows its place, counted from b
abbrev pub Placed : List ℕ → List ℕ → ℕ → List ℕ → ℕ → Type 0
Placed nx pv top f b =
    (k : ℕ) → k < length f → (get_or f k none_mark < top) × (get_or nx (get_or f k none_mark) 0 ≡ unused_mark) × (get_or pv (get_or f k none_mark) 0 ≡ b + k)

module _ (nx pv : List ℕ) (top : ℕ) where
  later : (x : ℕ) (f : List ℕ) (b : ℕ) → Placed nx pv top (x ∷ f) b → Placed nx pv top f (suc b)
  later x f b p k h = let q = p (suc k) (omega arith) in (q.0, q.1, omega (arith, q.2))

  pub f_top : (f : List ℕ) (b : ℕ) → Placed nx pv top f b → (i : ℕ) → 1 ≤ count i f → i < top
  f_top [] b p i c = absurd (omega arith)
  f_top (x ∷ f) b p i c =
      ⊎_elim
      (λ e. omega (arith, (p 0 (omega arith)).0))
      (λ d. f_top f (suc b) (later x f b p) i (omega (arith, miss x i d)))
      (same? x i)

  pub f_next : (f : List ℕ) (b : ℕ) → Placed nx pv top f b → (i : ℕ) → 1 ≤ count i f → get_or nx i 0 ≡ unused_mark
  f_next [] b p i c = absurd (omega arith)
  f_next (x ∷ f) b p i c =
      ⊎_elim
      (λ e. ap (λ (j : ℕ). get_or nx j 0) (sym e) ∙ (p 0 (omega arith)).1)
      (λ d. f_next f (suc b) (later x f b p) i (omega (arith, miss x i d)))
      (same? x i)

  pub f_place : (f : List ℕ) (b : ℕ) → Placed nx pv top f b → (i : ℕ) → 1 ≤ count i f → place_at b f i ≡ get_or pv i 0
  f_place [] b p i c = absurd (omega arith)
  f_place (x ∷ f) b p i c =
      ifeq_by x i _ _ _
      (λ e. let q : get_or pv x 0 ≡ get_or pv i 0 = ap (λ (j : ℕ). get_or pv j 0) e in omega (arith, (p 0 (omega arith)).2))
      (λ d. f_place f (suc b) (later x f b p) i (omega (arith, miss x i d)))

  f_low : (f : List ℕ) (b : ℕ) → Placed nx pv top f b → (i : ℕ) → 1 ≤ count i f → b ≤ get_or pv i 0
  f_low [] b p i c = absurd (omega arith)
  f_low (x ∷ f) b p i c =
      ⊎_elim
      (λ e. let q : get_or pv x 0 ≡ get_or pv i 0 = ap (λ (j : ℕ). get_or pv j 0) e in omega (arith, (p 0 (omega arith)).2))
      (λ d. omega (arith, f_low f (suc b) (later x f b p) i (omega (arith, miss x i d))))
      (same? x i)

  pub f_once : (f : List ℕ) (b : ℕ) → Placed nx pv top f b → (i : ℕ) → count i f ≤ 1
  f_once [] b p i = omega arith
  f_once (x ∷ f) b p i =
      ⊎_elim
      (λ e. ⊎_elim
      (λ (l : 0 < count i f). let q : get_or pv x 0 ≡ get_or pv i 0 = ap (λ (j : ℕ). get_or pv j 0) e in
      absurd (omega (arith, (p 0 (omega arith)).2, f_low f (suc b) (later x f b p) i l)))
      (λ (g : count i f ≤ 0). omega (arith, hit x i e))
      (under? 0 (count i f)))
      (λ d. omega (arith, miss x i d, f_once f (suc b) (later x f b p) i))
      (same? x i)
