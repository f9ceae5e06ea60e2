-- A code's rank in the recency list: its place, or the capacity if it is absent. How it changes when a code comes to the front.
-- Assumes nothing.
use Prim.Native.Nat.{ℕ, zero, suc, ◌+◌, ◌≤◌}
use mathlib.Core.Bool.{true, false, cond, true≢false}
use mathlib.Core.List.{List, [], ◌∷◌}
use mathlib.Core.Path.{◌≡◌, refl, ap, ◌∙◌}
use native.Mathlib.Omega.{arith}
use lib.Dec.{eqb}
use lib.ListN.{length, take}
use borrow.Author.Tests.{eqb-true}
use Rattle.model.specs.Codes.{has, Distinct}
use Rattle.model.proofs.Cases.{split, eqb_sym}
use Rattle.model.proofs.Sums.{total, total_le, total_add, total_ones, total_zero, at, at_most, at_least}

-- the list without the first c
abbrev pub minus : ℕ → List ℕ → List ℕ
minus c [] = []
minus c (x ∷ l) = cond (eqb c x) l (x ∷ minus c l)

pub minus_absent : (c : ℕ) (l : List ℕ) → has c l ≡ false → minus c l ≡ l
minus_absent c [] h = refl
minus_absent c (x ∷ l) h =
    split (eqb c x)
    (λ e. absurd (true≢false (rw e at h)))
    (λ e. let r = minus_absent c l (rw e at h) in rw (e, r))

-- the place of q among the first n of the list, or n
abbrev pub rank : ℕ → ℕ → List ℕ → ℕ
rank zero q l = zero
rank (suc n) q [] = suc n
rank (suc n) q (x ∷ l) = cond (eqb x q) zero (suc (rank n q l))

-- what the ranks in l of the codes of o sum to
abbrev pub ranks : ℕ → List ℕ → List ℕ → ℕ
ranks n l o = total (λ (q : ℕ). rank n q l) o

-- 1 if a is below b
abbrev below : ℕ → ℕ → ℕ
below a zero = 0
below zero (suc b) = 1
below (suc a) (suc b) = below a b

-- how many codes of o have a rank below i
abbrev lower : ℕ → List ℕ → ℕ → List ℕ → ℕ
lower n l i o = total (λ (q : ℕ). below (rank n q l) i) o

below_le_one : (a b : ℕ) → below a b ≤ 1
below_le_one a zero = omega arith
below_le_one zero (suc b) = omega arith
below_le_one (suc a) (suc b) = below_le_one a b

below_self : (a : ℕ) → below a a ≡ 0
below_self zero = refl
below_self (suc a) = below_self a

below_ge : (a b : ℕ) → b ≤ a → below a b ≡ 0
below_ge a zero h = refl
below_ge zero (suc b) h = absurd (omega arith)
below_ge (suc a) (suc b) h = below_ge a b (omega arith)

pub rank_le : (n q : ℕ) (l : List ℕ) → rank n q l ≤ n
rank_le zero q l = omega arith
rank_le (suc n) q [] = omega arith
rank_le (suc n) q (x ∷ l) = split (eqb x q) (λ e. rw e (omega arith)) (λ e. let r = rank_le n q l in rw e (omega arith))

-- an absent code has the rank n
rank_absent : (n c : ℕ) (l : List ℕ) → has c l ≡ false → rank n c l ≡ n
rank_absent zero c l h = refl
rank_absent (suc n) c [] h = refl
rank_absent (suc n) c (x ∷ l) h =
    split (eqb c x)
    (λ e. absurd (true≢false (rw e at h)))
    (λ e. let r = rank_absent n c l (rw e at h) in rw (eqb_sym x c, e) (ap suc r))

-- what is cut off behind the first n does not count
pub rank_take : (n j q : ℕ) (l : List ℕ) → n ≤ j → rank n q (take j l) ≡ rank n q l
rank_take zero j q l h = refl
rank_take (suc n) zero q l h = absurd (omega arith)
rank_take (suc n) (suc j) q [] h = refl
rank_take (suc n) (suc j) q (x ∷ l) h = ap (λ (z : ℕ). cond (eqb x q) zero (suc z)) (rank_take n j q l (omega arith))

-- a code other than c, with c taken out and one put in front: one place further back if it stood before c
fall : (n q c : ℕ) (l : List ℕ) → eqb c q ≡ false → suc (rank n q (minus c l)) ≤ rank (suc n) q l + below (rank (suc n) q l) (rank (suc n) c l)
fall zero q c [] h = omega arith
fall (suc n) q c [] h = omega arith
fall zero q c (x ∷ l) h =
    split (eqb x q)
    (λ f. let g : eqb x c ≡ false = eqb_sym x c ∙ (rw (← eqb-true x q f) at h) in rw (f, g) (omega arith))
    (λ f. rw f (omega arith))
fall (suc n) q c (x ∷ l) h =
    let r = fall n q c l h in
    split (eqb c x)
    (λ e. let g : eqb x q ≡ false = rw (eqb-true c x e) at h in rw (e, g) (omega arith))
    (λ e. split (eqb x q)
    (λ f. rw (eqb_sym x c, e, f) (omega arith))
    (λ f. rw (eqb_sym x c, e, f) (omega arith)))

below_cons : (n i q x : ℕ) (l : List ℕ) → below (rank (suc n) q (x ∷ l)) (suc i) ≤ at x 1 q + below (rank n q l) i
below_cons n i q x l = split (eqb x q) (λ e. rw e (omega arith)) (λ e. rw e (omega arith))

-- among distinct codes at most i have a rank below i
count_below : (n i : ℕ) (l o : List ℕ) → Distinct o → i ≤ n → lower n l i o ≤ i
count_below n zero l o d h = let z = total_zero o in omega arith
count_below zero (suc i) l o d h = absurd (omega arith)
count_below (suc n) (suc i) [] o d h =
    let z = total_zero o in
    let t = total_le (λ (q : ℕ). below n i) (λ (q : ℕ). 0) o (λ q. omega (arith, below_ge n i (omega arith))) in
    omega arith
count_below (suc n) (suc i) (x ∷ l) o d h =
    let r = count_below n i l o d (omega arith) in
    let m = at_most x 1 o (d x) in
    let s = total_add (at x 1) (λ (q : ℕ). below (rank n q l) i) o in
    let t = total_le (λ (q : ℕ). below (rank (suc n) q (x ∷ l)) (suc i)) (λ (q : ℕ). at x 1 q + below (rank n q l) i) o (λ q. below_cons n i q x l) in
    omega arith

other_one : (n c q : ℕ) (l : List ℕ) → below (rank (suc n) q l) (rank (suc n) c l) + at c 1 q ≤ 1
other_one n c q l =
    split (eqb c q)
    (λ e. let s : below (rank (suc n) q l) (rank (suc n) c l) ≡ 0 = rw (eqb-true c q e) (below_self (rank (suc n) q l)) in rw e (omega arith))
    (λ e. let s = below_le_one (rank (suc n) q l) (rank (suc n) c l) in rw e (omega arith))

-- c comes to the front; behind it stands t, in which no rank is above what it is in l without c
module _ (n c : ℕ) (l t : List ℕ) (fits : (q : ℕ) → rank n q t ≤ rank n q (minus c l)) where
  front_one : (q : ℕ) → rank (suc n) q (c ∷ t) + at c (rank (suc n) c l) q ≤ rank (suc n) q l + below (rank (suc n) q l) (rank (suc n) c l)
  front_one q =
      split (eqb c q)
      (λ e. let s = ap (λ (z : ℕ). rank (suc n) z l) (eqb-true c q e) in rw e (omega arith))
      (λ e. let r = fall n q c l e in rw e (omega (arith, fits q)))

  -- the ranks of a holding that has c: c gives up its rank, and those before it fall back by one
  front : (o : List ℕ) → has c o ≡ true
      → ranks (suc n) (c ∷ t) o + rank (suc n) c l ≤ ranks (suc n) l o + lower (suc n) l (rank (suc n) c l) o
  front o h =
      let i : ℕ = rank (suc n) c l in
      let m = at_least c i o h in
      let s = total_add (λ (q : ℕ). rank (suc n) q (c ∷ t)) (at c i) o in
      let u = total_add (λ (q : ℕ). rank (suc n) q l) (λ (q : ℕ). below (rank (suc n) q l) i) o in
      let r = total_le (λ (q : ℕ). rank (suc n) q (c ∷ t) + at c i q) (λ (q : ℕ). rank (suc n) q l + below (rank (suc n) q l) i) o front_one in
      omega arith

  -- ranks do not grow
  pub front_any : (o : List ℕ) → Distinct o → has c o ≡ true
      → ranks (suc n) (c ∷ t) o ≤ ranks (suc n) l o
  front_any o d h =
      let r = front o h in
      let b = count_below (suc n) (rank (suc n) c l) l o d (rank_le (suc n) c l) in
      omega arith

  -- where c was absent they fall by n + 1, less one for each other code held
  pub front_new : (o : List ℕ) → has c o ≡ true → has c l ≡ false
      → ranks (suc n) (c ∷ t) o + suc n + 1 ≤ ranks (suc n) l o + length o
  front_new o h a =
      let i : ℕ = rank (suc n) c l in
      let r = front o h in
      let m = at_least c 1 o h in
      let e = rank_absent (suc n) c l a in
      let s = total_add (λ (q : ℕ). below (rank (suc n) q l) i) (at c 1) o in
      let u = total_ones o in
      let v = total_le (λ (q : ℕ). below (rank (suc n) q l) i + at c 1 q) (λ (q : ℕ). 1) o (λ q. other_one n c q l) in
      omega arith
