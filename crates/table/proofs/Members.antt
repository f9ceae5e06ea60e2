-- Which lists have the same members, all members but one; and a walk along links, step by step.
-- Assumes nothing.
use mathlib.Core.Path.{◌≡◌, sym, ap, ◌∙◌, subst}
use mathlib.Core.Logic.{◌≢◌, ⊎_elim}
use mathlib.Core.List.Memᴰ
use mathlib.Core.List.{List, [], ◌∷◌, ◌++◌, Memᴰ}
use Prim.Native.Nat.{ℕ, suc, ◌+◌, ◌-◌, ◌≤◌, ◌<◌, zero-le}
use native.Mathlib.Omega.{arith}
use borrow.Author.Tests.{eq-eqb, ne_eqb}
use lib.ListN.{length, get_or, length-append}
use Rattle.head.specs.Walks.{walk}
use Rattle.table.specs.Orders.{Same, Without, omit}
use Rattle.table.proofs.Ring.{eq_or_ne}

-- ---- without a number

omit_hit : (s x : ℕ) (xs : List ℕ) → x ≡ s → omit s (x ∷ xs) ≡ omit s xs
unfolding omit
omit_hit s x xs e = rw (eq-eqb x s e, omit)

omit_miss : (s x : ℕ) (xs : List ℕ) → x ≢ s → omit s (x ∷ xs) ≡ x ∷ omit s xs
unfolding omit
omit_miss s x xs e = rw (ne_eqb x s e, omit)

omit_short : (s : ℕ) (xs : List ℕ) → length (omit s xs) ≤ length xs
unfolding omit
omit_short s [] = zero-le
omit_short s (x ∷ xs) =
    ⊎_elim
    (λ (e : x ≡ s). omega (arith, ap length (omit_hit s x xs e), omit_short s xs))
    (λ e. omega (arith, ap length (omit_miss s x xs e), omit_short s xs))
    (eq_or_ne x s)

omit_keeps : (s : ℕ) (xs : List ℕ) (y : ℕ) → y ≢ s → Memᴰ y xs → Memᴰ y (omit s xs)
omit_keeps s [] y n h = absurd (Memᴰ.not-nil h)
omit_keeps s (x ∷ xs) y n h =
    ⊎_elim
    (λ (e : x ≡ s). subst (λ (l : List ℕ). Memᴰ y l) (sym (omit_hit s x xs e))
    (⊎_elim (λ (q : y ≡ x). absurd (n (q ∙ e))) (omit_keeps s xs y n) (Memᴰ.cases_cons h)))
    (λ e. subst (λ (l : List ℕ). Memᴰ y l) (sym (omit_miss s x xs e))
    (⊎_elim (λ (q : y ≡ x). Memᴰ.head q) (λ k. Memᴰ.tail (omit_keeps s xs y n k)) (Memᴰ.cases_cons h)))
    (eq_or_ne x s)

omit_other : (s : ℕ) (xs : List ℕ) (y : ℕ) → Memᴰ y (omit s xs) → Memᴰ y xs × (y ≢ s)
unfolding omit
omit_other s [] y h = absurd (Memᴰ.not-nil h)
omit_other s (x ∷ xs) y h =
    ⊎_elim
    (λ (e : x ≡ s). let r = omit_other s xs y (subst (λ (l : List ℕ). Memᴰ y l) (omit_hit s x xs e) h) in (Memᴰ.tail r.0, r.1))
    (λ e. ⊎_elim
    (λ (q : y ≡ x). (Memᴰ.head q, λ z. e (sym q ∙ z)))
    (λ k. let r = omit_other s xs y k in (Memᴰ.tail r.0, r.1))
    (Memᴰ.cases_cons (subst (λ (l : List ℕ). Memᴰ y l) (omit_miss s x xs e) h)))
    (eq_or_ne x s)

-- leaving a slot out by its number
pub omit_without : (s : ℕ) (order : List ℕ) → Without s order (omit s order)
omit_without s order = record { short = omit_short s order; keeps = omit_keeps s order; other = omit_other s order }

-- leaving a slot out at its place, if it stands nowhere else
pub place_without : (xs ys : List ℕ) (s : ℕ) → (Memᴰ s (xs ++ ys) → ⊥) → Without s (xs ++ s ∷ ys) (xs ++ ys)
place_without xs ys s n =
    record {
      short = omega (arith, length-append xs (s ∷ ys), length-append xs ys);
      keeps = λ x e h. ⊎_elim (λ k. Memᴰ.append_left ys k) (λ k. ⊎_elim (λ (q : x ≡ s). absurd (e q)) (λ w. Memᴰ.append_right xs w) (Memᴰ.cases_cons k)) (Memᴰ.append_cases xs h);
      other = λ x h. (⊎_elim (λ k. Memᴰ.append_left (s ∷ ys) k) (λ k. Memᴰ.append_right xs (Memᴰ.tail k)) (Memᴰ.append_cases xs h), λ q. n (Memᴰ.cast (sym q) h));
    }

-- ---- rearranged

-- a slot moved to the front
pub front_same : {s : ℕ} {order : List ℕ} → Memᴰ s order → Same order (s ∷ omit s order)
front_same {s} {order} m =
    record {
      to = λ x h. ⊎_elim (λ (q : x ≡ s). Memᴰ.head q) (λ n. Memᴰ.tail (omit_keeps s order x n h)) (eq_or_ne x s);
      from = λ x h. ⊎_elim (λ (q : x ≡ s). Memᴰ.cast q m) (λ k. (omit_other s order x k).0) (Memᴰ.cases_cons h);
    }

-- and it is no longer
pub front_short : {s : ℕ} {order : List ℕ} → Memᴰ s order → length (s ∷ omit s order) ≤ length order
front_short {s} (Memᴰ.head {x = x} {xs = xs} e) = omega (arith, ap length (omit_hit s x xs (sym e)), omit_short s xs)
front_short {s} (Memᴰ.tail {x = x} {xs = xs} h) =
    ⊎_elim
    (λ (e : x ≡ s). omega (arith, ap length (omit_hit s x xs e), omit_short s xs))
    (λ e. omega (arith, ap length (omit_miss s x xs e), front_short h))
    (eq_or_ne x s)

-- ---- walked by links

-- k slots are walked in all: behind i of them the walk goes on, or ends
pub walk_on : (next : List ℕ) (at k i : ℕ) → i < k → walk next at (k - i) ≡ at ∷ walk next (get_or next at 0) (k - (i + 1))
unfolding walk
walk_on next at k i h = let z : k - i ≡ suc (k - (i + 1)) = omega arith in ap (walk next at) z

pub walk_end : (next : List ℕ) (at k i : ℕ) → k ≤ i → walk next at (k - i) ≡ []
unfolding walk
walk_end next at k i h = let z : k - i ≡ 0 = omega arith in ap (walk next at) z
