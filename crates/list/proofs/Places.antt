-- What stands at a place of a list, and the list without it.
-- Assumes nothing.
use Prim.Native.Nat.{ℕ, zero, suc, ◌≤◌}
use native.Mathlib.Omega.{arith}
use mathlib.Core.Path.{◌≡◌, refl, ap}
use mathlib.Core.Logic.{⊎_elim}
use mathlib.Core.List.{List, [], ◌∷◌, ◌++◌}
use lib.ListN.{length}
use Rattle.model.specs.Lists.{without, only}
use Rattle.model.specs.Codes.{count}
use Rattle.list.proofs.Marks.{same?, hit, miss}

-- the list around place i, where s stands
pub record Around (i s : ℕ) (l : List ℕ) : Type 0 where
  pub pre : List ℕ
  pub post : List ℕ
  pub is : l ≡ pre ++ s ∷ post
  pub less : without i l ≡ pre ++ post
  pub place : length pre ≡ i

further : (i s x : ℕ) (l : List ℕ) → Around i s l → Around (suc i) s (x ∷ l)
further i s x l r = record {
  pre = x ∷ r.pre;
  post = r.post;
  is = ap (λ (z : List ℕ). x ∷ z) r.is;
  less = ap (λ (z : List ℕ). x ∷ z) r.less;
  place = ap suc r.place;
}

pub around : (i s : ℕ) (l : List ℕ) → only i l ≡ s ∷ [] → Around i s l
around i s [] e = absurd (let z : ◌≡◌ {A = ℕ} 0 1 = ap length e in omega arith)
around zero s (x ∷ l) e =
    let q : x ≡ s = cc in
    record { pre = []; post = l; is = ap (λ (z : ℕ). z ∷ l) q; less = refl; place = refl }
around (suc i) s (x ∷ l) e = further i s x l (around i s l e)

-- where s stands
pub record Stands (s : ℕ) (l : List ℕ) : Type 0 where
  pub place : ℕ
  pub there : only place l ≡ s ∷ []

pub stands : (s : ℕ) (l : List ℕ) → 1 ≤ count s l → Stands s l
stands s [] h = absurd (omega arith)
stands s (x ∷ l) h =
    ⊎_elim
    (λ e. record { place = 0; there = ap (λ (z : ℕ). z ∷ []) e })
    (λ d. let r = stands s l (omega (arith, miss x s d)) in record { place = suc r.place; there = r.there })
    (same? x s)

pub only_count : (i s : ℕ) (l : List ℕ) → only i l ≡ s ∷ [] → 1 ≤ count s l
only_count i s [] e = absurd (let z : ◌≡◌ {A = ℕ} 0 1 = ap length e in omega arith)
only_count zero s (x ∷ l) e = let q : x ≡ s = cc in omega (arith, hit x s q)
only_count (suc i) s (x ∷ l) e = omega (arith, only_count i s l e)

-- with no number twice, s stands at one place: taking s out is taking that place out
pub one_place : (i j s : ℕ) (l : List ℕ) → only i l ≡ s ∷ [] → only j l ≡ s ∷ [] → count s l ≤ 1 → i ≡ j
one_place i j s [] e g h = absurd (let z : ◌≡◌ {A = ℕ} 0 1 = ap length e in omega arith)
one_place zero zero s (x ∷ l) e g h = refl
one_place zero (suc j) s (x ∷ l) e g h = let q : x ≡ s = cc in absurd (omega (arith, hit x s q, only_count j s l g))
one_place (suc i) zero s (x ∷ l) e g h = let q : x ≡ s = cc in absurd (omega (arith, hit x s q, only_count i s l e))
one_place (suc i) (suc j) s (x ∷ l) e g h = ap suc (one_place i j s l e g (omega arith))

pub length_without : (i s : ℕ) (l : List ℕ) → only i l ≡ s ∷ [] → suc (length (without i l)) ≡ length l
length_without i s [] e = absurd (let z : ◌≡◌ {A = ℕ} 0 1 = ap length e in omega arith)
length_without zero s (x ∷ l) e = refl
length_without (suc i) s (x ∷ l) e = ap suc (length_without i s l e)

-- a place in the middle
pub only_mid : (a : List ℕ) (s : ℕ) (b : List ℕ) → only (length a) (a ++ s ∷ b) ≡ s ∷ []
only_mid [] s b = refl
only_mid (x ∷ a) s b = only_mid a s b

pub without_mid : (a : List ℕ) (s : ℕ) (b : List ℕ) → without (length a) (a ++ s ∷ b) ≡ a ++ b
without_mid [] s b = refl
without_mid (x ∷ a) s b = ap (λ (z : List ℕ). x ∷ z) (without_mid a s b)
