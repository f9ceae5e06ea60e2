-- Two numbers compared: a count's one, an `ifeq`, a `below`, each in its cases.
-- Assumes nothing.
use Prim.Native.Nat.{ℕ, suc, ◌≤◌, ◌<◌}
use native.Mathlib.Omega.{arith}
use mathlib.Core.Path.{◌≡◌, refl, sym, ◌∙◌}
use mathlib.Core.Bool.{Bool, true, false}
use mathlib.Core.Logic.{◌⊎◌, inl, inr, ⊎_elim}
use lib.Dec.{eqb, ltb, eqb-suc-suc}
use borrow.Author.Tests.{eqb-true, eqb-false, ltb-true, ltb-false, eq-eqb, ne_eqb, lt-ltb, le-ltb}
use Rattle.model.specs.Codes.{one}
use Rattle.list.specs.Order.{ifeq, below}

pub same? : (x i : ℕ) → (x ≡ i) ⊎ (x ≡ i → ⊥)
same? x i = go (eqb x i) refl
  where
    go : (b : Bool) → eqb x i ≡ b → (x ≡ i) ⊎ (x ≡ i → ⊥)
    go true e = inl (eqb-true x i e)
    go false e = inr (eqb-false x i e)

pub under? : (i n : ℕ) → (i < n) ⊎ (n ≤ i)
under? i n = go (ltb i n) refl
  where
    go : (b : Bool) → ltb i n ≡ b → (i < n) ⊎ (n ≤ i)
    go true e = inl (ltb-true i n e)
    go false e = inr (ltb-false i n e)

-- what x adds to the count of i
pub hit : (x i : ℕ) → x ≡ i → one (eqb i x) ≡ 1
hit x i e = rw (eq-eqb i x (sym e)) refl

pub miss : (x i : ℕ) → (x ≡ i → ⊥) → one (eqb i x) ≡ 0
miss x i d = rw (ne_eqb i x (λ e. d (sym e))) refl

pub ifeq_same : (x i a b : ℕ) → x ≡ i → ifeq x i a b ≡ a
unfolding ifeq
ifeq_same x i a b e = rw (eq-eqb x i e) refl

pub ifeq_other : (x i a b : ℕ) → (x ≡ i → ⊥) → ifeq x i a b ≡ b
unfolding ifeq
ifeq_other x i a b h = rw (ne_eqb x i h) refl

pub ifeq_suc : (x i a b : ℕ) → ifeq (suc x) (suc i) a b ≡ ifeq x i a b
unfolding ifeq
ifeq_suc x i a b = rw eqb-suc-suc refl

-- to show that an ifeq is z, show it in both cases
pub ifeq_by : (x i a b z : ℕ) → (x ≡ i → a ≡ z) → ((x ≡ i → ⊥) → b ≡ z) → ifeq x i a b ≡ z
ifeq_by x i a b z f g =
    ⊎_elim (λ e. ifeq_same x i a b e ∙ f e) (λ h. ifeq_other x i a b h ∙ g h) (same? x i)

pub below_in : (i t : ℕ) → i < t → below i t ≡ 1
unfolding below
below_in i t h = rw (lt-ltb i t h) refl

pub below_out : (i t : ℕ) → t ≤ i → below i t ≡ 0
unfolding below
below_out i t h = rw (le-ltb i t h) refl

pub below_lt : (i t : ℕ) → 1 ≤ below i t → i < t
below_lt i t h = ⊎_elim (λ l. l) (λ g. omega (arith, below_out i t g)) (under? i t)

pub below_le : (i t : ℕ) → below i t ≤ 1
below_le i t = ⊎_elim (λ l. omega (arith, below_in i t l)) (λ g. omega (arith, below_out i t g)) (under? i t)
