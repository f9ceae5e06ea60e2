-- Sums over the codes of a list, and how they grow from one holding of a keeper to the next.
-- Assumes nothing.
use Prim.Native.Nat.{ℕ, ◌+◌, ◌*◌, ◌≤◌}
use mathlib.Core.Bool.{Bool, true, false, cond, false≢true}
use mathlib.Core.List.{List, [], ◌∷◌}
use mathlib.Core.Path.{◌≡◌, refl, ap}
use native.Mathlib.Omega.{arith}
use lib.Dec.{eqb}
use lib.ListN.{length}
use borrow.Author.Tests.{eqb-true}
use Rattle.model.specs.Codes.{count, has, Distinct}
use Rattle.model.specs.Runs.{arrivals}
use Rattle.model.proofs.Cases.{split, eqb_sym}

unfoldable pub total : (ℕ → ℕ) → List ℕ → ℕ
total f [] = 0
total f (q ∷ o) = f q + total f o

pub total_le : (f g : ℕ → ℕ) (o : List ℕ) → ((q : ℕ) → f q ≤ g q) → total f o ≤ total g o
unfolding total
total_le f g [] h = omega arith
total_le f g (q ∷ o) h = let r = total_le f g o h in omega (arith, h q)

pub total_add : (f g : ℕ → ℕ) (o : List ℕ) → total (λ (q : ℕ). f q + g q) o ≡ total f o + total g o
unfolding total
total_add f g [] = refl
total_add f g (q ∷ o) = let r = total_add f g o in omega arith

pub total_ones : (o : List ℕ) → total (λ (q : ℕ). 1) o ≡ length o
unfolding total
total_ones [] = refl
total_ones (q ∷ o) = let r = total_ones o in omega arith

pub total_zero : (o : List ℕ) → total (λ (q : ℕ). 0) o ≡ 0
unfolding total
total_zero [] = refl
total_zero (q ∷ o) = let r = total_zero o in omega arith

-- v at x, and 0 elsewhere
abbrev pub at : ℕ → ℕ → ℕ → ℕ
at x v q = cond (eqb x q) v 0

at_none : (x v : ℕ) (o : List ℕ) → count x o ≤ 0 → total (at x v) o ≡ 0
unfolding total
at_none x v [] h = refl
at_none x v (q ∷ o) h =
    let r = at_none x v o (omega arith) in
    split (eqb x q)
    (λ e. let z : 1 + count x o ≤ 0 = rw e at h in absurd (omega arith))
    (λ e. rw e (omega arith))

pub at_most : (x v : ℕ) (o : List ℕ) → count x o ≤ 1 → total (at x v) o ≤ v
unfolding total
at_most x v [] h = omega arith
at_most x v (q ∷ o) h =
    split (eqb x q)
    (λ e. let z : 1 + count x o ≤ 1 = rw e at h in let r = at_none x v o (omega arith) in rw e (omega arith))
    (λ e. let r = at_most x v o (omega arith) in rw e (omega arith))

pub at_least : (x v : ℕ) (o : List ℕ) → has x o ≡ true → v ≤ total (at x v) o
unfolding total
at_least x v [] h = absurd (false≢true h)
at_least x v (q ∷ o) h =
    split (eqb x q)
    (λ e. rw e (omega arith))
    (λ e. let r = at_least x v o (rw e at h) in rw e (omega arith))

cond_le : (b : Bool) (v : ℕ) → cond b v 0 ≤ v
cond_le true v = omega arith
cond_le false v = omega arith

-- f of a code that the list has, else 0
abbrev inside : (ℕ → ℕ) → List ℕ → ℕ → ℕ
inside f p q = cond (has q p) (f q) 0

inside_one : (f : ℕ → ℕ) (x : ℕ) (p : List ℕ) (q : ℕ) → inside f (x ∷ p) q ≤ at x (f x) q + inside f p q
inside_one f x p q =
    split (eqb x q)
    (λ e. let l = cond_le (has q (x ∷ p)) (f q) in let s = ap f (eqb-true x q e) in rw e (omega arith))
    (λ e. rw (eqb_sym q x, e) (omega arith))

-- what distinct codes sum to inside a list is at most what that list sums to
within : (f : ℕ → ℕ) (p o : List ℕ) → Distinct o → total (inside f p) o ≤ total f p
unfolding total
within f [] o d = let r = total_zero o in omega arith
within f (x ∷ p) o d =
    let r = within f p o d in
    let m = at_most x (f x) o (d x) in
    let s = total_add (at x (f x)) (inside f p) o in
    let t = total_le (inside f (x ∷ p)) (λ (q : ℕ). at x (f x) q + inside f p q) o (inside_one f x p) in
    omega arith

spare : (f : ℕ → ℕ) (C : ℕ) → ((q : ℕ) → f q ≤ C) → (p o : List ℕ) → total f o ≤ total (inside f p) o + C * arrivals p o
unfolding total
spare f C h p [] = omega arith
spare f C h p (q ∷ o) =
    let r = spare f C h p o in
    split (has q p) (λ e. rw e (omega arith)) (λ e. rw e (omega (arith, h q)))

-- from the holding p to the holding o, what f sums to grows by at most C for each code that arrives, if f is at most C
pub grows : (f : ℕ → ℕ) (C : ℕ) → ((q : ℕ) → f q ≤ C) → (p o : List ℕ) → Distinct o → total f o ≤ total f p + C * arrivals p o
grows f C h p o d = let r = spare f C h p o in let s = within f p o d in omega arith
