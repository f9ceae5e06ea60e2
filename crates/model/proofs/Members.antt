-- Members of a list and how often they are counted; lists without repeats.
-- Assumes nothing.
use Prim.Native.Nat.{ℕ, ◌≤◌}
use mathlib.Core.List.Memᴰ
use mathlib.Core.List.{List, [], ◌∷◌, Memᴰ}
use mathlib.Core.Logic.{⊎_elim}
use mathlib.Core.Path.{◌≡◌, refl, sym}
use native.Mathlib.Omega.{arith}
use lib.Dec.{eqb}
use borrow.Author.Tests.{eqb-true, eqb-false, eq-eqb}
use Rattle.model.specs.Codes.{one, count, Distinct}
use Rattle.model.proofs.Cases.{split}

pub counted_member : (u : ℕ) (l : List ℕ) → 1 ≤ count u l → Memᴰ u l
counted_member u [] h = absurd (omega arith)
counted_member u (x ∷ l) h =
    split (eqb u x)
    (λ t. Memᴰ.head (eqb-true u x t))
    (λ t. Memᴰ.tail (counted_member u l (let z : one (eqb u x) ≡ 0 = rw t in omega arith)))

pub member_counted : (u : ℕ) (l : List ℕ) → Memᴰ u l → 1 ≤ count u l
member_counted u [] m = absurd (Memᴰ.not-nil m)
member_counted u (x ∷ l) m =
    ⊎_elim
    (λ e. let z : one (eqb u x) ≡ 1 = rw (eq-eqb u x e) in omega arith)
    (λ k. omega (arith, member_counted u l k))
    (Memᴰ.cases_cons m)

pub uncounted : (u : ℕ) (l : List ℕ) → (Memᴰ u l → ⊥) → count u l ≡ 0
uncounted u l n = split (eqb (count u l) 0) (eqb-true (count u l) 0) (λ t. absurd (n (counted_member u l (omega (arith, eqb-false (count u l) 0 t)))))

-- ---- no number twice: the first is not among the rest, nor does the rest repeat one

pub distinct_first : (x : ℕ) (l : List ℕ) → Distinct (x ∷ l) → Memᴰ x l → ⊥
distinct_first x l d m = let z : one (eqb x x) ≡ 1 = rw (eq-eqb x x refl) in omega (arith, d x, member_counted x l m)

pub distinct_rest : (x : ℕ) (l : List ℕ) → Distinct (x ∷ l) → Distinct l
distinct_rest x l d u = omega (arith, d u)

pub distinct_more : (x : ℕ) (l : List ℕ) → (Memᴰ x l → ⊥) → Distinct l → Distinct (x ∷ l)
distinct_more x l n d u =
    split (eqb u x)
    (λ t. let z : one (eqb u x) ≡ 1 = rw t in omega (arith, uncounted u l (λ m. n (Memᴰ.cast (sym (eqb-true u x t)) m))))
    (λ t. let z : one (eqb u x) ≡ 0 = rw t in omega (arith, d u))
