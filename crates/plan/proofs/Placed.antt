-- The place of a slot is where it stands.
-- Assumes nothing.
use Prim.Native.Nat.{ℕ, zero, suc, ◌≤◌}
use mathlib.Core.List.{List, [], ◌∷◌, head-eq_of_cons-eq}
use mathlib.Core.Path.{◌≡◌, refl, ap}
use native.Mathlib.Omega.{arith}
use lib.Dec.{eqb}
use borrow.Author.Tests.{eqb-true, eq-eqb}
use Rattle.model.specs.Lists.{only}
use Rattle.model.specs.Codes.{count}
use Rattle.model.proofs.Cases.{split}
use Rattle.list.proofs.Marks.{hit}
use Rattle.store.proofs.Gathered.{only_in}
use Rattle.plan.specs.Plans.{place_of}

-- a slot that stands once, at place i, has that place
pub place_at_lem : (i s : ℕ) (order : List ℕ) → only i order ≡ s ∷ [] → count s order ≤ 1 → place_of s order ≡ i
place_at_lem i s [] o k = absurd (let z : 0 ≡ count s (s ∷ []) = ap (count s) o in let y = hit s s refl in omega arith)
place_at_lem zero s (t ∷ ts) o k = rw (eq-eqb t s (head-eq_of_cons-eq o))
place_at_lem (suc i) s (t ∷ ts) o k =
    split (eqb t s)
    (λ e. absurd (let z = hit t s (eqb-true t s e) in omega (arith, only_in i s ts o)))
    (λ e. rw e (ap suc (place_at_lem i s ts o (omega arith))))
