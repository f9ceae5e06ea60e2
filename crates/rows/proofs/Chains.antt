-- The order of a described cache, walked by the links from the back.
-- Assumes nothing.
use Prim.Native.Nat.{ℕ, zero, suc, ◌≤◌, ◌<◌}
use mathlib.Core.List.{List, [], ◌∷◌, reverse, reverse-append}
use mathlib.Core.Path.{◌≡◌, refl, sym, ap, ◌∙◌, subst}
use native.Mathlib.Omega.{arith}
use lib.Dec.{eqb}
use lib.ListN.{length, get_or, take}
use lib.Seq.{take-suc, take-length}
use borrow.Author.Tests.{eq-eqb}
use Rattle.head.specs.declared.Head.{Head}
use Rattle.head.specs.Bounds.{none_mark}
use Rattle.head.specs.Walks.{walk}
use Rattle.model.specs.Codes.{one, count}
use Rattle.model.proofs.Counting.{times, of_reverse}
use Rattle.list.specs.Order.{last_or}
use Rattle.list.specs.Links.{Linked}
use Rattle.list.proofs.Walks.{walk_back, slot_back}
use Rattle.list.proofs.Within.{in_slots}

-- every number of the list is below n
abbrev pub Within : ℕ → List ℕ → Type 0
Within n [] = Unit {0}
Within n (x ∷ xs) = (x < n) × Within n xs

pub within : (n : ℕ) (l : List ℕ) → ((u : ℕ) → 1 ≤ count u l → u < n) → Within n l
within n [] h = tt
within n (x ∷ xs) h = (h x (let z : one (eqb x x) ≡ 1 = rw (eq-eqb x x refl) in omega arith), within n xs (λ u k. h u (omega arith)))

module _ {h : Head} {nx pv st o f : List ℕ} (d : Linked h nx pv st o f []) where
  back_from : (j : ℕ) → j ≤ length o → walk pv (last_or none_mark (take j o)) j ≡ reverse (take j o)
  unfolding walk
  back_from zero h = refl
  back_from (suc j) h =
      let l : j < length o = omega arith in
      let x = get_or o j 0 in
      let back : get_or pv x 0 ≡ last_or none_mark (take j o) = ap (λ (i : ℕ). get_or pv i 0) (sym (slot_back o j l)) ∙ walk_back d j l in
      let turned : reverse (take (suc j) o) ≡ x ∷ reverse (take j o) = ap reverse (take-suc o j 0 l) ∙ reverse-append (take j o) (x ∷ []) in
      rw (turned, slot_back o j l) (ap (λ (i : ℕ). x ∷ walk pv i j) back ∙ ap (λ (l : List ℕ). x ∷ l) (back_from j (omega arith)))

  live_order : length o ≡ h.live
  live_order = omega (arith, d.live)

  -- the prev links from the back
  pub back_walk : walk pv h.back.0 h.live ≡ reverse o
  back_walk =
      rw (d.back, ← live_order) (subst (λ (l : List ℕ). walk pv (last_or none_mark l) (length o) ≡ reverse l) (take-length o) (back_from (length o) (omega arith)))

  pub order_within : Within h.slots o
  order_within = within h.slots o (λ u k. in_slots d u (omega arith))

  pub back_within : Within h.slots (reverse o)
  back_within = within h.slots (reverse o) (λ u k. in_slots d u (omega (arith, of_reverse (times u) o)))
