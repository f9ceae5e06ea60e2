-- Walking the order by its links: from the head's front with `after`, from its back with `ahead`, also while slots leave.
-- Assumes nothing.
use Prim.Native.Nat.{ℕ, suc, ◌+◌, ◌≤◌, ◌<◌}
use native.Mathlib.Omega.{arith}
use mathlib.Core.Path.{◌≡◌, refl, sym, ap, ◌∙◌, subst}
use mathlib.Core.Logic.{⊎_elim}
use mathlib.Core.List.{List, [], ◌∷◌, ◌++◌}
use lib.ListN.{length, get_or, take, drop}
use lib.Seq.{drop-cons, take-suc, split_at}
use Rattle.head.specs.declared.Head.{Head}
use Rattle.head.specs.Bounds.{none_mark, unused_mark}
use Rattle.model.specs.Lists.{without}
use Rattle.model.specs.Codes.{count}
use Rattle.model.proofs.Counting.{count_append}
use Rattle.list.specs.Order.{head_or, last_or, next_at, prev_at, place_at}
use Rattle.list.specs.Links.{Linked, Sound}
use Rattle.list.specs.Promises.{Held, Removed, Moved}
use Rattle.list.proofs.Marks.{same?, under?, hit, miss, ifeq_same, ifeq_other}
use Rattle.list.proofs.Chain.{last_append, next_at_lem, prev_at_lem, next_absent}
use Rattle.list.proofs.Places.{stands, only_mid, without_mid}
use Rattle.list.proofs.Within.{in_slots, once, held}

-- a slot of the order never has the unused mark
next_used : (n : ℕ) (o : List ℕ) (i : ℕ) → n ≤ unused_mark → ((j : ℕ) → 1 ≤ count j o → j < n) → 1 ≤ count i o → next_at o i ≡ unused_mark → ⊥
next_used n [] i hn all c e = omega arith
next_used n (x ∷ []) i hn all c e =
    ⊎_elim
    (λ q. let z : none_mark ≡ unused_mark = sym (ifeq_same x i _ _ q) ∙ e in omega arith)
    (λ q. omega (arith, miss x i q))
    (same? x i)
next_used n (x ∷ y ∷ o) i hn all c e =
    ⊎_elim
    (λ q. let z : y ≡ unused_mark = sym (ifeq_same x i _ _ q) ∙ e in omega (arith, all y (omega (arith, hit y y refl))))
    (λ q. next_used n (y ∷ o) i hn (λ j k. all j (omega arith)) (omega (arith, miss x i q)) (sym (ifeq_other x i _ _ q) ∙ e))
    (same? x i)

module _ {h : Head} {nx pv st o f t : List ℕ} (d : Linked h nx pv st o f t) where
  -- with the links of others left aside, the unused mark tells a slot of the order from the rest
  pub marked_unused : (i : ℕ) → i < h.slots → count i t ≡ 0 → count i o ≡ 0 → get_or nx i 0 ≡ unused_mark
  marked_unused i hi z c = d.nexts i hi z ∙ next_absent o i c

  pub marked_used : (i : ℕ) → 1 ≤ count i o → get_or nx i 0 ≡ unused_mark → ⊥
  marked_used i c e =
      next_used h.slots o i (omega (arith, d.long.small)) (λ j k. in_slots d j (omega arith)) c
      (sym (d.nexts i (in_slots d i (omega arith)) (omega (arith, once d i))) ∙ e)

  -- the head's front is the slot that the order begins with
  pub first_at : (x : ℕ) (b : List ℕ) → o ≡ x ∷ b → h.front.0 ≡ x
  first_at x b e = d.front ∙ ap (head_or none_mark) e

  -- and none where nothing is held
  pub none_at : o ≡ [] → h.front.0 ≡ none_mark
  none_at e = d.front ∙ ap (head_or none_mark) e

  module _ (a : List ℕ) (x : ℕ) (b : List ℕ) (e : o ≡ a ++ x ∷ b) where
    here : count x o ≡ count x a + count x (x ∷ b)
    here = ap (count x) e ∙ count_append x a (x ∷ b)

    pub successor : get_or nx x 0 ≡ head_or none_mark b
    successor =
        let k = hit x x refl in
        d.nexts x (in_slots d x (omega (arith, here))) (omega (arith, here, once d x))
        ∙ ap (λ (l : List ℕ). next_at l x) e ∙ next_at_lem a x b (omega (arith, here, once d x))

    pub predecessor : get_or pv x 0 ≡ last_or none_mark a
    predecessor =
        let k = hit x x refl in
        d.prevs x (in_slots d x (omega (arith, here))) (omega (arith, here, once d x))
        ∙ ap (λ (l : List ℕ). prev_at none_mark l x (place_at 0 f x)) e ∙ prev_at_lem none_mark a x b (place_at 0 f x) (omega (arith, here, once d x))

-- a slot without the unused mark stands in the order of a sound state
pub held_used : {h : Head} {nx pv st : List ℕ} (s : ℕ) → Sound h nx pv st → s < h.slots → (get_or nx s 0 ≡ unused_mark → ⊥) → Held h nx pv st s
held_used s w hs u =
    ⊎_elim
    (λ (l : 0 < count s w.order). let p = stands s w.order l in held w.linked p.place s p.there)
    (λ (g : count s w.order ≤ 0). absurd (u (marked_unused w.linked s hs refl (omega arith))))
    (under? 0 (count s w.order))

-- ---- by place

-- the slot at place j, from the front and from the back
pub slot_front : (o : List ℕ) (j : ℕ) → j < length o → head_or none_mark (drop j o) ≡ get_or o j 0
slot_front o j l = ap (head_or none_mark) (drop-cons o j 0 l)

pub slot_back : (o : List ℕ) (j : ℕ) → j < length o → last_or none_mark (take (suc j) o) ≡ get_or o j 0
slot_back o j l = ap (last_or none_mark) (take-suc o j 0 l) ∙ last_append none_mark (take j o) (get_or o j 0 ∷ [])

module _ {h : Head} {nx pv st o f t : List ℕ} (d : Linked h nx pv st o f t) (j : ℕ) (l : j < length o) where
  pub slot_in_lem : get_or o j 0 < h.slots
  slot_in_lem =
      let x = get_or o j 0 in
      let e : count x o ≡ count x (take j o) + count x (x ∷ drop (suc j) o) =
      ap (count x) (split_at o j 0 l) ∙ count_append x (take j o) (x ∷ drop (suc j) o) in
      in_slots d x (omega (arith, hit x x refl))

  -- a walk that has come to place j goes on to the next place
  pub walk_on : get_or nx (head_or none_mark (drop j o)) 0 ≡ head_or none_mark (drop (suc j) o)
  walk_on = ap (λ (i : ℕ). get_or nx i 0) (slot_front o j l) ∙ successor d (take j o) (get_or o j 0) (drop (suc j) o) (split_at o j 0 l)

  pub walk_back : get_or pv (last_or none_mark (take (suc j) o)) 0 ≡ last_or none_mark (take j o)
  walk_back = ap (λ (i : ℕ). get_or pv i 0) (slot_back o j l) ∙ predecessor d (take j o) (get_or o j 0) (drop (suc j) o) (split_at o j 0 l)

-- ---- a slot in the middle, named by what stands round it

module _ {h r : Head} {nx pv st nx' pv' f t : List ℕ} (a : List ℕ) (s : ℕ) (b : List ℕ) (d : Linked h nx pv st (a ++ s ∷ b) f t) where
  -- removed, it stands on the stack
  pub removed_mid : {st' : List ℕ} → Removed h r nx pv st nx' pv' st' s → Linked r nx' pv' st' (a ++ b) (f ++ s ∷ []) t
  removed_mid {st'} p =
      subst (λ (l : List ℕ). Linked r nx' pv' st' l (f ++ s ∷ []) t) (without_mid a s b)
      (subst (λ (l : List ℕ). Linked r nx' pv' st' (without (length a) (a ++ s ∷ b)) (f ++ l) t) (only_mid a s b)
      (p.linked (a ++ s ∷ b) f t (length a) (only_mid a s b) d))

  -- moved, it stands in front
  pub moved_mid : Moved h r nx pv nx' pv' s → Linked r nx' pv' st (s ∷ a ++ b) f t
  moved_mid p =
      subst (λ (l : List ℕ). Linked r nx' pv' st (s ∷ l) f t) (without_mid a s b)
      (subst (λ (l : List ℕ). Linked r nx' pv' st (l ++ without (length a) (a ++ s ∷ b)) f t) (only_mid a s b)
      (p.linked st (a ++ s ∷ b) f t (length a) (only_mid a s b) d))
