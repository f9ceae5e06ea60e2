-- The public calls that are made of two steps, from what the steps leave.
-- Assumes nothing.
use Prim.Native.Nat.{ℕ}
use native.Mathlib.Omega.{arith}
use mathlib.Core.Path.{◌≡◌, refl, ◌∙◌, subst, subst⁻¹}
use mathlib.Core.List.{List, ◌∷◌, ◌++◌}
use Rattle.head.specs.declared.Head.{Head}
use Rattle.model.specs.Lists.{without, but_last}
use Rattle.list.specs.declared.Taken.{Taken}
use Rattle.list.specs.Links.{Linked}
use Rattle.list.specs.Promises.{Kept, Room, Unlinked, Fronted, Stackable, Released, Given, Held, Removed, Moved, Spare, Pushed}
use Rattle.list.proofs.Stores.{tail_trans, tail_at, rest_trans}
use Rattle.list.proofs.Within.{room, room_loose, stackable}

pub kept_none : (t nx pv : List ℕ) → Kept t nx pv nx pv
kept_none t nx pv = record { nexts = λ i c. refl; prevs = λ i c. refl }

pub kept_trans : {t nx pv nx1 pv1 nx2 pv2 : List ℕ} → Kept t nx pv nx1 pv1 → Kept t nx1 pv1 nx2 pv2 → Kept t nx pv nx2 pv2
kept_trans a b = record { nexts = λ i c. b.nexts i c ∙ a.nexts i c; prevs = λ i c. b.prevs i c ∙ a.prevs i c }

pub kept_fewer : {t nx pv nx1 pv1 : List ℕ} (s : ℕ) → Kept (s ∷ t) nx pv nx1 pv1 → Kept t nx pv nx1 pv1
kept_fewer s a = record { nexts = λ i c. a.nexts i (omega arith); prevs = λ i c. a.prevs i (omega arith) }

-- ---- unlinked, then put in front

module _ (h m r : Head) (nx pv nx1 pv1 nx' pv' : List ℕ) (s : ℕ) (u : Unlinked h m nx pv nx1 pv1 s) where
  -- a slot that lay within the lists lies within them still once it is unlinked
  pub room_after : Room h nx pv s → Room m nx1 pv1 s
  room_after p = record {
    slot = omega (arith, p.slot, u.rest.slots);
    nexts = omega (arith, p.nexts, u.rest.slots, u.next_tail.size);
    prevs = omega (arith, p.prevs, u.rest.slots, u.prev_tail.size);
  }

  pub moved : Fronted m r nx1 pv1 nx' pv' s → Moved h r nx pv nx' pv' s
  moved g = record {
    rest = rest_trans u.rest g.rest;
    next_tail = tail_trans u.next_tail (tail_at u.rest.slots g.next_tail);
    prev_tail = tail_trans u.prev_tail (tail_at u.rest.slots g.prev_tail);
    linked = λ st o f t i e d.
        subst⁻¹ (λ (l : List ℕ). Linked r nx' pv' st (l ++ without i o) f t) e (g.linked st (without i o) f t (u.linked st o f t i e d));
    kept = λ st o f t i e d. kept_trans (kept_fewer s (u.kept st o f t i e d)) (g.kept st (without i o) f t (u.linked st o f t i e d));
  }

-- ---- unlinked, then stacked

module _ (h : Head) (nx pv st : List ℕ) (s : ℕ) (p : Held h nx pv st s) where
  pub held_room : Room h nx pv s
  held_room = room p.linked p.place s p.there

  module _ (m : Head) (nx1 pv1 st1 : List ℕ) (u : Unlinked h m nx pv nx1 pv1 s) (q : st1 ≡ st) where
    pub held_stackable : Stackable m nx1 pv1 st1 s
    held_stackable = rw q (stackable (u.linked st p.order p.free p.others p.place p.there p.linked))

    pub removed : (r : Head) (nx' pv' st' : List ℕ) → Released m r nx1 pv1 st1 nx' pv' st' s → Removed h r nx pv st nx' pv' st' s
    removed r nx' pv' st' g₁ =
        let g : Released m r nx1 pv1 st nx' pv' st' s = subst (λ (l : List ℕ). Released m r nx1 pv1 l nx' pv' st' s) q g₁ in
        record {
          rest = rest_trans u.rest g.rest;
          next_tail = tail_trans u.next_tail (tail_at u.rest.slots g.next_tail);
          prev_tail = tail_trans u.prev_tail (tail_at u.rest.slots g.prev_tail);
          stack_tail = tail_at u.rest.slots g.stack_tail;
          linked = λ o f t i e d.
              subst⁻¹ (λ (l : List ℕ). Linked r nx' pv' st' (without i o) (f ++ l) t) e (g.linked (without i o) f t (u.linked st o f t i e d));
          kept = λ o f t i e d. kept_trans (kept_fewer s (u.kept st o f t i e d)) (g.kept (without i o) f t (u.linked st o f t i e d));
        }

-- ---- taken, then put in front

module _ (h : Head) (nx pv st : List ℕ) (p : Spare h nx pv st) (t : Taken) (st' : List ℕ) (g : Given h t st st') where
  pub taken_room : Room t.head nx pv t.slot.0
  taken_room = room_loose (g.linked nx pv p.order p.free p.others p.linked)

  pub pushed : (r : Head) (nx' pv' st1 : List ℕ) → st1 ≡ st' → Fronted t.head r nx pv nx' pv' t.slot.0
      → Pushed h (record { head = r; slot = t.slot }) nx pv st nx' pv' st1
  pushed r nx' pv' st1 q k = rw q record {
    rest = rest_trans g.rest k.rest;
    next_tail = tail_at g.rest.slots k.next_tail;
    prev_tail = tail_at g.rest.slots k.prev_tail;
    stack_tail = g.stack_tail;
    slot = g.slot nx pv;
    top = λ o f u d. same_top o f u (g.linked nx pv o f u d) ∙ g.top nx pv o f u d;
    linked = λ o f u d.
        subst (λ (j : ℕ). Linked r nx' pv' st' (j ∷ o) (but_last 1 f) u) (g.slot nx pv o f u d)
        (k.linked st' o (but_last 1 f) u (g.linked nx pv o f u d));
    kept = λ o f u d. k.kept st' o (but_last 1 f) u (g.linked nx pv o f u d);
  }
    where
      same_top : (o f u : List ℕ) → Linked t.head nx pv st' o (but_last 1 f) (t.slot.0 ∷ u) → r.top.0 ≡ t.head.top.0
      same_top o f u d = omega (arith, d.size, (k.linked st' o (but_last 1 f) u d).size)
