-- What a description says of a slot, and what it gives a call that asks for numbers.
-- Assumes nothing.
use Prim.Native.Nat.{ℕ, ◌+◌, ◌≤◌, ◌<◌}
use native.Mathlib.Omega.{arith}
use mathlib.Core.Path.{◌≡◌, refl}
use mathlib.Core.List.{List, [], ◌∷◌}
use lib.ListN.{length}
use Rattle.head.specs.declared.Head.{Head}
use Rattle.head.specs.Bounds.{none_mark}
use Rattle.model.specs.Lists.{only}
use Rattle.model.specs.Codes.{count}
use Rattle.list.specs.Links.{Linked}
use Rattle.list.specs.Promises.{Room, Stackable, Vacant, Held, Spare, Enough}
use Rattle.list.proofs.Marks.{hit, below_lt, below_le}
use Rattle.list.proofs.Places.{only_count}

module _ {h : Head} {nx pv st o f t : List ℕ} (d : Linked h nx pv st o f t) where
  -- a slot that is described is below top
  pub in_top : (i : ℕ) → 1 ≤ count i o + count i f + count i t → i < h.top.0
  in_top i c = below_lt i h.top.0 (omega (arith, d.each i))

  pub in_slots : (i : ℕ) → 1 ≤ count i o + count i f + count i t → i < h.slots
  in_slots i c = omega (arith, in_top i c, d.fit)

  -- it stands once, in the order, in the stack or among the others
  pub once : (i : ℕ) → count i o + count i f + count i t ≤ 1
  once i = omega (arith, d.each i, below_le i h.top.0)

  pub no_mark : (i : ℕ) → i < h.slots → none_mark ≡ i → ⊥
  no_mark i hi e = omega (arith, d.long.small)

  pub room : (i s : ℕ) → only i o ≡ s ∷ [] → Room h nx pv s
  room i s e = record { slot = in_slots s (omega (arith, only_count i s o e)); nexts = d.long.nexts; prevs = d.long.prevs }

  -- where fewer slots are in use than there are, one can be taken
  pub vacant : h.live < h.slots → Vacant h st
  vacant v = record { small = d.long.small; stacks = d.long.stacks; some = v; deep = omega (arith, d.depth, d.size, d.fit); fit = d.fit }

  pub held : (i s : ℕ) → only i o ≡ s ∷ [] → Held h nx pv st s
  held i s e = record { order = o; free = f; others = t; place = i; there = e; linked = d }

  -- the same, as `push_front` asks it
  pub open_to : h.live < h.slots → Spare h nx pv st
  open_to v = record { order = o; free = f; others = t; linked = d; some = v }

  pub enough : (k : ℕ) → k ≤ length o → Enough h nx pv st k
  enough k v = record { order = o; free = f; others = t; linked = d; some = v }

-- a slot on its way
module _ {h : Head} {nx pv st o f t : List ℕ} {s : ℕ} (d : Linked h nx pv st o f (s ∷ t)) where
  pub room_loose : Room h nx pv s
  room_loose = record { slot = in_slots d s (omega (arith, hit s s refl)); nexts = d.long.nexts; prevs = d.long.prevs }

  pub stackable : Stackable h nx pv st s
  stackable = record { room = room_loose; stacks = d.long.stacks; some = omega (arith, d.live); deep = omega (arith, d.depth, d.size, d.fit) }

-- the others may be listed in any order
pub others_as : {h : Head} {nx pv st o f t : List ℕ} (u : List ℕ) → length u ≡ length t → ((i : ℕ) → count i u ≡ count i t) → Linked h nx pv st o f t → Linked h nx pv st o f u
others_as u l c d = record {
  long = d.long;
  live = omega (arith, d.live);
  depth = d.depth;
  size = omega (arith, d.size);
  fit = d.fit;
  each = λ i. omega (arith, d.each i, c i);
  front = d.front;
  back = d.back;
  nexts = λ i hi z. d.nexts i hi (omega (arith, c i));
  prevs = λ i hi z. d.prevs i hi (omega (arith, c i));
  stacks = d.stacks;
}
