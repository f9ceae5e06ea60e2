-- A head and its lent links describe an order of slots, a free stack, and other slots in use.
-- Assumes nothing.
use Rattle.std.specs.Prelude.{ℕ, ◌+◌, ◌≤◌, ◌<◌, ◌≡◌, List, [], length, get_or}
use Rattle.head.specs.declared.Head.{Head}
use Rattle.head.specs.Bounds.{none_mark, most_slots}
use Rattle.model.specs.Codes.{count}
use Rattle.list.specs.Order.{below, head_or, last_or, next_at, prev_at, place_at}

-- the links reach the slot count, which is small enough that a slot is no mark
pub record Long (h : Head) (nx pv st : List ℕ) : Type 0 where
  pub small : h.slots ≤ most_slots
  pub nexts : h.slots ≤ length nx
  pub prevs : h.slots ≤ length pv
  pub stacks : h.slots ≤ length st

-- the slots below top are those of `order`, front to back, those of the stack `free`, and `others`, in use, whose links are left open; each once
pub record Linked (h : Head) (nx pv st order free others : List ℕ) : Type 0 where
  pub long : Long h nx pv st
  pub live : h.live ≡ length order + length others
  pub depth : h.depth.0 ≡ length free
  pub size : length order + length free + length others ≡ h.top.0
  pub fit : h.top.0 ≤ h.slots
  pub each : (i : ℕ) → count i order + count i free + count i others ≡ below i h.top.0
  pub front : h.front.0 ≡ head_or none_mark order
  pub back : h.back.0 ≡ last_or none_mark order
  pub nexts : (i : ℕ) → i < h.slots → count i others ≡ 0 → get_or nx i 0 ≡ next_at order i
  pub prevs : (i : ℕ) → i < h.slots → count i others ≡ 0 → get_or pv i 0 ≡ prev_at none_mark order i (place_at 0 free i)
  pub stacks : (i : ℕ) → i < h.slots → get_or st i 0 ≡ get_or free i none_mark

-- some order and stack are described, with no other slot in use
pub record Sound (h : Head) (nx pv st : List ℕ) : Type 0 where
  pub order : List ℕ
  pub free : List ℕ
  pub linked : Linked h nx pv st order free []

-- what no list call changes
pub record Rest (h r : Head) : Type 0 where
  pub kind : r.kind ≡ h.kind
  pub capacity : r.capacity ≡ h.capacity
  pub slots : r.slots ≡ h.slots
  pub weight : r.weight ≡ h.weight
