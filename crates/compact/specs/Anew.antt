-- The links of a compact list: the slots below `live` in this order, those from there to `top` on the stack.
-- Assumes nothing.
use Rattle.std.specs.Prelude.{ℕ, ◌+◌, ◌-◌, ◌≤◌, ◌<◌, List, ◌≡◌, get_or}
use Rattle.head.specs.declared.Head.{Head}
use Rattle.head.specs.Bounds.{none_mark, unused_mark}
use Rattle.head.specs.Tails.{Tail}
use Rattle.list.specs.Links.{Rest}

-- r is the head's front
pub record FrontOf (live r : ℕ) : Type 0 where
  pub none : live ≡ 0 → r ≡ none_mark
  pub some : 0 < live → r ≡ 0

-- r is the head's back
pub record BackOf (live r : ℕ) : Type 0 where
  pub none : live ≡ 0 → r ≡ none_mark
  pub some : 0 < live → r ≡ live - 1

-- r is the head h of a list made compact, with this top
pub record HeadOf (h : Head) (t : ℕ) (r : Head) : Type 0 where
  pub rest : Rest h r
  pub live : r.live ≡ h.live
  pub front : FrontOf h.live r.front.0
  pub back : BackOf h.live r.back.0
  pub top : r.top.0 ≡ t
  pub depth : r.depth.0 ≡ t - h.live

-- r is slot i's next link
pub record NextOf (live i r : ℕ) : Type 0 where
  pub more : i + 1 < live → r ≡ i + 1
  pub last : i + 1 ≡ live → r ≡ none_mark
  pub out : live ≤ i → r ≡ unused_mark

-- r is slot i's prev link
pub record PrevOf (live top i r : ℕ) : Type 0 where
  pub first : i < live → i ≡ 0 → r ≡ none_mark
  pub more : i < live → 0 < i → r ≡ i - 1
  pub free : live ≤ i → i < top → r ≡ i - live
  pub out : live ≤ i → top ≤ i → r ≡ none_mark

-- r is the stack's cell k
pub record StackOf (live top k r : ℕ) : Type 0 where
  pub free : k < top - live → r ≡ live + k
  pub out : top - live ≤ k → r ≡ none_mark

-- the first n numbers of m are as R says of each place, the others those of l
pub record Filled (n : ℕ) (R : ℕ → ℕ → Type 0) (l m : List ℕ) : Type 0 where
  pub at : (i : ℕ) → i < n → R i (get_or m i 0)
  pub tail : Tail n l m
