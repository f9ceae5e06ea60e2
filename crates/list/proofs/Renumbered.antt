-- The links see neither the capacity nor the weight.
-- Assumes nothing.
use Prim.Native.Nat.{ℕ}
use mathlib.Core.List.{List}
use Rattle.head.specs.declared.Head.{Head}
use Rattle.head.specs.Fresh.{renumbered}
use Rattle.list.specs.Links.{Linked}

pub renumbered_linked : {h : Head} {nx pv st order free others : List ℕ} (n w : ℕ) → Linked h nx pv st order free others
    → Linked (renumbered n w h) nx pv st order free others
renumbered_linked n w l = record {
  long = record { small = l.long.small; nexts = l.long.nexts; prevs = l.long.prevs; stacks = l.long.stacks };
  live = l.live;
  depth = l.depth;
  size = l.size;
  fit = l.fit;
  each = l.each;
  front = l.front;
  back = l.back;
  nexts = l.nexts;
  prevs = l.prevs;
  stacks = l.stacks;
}
