-- Resizing, from what its steps ensure; and what a caller has of it.
-- Assumes nothing.
use Prim.Native.Nat.{ℕ, ◌≤◌, ◌<◌, min}
use native.Mathlib.Omega.{arith}
use native.Mathlib.Nat.{min-le_left, le-min}
use mathlib.Core.Path.{◌≡◌, refl, ap, ◌∙◌}
use mathlib.Core.List.{List}
use Rattle.head.specs.declared.Head.{Head}
use Rattle.head.specs.Fresh.{recapped}
use Rattle.list.proofs.Renumbered.{renumbered_linked}
use Rattle.head.specs.Fields.{Fields}
use Rattle.compact.specs.Compact.{Compactable, Reordered, Resizable, Resized}

module _ (h : Head) (nx pv st : List ℕ) (g : Fields) (d : ℕ) where
  pub resize_stays : (r : Head) → h.capacity ≤ d → r ≡ recapped d h → Resized h r nx pv st nx pv st g g d
  resize_stays r le e = record {
    kind = ap (λ (x : Head). x.kind) e;
    capacity = ap (λ (x : Head). x.capacity) e;
    slots = ap (λ (x : Head). x.slots) e;
    live = ap (λ (x : Head). x.live) e;
    weight = ap (λ (x : Head). x.weight) e;
    shrunk = λ lt. absurd (omega arith);
    stayed = λ _. record { head = e; nexts = refl; prevs = refl; stacks = refl; fields = refl };
  }

  pub resize_compactable : (t : ℕ) → Resizable h nx pv st g d → t ≡ min h.top.0 d → Compactable h nx pv st g t
  resize_compactable t p e =
      let l = p.sound.linked in
      let low : h.live ≤ min h.top.0 d = le-min (omega (arith, l.live, l.size)) p.fits in
      record {
        sound = p.sound;
        reach = p.reach;
        low = omega arith;
        high = omega (arith, min-le_left h.top.0 d, l.fit);
      }

  pub resize_shrinks : (t : ℕ) (m r : Head) (nx' pv' st' : List ℕ) (g' : Fields) → d < h.capacity → t ≡ min h.top.0 d
      → Reordered h m nx pv st nx' pv' st' g g' t → r ≡ recapped d m → Resized h r nx pv st nx' pv' st' g g' d
  resize_shrinks t m r nx' pv' st' g' lt et w e = record {
    kind = ap (λ (x : Head). x.kind) e ∙ w.rest.kind;
    capacity = ap (λ (x : Head). x.capacity) e;
    slots = ap (λ (x : Head). x.slots) e ∙ w.rest.slots;
    live = ap (λ (x : Head). x.live) e ∙ w.live;
    weight = ap (λ (x : Head). x.weight) e ∙ w.rest.weight;
    shrunk = λ _. rw (e, ← et) (record {
      top = w.compacted.top;
      next_tail = w.compacted.next_tail;
      prev_tail = w.compacted.prev_tail;
      stack_tail = w.compacted.stack_tail;
      linked = λ o f l. renumbered_linked d m.weight (w.compacted.linked o f l);
      moved = w.compacted.moved;
    });
    stayed = λ le. absurd (omega arith);
  }
