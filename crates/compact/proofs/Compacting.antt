-- What compacting needs of a sound list, and what its steps leave together.
-- Assumes nothing.
use Prim.Native.Nat.{ℕ, ◌+◌, ◌-◌, ◌≤◌}
use native.Mathlib.Omega.{arith}
use mathlib.Core.Path.{◌≡◌, refl, sym, ap, ◌∙◌, subst}
use mathlib.Core.List.{List, [], ◌++◌}
use lib.ListN.{length, take, drop, length-append, length-drop}
use lib.Seq.{take_at, drop-append-add, drop-drop}
use Rattle.head.specs.declared.Head.{Head}
use Rattle.head.specs.Walks.{walk}
use Rattle.head.proofs.Walking.{walk_length}
use Rattle.model.specs.Slots.{up_from}
use Rattle.list.specs.Links.{Linked}
use Rattle.list.proofs.Stores.{tail_trans}
use Rattle.list.proofs.Within.{in_slots, once}
use Rattle.list.proofs.Unique.{order_is}
use Rattle.compact.specs.Plan.{partners, exchanges, Fit}
use Rattle.compact.specs.Anew.{HeadOf}
use Rattle.head.specs.Fields.{Fields}
use Rattle.compact.specs.Compact.{Exchanged, Carried, Walkable, Planned, Exchangeable, AllExchangeable, Writable, LinksWritten, Compactable, Reordered}
use Rattle.compact.proofs.Exchanging.{carried, partners_length, partners_low}
use Rattle.compact.proofs.Ascending.{written_linked}

-- ---- the walk along the next links meets the order

module _ (h : Head) (nx pv st o f : List ℕ) (d : Linked h nx pv st o f []) where
  pub linked_fit : Fit 0 h.slots o
  linked_fit = record {
    high = λ x c. omega arith;
    low = λ x c. in_slots d x (omega arith);
    once = λ x. omega (arith, once d x);
  }

  pub live_is : h.live ≡ length o
  live_is = omega (arith, d.live)

  pub walk_is : walk nx h.front.0 h.live ≡ o
  walk_is = sym (order_is d)

  pub linked_walkable : Walkable h.slots h.live h.front.0 nx pv st
  linked_walkable = record {
    small = d.long.small;
    few = omega (arith, d.live, d.size, d.fit);
    nexts = d.long.nexts;
    prevs = d.long.prevs;
    stacks = d.long.stacks;
    fit = rw walk_is linked_fit;
  }

-- ---- the steps of reordering

module _ (h : Head) (nx pv st : List ℕ) (g : Fields) (t : ℕ) (p : Compactable h nx pv st g t) where
  pub compactable_walk : Walkable h.slots h.live h.front.0 nx pv st
  compactable_walk = linked_walkable h nx pv st p.sound.order p.sound.free p.sound.linked

  module _ (pv1 st1 : List ℕ) (a : Planned h.slots (walk nx h.front.0 h.live) pv st pv1 st1) where
    abbrev order : List ℕ
    order = walk nx h.front.0 h.live

    long : length order ≡ h.live
    long = walk_length nx h.front.0 h.live

    abbrev row : List ℕ
    row = partners (length order) 0 order

    row_long : length row ≡ h.live
    row_long = partners_length (length order) 0 order refl ∙ long

    row_is : take h.live st1 ≡ row
    row_is = ap (take h.live) a.cells ∙ take_at row (drop (length order) st) h.live row_long

    stack_long : length st1 ≡ length st
    stack_long =
        omega (
          arith,
          ap length a.cells,
          length-append row (drop (length order) st),
          row_long,
          long,
          length-drop (length order) st,
          compactable_walk.few,
          compactable_walk.stacks,
        )

    stack_kept : drop h.slots st1 ≡ drop h.slots st
    stack_kept =
        let m = h.slots - h.live in
        let e : h.slots ≡ length row + m = omega (arith, row_long, compactable_walk.few) in
        let k : length order + m ≡ h.slots = omega (arith, long, compactable_walk.few) in
        ap (drop h.slots) a.cells ∙ ap (λ (n : ℕ). drop n (row ++ drop (length order) st)) e
        ∙ drop-append-add row (drop (length order) st) m ∙ drop-drop m (length order) st ∙ ap (λ (n : ℕ). drop n st) k

    exchangeable : (l : List ℕ) → h.slots ≤ length l → Exchangeable (take h.live st1) l
    exchangeable l e =
        rw row_is (record {
          few = omega (arith, row_long, compactable_walk.few);
          each = λ j k. omega (arith, partners_low (length order) 0 h.slots order refl compactable_walk.fit j (omega (arith, row_long, long)));
        })

    pub reorder_exchangeable : AllExchangeable (take h.live st1) g
    reorder_exchangeable = record {
      codes = exchangeable g.codes p.reach.codes;
      stamps = exchangeable g.stamps p.reach.stamps;
      values = exchangeable g.values p.reach.values;
      weights = exchangeable g.weights p.reach.weights;
    }

    pub reorder_writable : (nx1 : List ℕ) → nx1 ≡ nx → Writable h.slots h.live t nx1 pv1 st1
    reorder_writable nx1 q = rw q record {
      small = compactable_walk.small;
      low = p.low;
      high = p.high;
      nexts = compactable_walk.nexts;
      prevs = omega (arith, compactable_walk.prevs, a.tail.size);
      stacks = omega (arith, compactable_walk.stacks, stack_long);
    }

    carry : (o f : List ℕ) → Linked h nx pv st o f [] → (l m : List ℕ) → h.slots ≤ length l → m ≡ exchanges 0 (take h.live st1) l → Carried h.slots o l m
    carry o f d l m k e =
        let w : order ≡ o = walk_is h nx pv st o f d in
        let q : m ≡ exchanges 0 (partners (length o) 0 o) l = e ∙ ap (λ (s : List ℕ). exchanges 0 s l) (row_is ∙ ap (λ (s : List ℕ). partners (length s) 0 s) w) in
        rw q (carried h.slots o l (linked_fit h nx pv st o f d) k)

    pub reordered : (g' : Fields) (nx1 nx2 pv2 st2 : List ℕ) (r : Head) → nx1 ≡ nx → Exchanged (take h.live st1) g g'
        → LinksWritten h.slots h.live t nx1 pv1 st1 nx2 pv2 st2 → HeadOf h t r
        → Reordered h r nx pv st nx2 pv2 st2 g g' t
    reordered g' nx1 nx2 pv2 st2 r q x w₁ y =
        let w : LinksWritten h.slots h.live t nx pv1 st1 nx2 pv2 st2 = subst (λ (l : List ℕ). LinksWritten h.slots h.live t l pv1 st1 nx2 pv2 st2) q w₁ in
        record {
          rest = y.rest;
          live = y.live;
          compacted = record {
            top = y.top;
            next_tail = w.nexts.tail;
            prev_tail = tail_trans a.tail w.prevs.tail;
            stack_tail = tail_trans (record { size = stack_long; tail = stack_kept }) w.stacks.tail;
            linked = λ o f d. subst (λ (l : ℕ). Linked r nx2 pv2 st2 (up_from 0 l) (up_from l (t - l)) []) (live_is h nx pv st o f d)
                (written_linked h r t nx pv1 st1 nx2 pv2 st2 (reorder_writable nx refl) y w);
            moved = λ o f d. record {
              codes = carry o f d g.codes g'.codes p.reach.codes x.codes;
              stamps = carry o f d g.stamps g'.stamps p.reach.stamps x.stamps;
              values = carry o f d g.values g'.values p.reach.values x.values;
              weights = carry o f d g.weights g'.weights p.reach.weights x.weights;
            };
          };
        }
