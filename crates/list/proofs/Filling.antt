-- Filled links describe no slot.
-- Assumes nothing.
use Prim.Native.Nat.{ℕ, suc, ◌+◌, ◌≤◌, ◌<◌}
use native.Mathlib.Omega.{arith}
use native.Mathlib.Numerals.{add-one}
use mathlib.Core.Path.{◌≡◌, refl, sym, ◌∙◌}
use mathlib.Core.List.{List, ◌++◌}
use lib.ListN.{length, get_or, set, drop, replicate, length-append, length-replicate, length-drop, get_or-replicate, get_or-append}
use lib.Seq.{drop_at, drop-cons, set_at, append_snoc}
use Rattle.std.proofs.lemmas.List.{replicate_more}
use Rattle.head.specs.declared.Head.{Head}
use Rattle.head.specs.Bounds.{none_mark, unused_mark}
use Rattle.head.specs.Tails.{Tail}
use Rattle.list.specs.Links.{Long}
use Rattle.list.specs.Promises.{Cleared}
use Rattle.list.proofs.Marks.{below_out}

-- one more place of a list is filled
pub fill_step : {A : Type 0} (i : ℕ) (v : A) (l : List A) → i < length l
    → set (replicate i v ++ drop i l) i v ≡ replicate (i + 1) v ++ drop (i + 1) l
fill_step i v l h =
    rw (drop-cons l i v h, ← replicate_more i v, add-one, append_snoc)
    (set_at (replicate i v) (get_or l i v) (drop (suc i) l) v i (length-replicate i v))

module _ (n : ℕ) (l : List ℕ) (v : ℕ) {m : List ℕ} (e : m ≡ replicate n v ++ drop n l) where
  pub fill_tail : n ≤ length l → Tail n l m
  fill_tail h = record {
    size = rw e (omega (arith, length-append (replicate n v) (drop n l), length-replicate n v, length-drop n l));
    tail = rw e (drop_at (replicate n v) (drop n l) n (length-replicate n v));
  }

  pub fill_at : (i : ℕ) → i < n → get_or m i 0 ≡ v
  fill_at i h =
      rw e (get_or-append (replicate n v) (drop n l) 0 i (omega (arith, length-replicate n v)) ∙ get_or-replicate n i v 0 h)

abbrev emptied : Head → Head
emptied h = record {
  kind = h.kind;
  capacity = h.capacity;
  slots = h.slots;
  live = 0;
  weight = h.weight;
  front = record { 0 = none_mark };
  back = record { 0 = none_mark };
  top = record { 0 = 0 };
  depth = record { 0 = 0 };
}

pub cleared : (h : Head) (nx pv st nx' pv' st' : List ℕ) → Long h nx pv st
    → nx' ≡ replicate h.slots unused_mark ++ drop h.slots nx
    → pv' ≡ replicate h.slots none_mark ++ drop h.slots pv
    → st' ≡ replicate h.slots none_mark ++ drop h.slots st
    → Cleared h (emptied h) nx pv st nx' pv' st'
cleared h nx pv st nx' pv' st' l en ev es =
    let tn = fill_tail h.slots nx unused_mark en l.nexts in
    let tv = fill_tail h.slots pv none_mark ev l.prevs in
    let ts = fill_tail h.slots st none_mark es l.stacks in
    record {
      rest = record { kind = refl; capacity = refl; slots = refl; weight = refl };
      next_tail = tn;
      prev_tail = tv;
      stack_tail = ts;
      top = refl;
      linked = record {
        long = record { small = l.small; nexts = omega (arith, l.nexts, tn.size); prevs = omega (arith, l.prevs, tv.size); stacks = omega (arith, l.stacks, ts.size) };
        live = refl;
        depth = refl;
        size = refl;
        fit = omega arith;
        each = λ i. sym (below_out i 0 (omega arith));
        front = refl;
        back = refl;
        nexts = λ i hi z. fill_at h.slots nx unused_mark en i hi;
        prevs = λ i hi z. fill_at h.slots pv none_mark ev i hi;
        stacks = fill_at h.slots st none_mark es;
      };
    }
