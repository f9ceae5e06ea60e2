-- Each call's promise admits one outcome: two that keep it, from one described state, are equal in every number.
-- Assumes nothing.
use Prim.Native.Nat.{ℕ, ◌≤◌, ◌<◌}
use native.Mathlib.Omega.{arith}
use mathlib.Core.Path.{◌≡◌, sym, ◌∙◌, subst}
use mathlib.Core.Logic.{⊎_elim}
use mathlib.Core.List.{List, [], ◌∷◌, ◌++◌}
use lib.ListN.{length, get_or, drop}
use Rattle.head.specs.declared.Head.{Head}
use Rattle.model.specs.Lists.{without, only, to_front, but_last, oldest}
use Rattle.model.specs.Slots.{taken}
use Rattle.model.specs.Codes.{count}
use Rattle.list.specs.declared.Taken.{Taken}
use Rattle.head.specs.Tails.{Tail}
use Rattle.list.specs.Links.{Linked, Rest}
use Rattle.list.specs.Promises.{Kept, Removed, Moved, Pushed, Evicted, Cleared}
use Rattle.list.proofs.Marks.{under?}
use Rattle.list.proofs.Stores.{tail_none}
use Rattle.list.proofs.Unique.{agree, same_next, same_prev, one_stack, one_head}

-- what a call leaves of h, nx, pv and st: the order o, the stack f and the others t
pub record Left (h r : Head) (nx pv st nx' pv' st' o f t : List ℕ) : Type 0 where
  pub rest : Rest h r
  pub next_tail : Tail h.slots nx nx'
  pub prev_tail : Tail h.slots pv pv'
  pub stack_tail : Tail h.slots st st'
  pub linked : Linked r nx' pv' st' o f t
  pub kept : Kept t nx pv nx' pv'

pub record Same (r r' : Head) (nx nx' pv pv' st st' : List ℕ) : Type 0 where
  pub head : r' ≡ r
  pub next : nx ≡ nx'
  pub prev : pv ≡ pv'
  pub stack : st ≡ st'

module _ {h r r' : Head} {nx pv st nx1 pv1 st1 nx2 pv2 st2 o f t : List ℕ}
    (a : Left h r nx pv st nx1 pv1 st1 o f t) (b : Left h r' nx pv st nx2 pv2 st2 o f t) where
  rests : Rest r r'
  rests = record {
    kind = b.rest.kind ∙ sym a.rest.kind;
    capacity = b.rest.capacity ∙ sym a.rest.capacity;
    slots = b.rest.slots ∙ sym a.rest.slots;
    weight = b.rest.weight ∙ sym a.rest.weight;
  }

  tails : {l m k : List ℕ} → Tail h.slots l m → Tail h.slots l k → drop r.slots m ≡ drop r.slots k
  tails {m = m} {k = k} p q = subst (λ (i : ℕ). drop i m ≡ drop i k) (sym a.rest.slots) (p.tail ∙ sym q.tail)

  nexts : (i : ℕ) → i < r.slots → get_or nx1 i 0 ≡ get_or nx2 i 0
  nexts i hi =
      ⊎_elim
      (λ (c : 0 < count i t). a.kept.nexts i c ∙ sym (b.kept.nexts i c))
      (λ (c : count i t ≤ 0). same_next a.linked b.linked rests.slots i hi (omega arith))
      (under? 0 (count i t))

  prevs : (i : ℕ) → i < r.slots → get_or pv1 i 0 ≡ get_or pv2 i 0
  prevs i hi =
      ⊎_elim
      (λ (c : 0 < count i t). a.kept.prevs i c ∙ sym (b.kept.prevs i c))
      (λ (c : count i t ≤ 0). same_prev a.linked b.linked rests.slots i hi (omega arith))
      (under? 0 (count i t))

  pub one_outcome : Same r r' nx1 nx2 pv1 pv2 st1 st2
  one_outcome =
      let d = a.linked in
      let e = b.linked in
      let n = rests.slots in
      record {
        head = one_head d e n rests;
        next = agree r.slots nx1 nx2 d.long.nexts (omega (arith, e.long.nexts)) nexts (tails a.next_tail b.next_tail);
        prev = agree r.slots pv1 pv2 d.long.prevs (omega (arith, e.long.prevs)) prevs (tails a.prev_tail b.prev_tail);
        stack = one_stack d e n (tails a.stack_tail b.stack_tail);
      }

-- ---- what each public call leaves

module _ {h : Head} {nx pv st o f t : List ℕ} (d : Linked h nx pv st o f t) where
  pub pushed_left : {r : Taken} {nx' pv' st' : List ℕ} → Pushed h r nx pv st nx' pv' st'
      → Left h r.head nx pv st nx' pv' st' (taken h.top.0 f ∷ o) (but_last 1 f) t
  pushed_left p = record {
    rest = p.rest;
    next_tail = p.next_tail;
    prev_tail = p.prev_tail;
    stack_tail = p.stack_tail;
    linked = p.linked o f t d;
    kept = p.kept o f t d;
  }

  pub removed_left : {r : Head} {nx' pv' st' : List ℕ} (i s : ℕ) → only i o ≡ s ∷ [] → Removed h r nx pv st nx' pv' st' s
      → Left h r nx pv st nx' pv' st' (without i o) (f ++ only i o) t
  removed_left i s e p = record {
    rest = p.rest;
    next_tail = p.next_tail;
    prev_tail = p.prev_tail;
    stack_tail = p.stack_tail;
    linked = p.linked o f t i e d;
    kept = p.kept o f t i e d;
  }

  pub moved_left : {r : Head} {nx' pv' : List ℕ} (i s : ℕ) → only i o ≡ s ∷ [] → Moved h r nx pv nx' pv' s
      → Left h r nx pv st nx' pv' st (to_front i o) f t
  moved_left i s e p = record {
    rest = p.rest;
    next_tail = p.next_tail;
    prev_tail = p.prev_tail;
    stack_tail = tail_none h.slots st;
    linked = p.linked st o f t i e d;
    kept = p.kept st o f t i e d;
  }

  pub evicted_left : {r : Head} {nx' pv' st' : List ℕ} (k : ℕ) → k ≤ length o → Evicted h r nx pv st nx' pv' st' k
      → Left h r nx pv st nx' pv' st' (but_last k o) (f ++ oldest k o) t
  evicted_left k w p = record {
    rest = p.rest;
    next_tail = p.next_tail;
    prev_tail = p.prev_tail;
    stack_tail = p.stack_tail;
    linked = p.linked o f t w d;
    kept = p.kept o f t w d;
  }

pub cleared_left : {h r : Head} {nx pv st nx' pv' st' : List ℕ} → Cleared h r nx pv st nx' pv' st' → Left h r nx pv st nx' pv' st' [] [] []
cleared_left p = record {
  rest = p.rest;
  next_tail = p.next_tail;
  prev_tail = p.prev_tail;
  stack_tail = p.stack_tail;
  linked = p.linked;
  kept = record { nexts = λ i c. absurd (omega arith); prevs = λ i c. absurd (omega arith) };
}
