-- A state describes one order and one stack at most; and an order, a stack and a slot count settle the numbers.
-- Assumes nothing.
use Prim.Native.Nat.{ℕ, zero, suc, ◌≤◌, ◌<◌}
use native.Mathlib.Omega.{arith}
use mathlib.Core.Path.{◌≡◌, refl, sym, ap, ◌∙◌, subst⁻¹}
use mathlib.Core.List.{List, [], ◌∷◌, ◌++◌}
use lib.ListN.{length, get_or, drop, take, take-append-drop}
use lib.Seq.{ext_get_or, append_snoc, get_or-take, length-take-le}
use Rattle.head.specs.declared.Head.{Head}
use Rattle.head.specs.Bounds.{none_mark}
use Rattle.head.specs.Walks.{walk}
use Rattle.model.specs.Codes.{count}
use Rattle.list.specs.Order.{head_or}
use Rattle.list.specs.Links.{Linked, Rest}
use Rattle.list.proofs.Walks.{successor}

walk_from : {h : Head} {nx pv st f t : List ℕ} (a b : List ℕ) → Linked h nx pv st (a ++ b) f t → walk nx (head_or none_mark b) (length b) ≡ b
unfolding walk
walk_from a [] d = refl
walk_from {h} {nx} {pv} {st} {f} {t} a (x ∷ b) d =
    ap (λ (l : List ℕ). x ∷ l)
    (ap (λ (y : ℕ). walk nx y (length b)) (successor d a x b refl)
    ∙ walk_from (a ++ x ∷ []) b (subst⁻¹ (λ (l : List ℕ). Linked h nx pv st l f t) (append_snoc a x b) d))

-- the order is what the links say
pub order_is : {h : Head} {nx pv st o f : List ℕ} → Linked h nx pv st o f [] → o ≡ walk nx h.front.0 h.live
order_is {o = o} d =
    let l : _ ≡ length o = d.live ∙ omega arith in
    rw (l, d.front) (sym (walk_from [] o d))

pub get_d_any : (l : List ℕ) (i d e : ℕ) → i < length l → get_or l i d ≡ get_or l i e
get_d_any [] i d e h = absurd (omega arith)
get_d_any (x ∷ l) zero d e h = refl
get_d_any (x ∷ l) (suc i) d e h = get_d_any l i d e (omega arith)

-- the free stack is the front of the stack's list
pub free_is : {h : Head} {nx pv st o f t : List ℕ} → Linked h nx pv st o f t → f ≡ take h.depth.0 st
free_is {h} {st = st} {f = f} d =
    ext_get_or none_mark f (take h.depth.0 st)
    (sym d.depth ∙ sym (length-take-le h.depth.0 st (omega (arith, d.depth, d.size, d.fit, d.long.stacks))))
    (λ i hi. sym (d.stacks i (omega (arith, d.size, d.fit))) ∙ get_d_any st i 0 none_mark (omega (arith, d.size, d.fit, d.long.stacks))
    ∙ sym (get_or-take h.depth.0 st i none_mark (omega (arith, d.depth))))

-- lists that agree below n and from n on are equal
pub agree : (n : ℕ) (l m : List ℕ) → n ≤ length l → n ≤ length m → ((i : ℕ) → i < n → get_or l i 0 ≡ get_or m i 0) → drop n l ≡ drop n m → l ≡ m
agree n l m hl hm g t =
    sym (take-append-drop n l)
    ∙ (rw t (ap (λ (z : List ℕ). z ++ drop n m)
    (ext_get_or 0 (take n l) (take n m) (length-take-le n l hl ∙ sym (length-take-le n m hm))
    (λ i hi. let k : i < n = omega (arith, length-take-le n l hl) in get_or-take n l i 0 k ∙ g i k ∙ sym (get_or-take n m i 0 k)))))
    ∙ take-append-drop n m

pub one_order : {h : Head} {nx pv st o f o' f' : List ℕ} → Linked h nx pv st o f [] → Linked h nx pv st o' f' [] → o ≡ o'
one_order d d' = order_is d ∙ sym (order_is d')

pub one_free : {h : Head} {nx pv st o f t o' f' t' : List ℕ} → Linked h nx pv st o f t → Linked h nx pv st o' f' t' → f ≡ f'
one_free d d' = free_is d ∙ sym (free_is d')

-- an order, a stack and a slot count settle the head and every number below the slot count but the links of others
module _ {h h' : Head} {nx pv st nx' pv' st' o f t : List ℕ} (d : Linked h nx pv st o f t) (d' : Linked h' nx' pv' st' o f t) (n : h'.slots ≡ h.slots) where
  pub same_next : (i : ℕ) → i < h.slots → count i t ≡ 0 → get_or nx i 0 ≡ get_or nx' i 0
  same_next i hi z = d.nexts i hi z ∙ sym (d'.nexts i (omega arith) z)

  pub same_prev : (i : ℕ) → i < h.slots → count i t ≡ 0 → get_or pv i 0 ≡ get_or pv' i 0
  same_prev i hi z = d.prevs i hi z ∙ sym (d'.prevs i (omega arith) z)

  pub same_stack : (i : ℕ) → i < h.slots → get_or st i 0 ≡ get_or st' i 0
  same_stack i hi = d.stacks i hi ∙ sym (d'.stacks i (omega arith))

  pub one_stack : drop h.slots st ≡ drop h.slots st' → st ≡ st'
  one_stack e = agree h.slots st st' d.long.stacks (omega (arith, d'.long.stacks)) same_stack e

  pub one_head : Rest h h' → h' ≡ h
  one_head r = λ i. record {
    kind = r.kind i;
    capacity = r.capacity i;
    slots = r.slots i;
    live = (d'.live ∙ sym d.live) i;
    weight = r.weight i;
    front = record { 0 = (d'.front ∙ sym d.front) i };
    back = record { 0 = (d'.back ∙ sym d.back) i };
    top = record { 0 = (sym d'.size ∙ d.size) i };
    depth = record { 0 = (d'.depth ∙ sym d.depth) i };
  }

-- with no others, every number; the tails are equal where they are at hand
module _ {h h' : Head} {nx pv st nx' pv' st' o f : List ℕ} (d : Linked h nx pv st o f []) (d' : Linked h' nx' pv' st' o f []) (n : h'.slots ≡ h.slots) where
  pub one_next : drop h.slots nx ≡ drop h.slots nx' → nx ≡ nx'
  one_next e = agree h.slots nx nx' d.long.nexts (omega (arith, d'.long.nexts)) (λ i hi. same_next d d' n i hi refl) e

  pub one_prev : drop h.slots pv ≡ drop h.slots pv' → pv ≡ pv'
  one_prev e = agree h.slots pv pv' d.long.prevs (omega (arith, d'.long.prevs)) (λ i hi. same_prev d d' n i hi refl) e
