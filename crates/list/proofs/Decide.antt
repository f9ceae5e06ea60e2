-- The tests of specs/Inspect.antt pass exactly where the links are sound.
-- Assumes nothing.
use Prim.Native.Nat.{ℕ, suc, ◌+◌, ◌-◌, ◌≤◌, ◌<◌}
use native.Mathlib.Omega.{arith}
use native.Mathlib.Nat.{zero-add}
use mathlib.Core.Path.{◌≡◌, refl, sym, ap, ◌∙◌, subst, subst⁻¹}
use mathlib.Core.Bool.{Bool, true, false, ◌&&◌}
use mathlib.Core.Logic.{⊎_elim}
use mathlib.Core.List.{List, [], ◌∷◌, ◌++◌, append-nil}
use lib.ListN.{length, get_or, take, drop, get_or-eq_default}
use lib.Seq.{get_or-take, length-take-le, append_snoc, split_at}
use lib.Dec.{eqb, ltb, leb}
use borrow.Author.Tests.{eqb-true, ltb-true, leb-true, lt-ltb, le-ltb, le-leb, eq-eqb}
use Rattle.head.specs.declared.Head.{Head}
use Rattle.head.specs.Bounds.{none_mark, unused_mark, most_slots}
use Rattle.head.specs.Walks.{walk}
use Rattle.head.proofs.Walking.{walk_length}
use Rattle.model.specs.Codes.{count}
use Rattle.model.proofs.Counting.{count_append}
use Rattle.list.specs.Order.{below, head_or, last_or, next_at, prev_at, place_at}
use Rattle.list.specs.Links.{Long, Linked, Sound}
use Rattle.list.specs.Inspect.{all_from, links_are, cell_ok, bare_ok, walk_ok, numbers_ok, links_ok, Inspected}
use Rattle.list.proofs.Marks.{under?, hit, below_in, below_out, below_lt, below_le}
use Rattle.list.proofs.Chain.{last_append, prev_at_lem, place_at_lem, next_absent, prev_absent, place_absent}
use Rattle.list.proofs.Walks.{successor}
use Rattle.list.proofs.Unique.{get_d_any}
use Rattle.list.proofs.Pigeon.{pigeon}
use Rattle.list.proofs.Walked.{and_l, and_r, and_in, all_at, all_of, w_head, w_last, w_top, w_next, w_prev, w_used, w_once, Placed, f_top, f_next, f_place, f_once}

-- ---- each test, as facts

pub record Numbers (h : Head) (nx pv st : List ℕ) : Type 0 where
  pub long : Long h nx pv st
  pub fit : h.top.0 ≤ h.slots
  pub size : h.live + h.depth.0 ≡ h.top.0

pub numbers : (h : Head) (nx pv st : List ℕ) → numbers_ok h (length nx) (length pv) (length st) ≡ true → Numbers h nx pv st
unfolding numbers_ok
numbers h nx pv st e =
    let e1 = and_r (leb h.slots most_slots) _ e in
    let e2 = and_r (leb h.slots (length nx)) _ e1 in
    let e3 = and_r (leb h.slots (length pv)) _ e2 in
    let e4 = and_r (leb h.slots (length st)) _ e3 in
    let e5 = and_r (leb h.top.0 h.slots) _ e4 in
    let l : h.live ≤ h.top.0 = leb-true h.live h.top.0 (and_l _ _ e5) in
    let q : h.depth.0 ≡ h.top.0 - h.live = eqb-true h.depth.0 (h.top.0 - h.live) (and_r (leb h.live h.top.0) _ e5) in
    record {
      long = record {
        small = leb-true h.slots most_slots (and_l _ _ e);
        nexts = leb-true h.slots (length nx) (and_l _ _ e1);
        prevs = leb-true h.slots (length pv) (and_l _ _ e2);
        stacks = leb-true h.slots (length st) (and_l _ _ e3);
      };
      fit = leb-true h.top.0 h.slots (and_l _ _ e4);
      size = omega arith;
    }

numbers_in : (h : Head) (nx pv st : List ℕ) → Numbers h nx pv st → numbers_ok h (length nx) (length pv) (length st) ≡ true
unfolding numbers_ok
numbers_in h nx pv st n =
    let l = n.long in
    and_in _ _ (le-leb _ _ l.small) (and_in _ _ (le-leb _ _ l.nexts) (and_in _ _ (le-leb _ _ l.prevs) (and_in _ _ (le-leb _ _ l.stacks)
    (and_in _ _ (le-leb _ _ n.fit) (and_in _ _ (le-leb h.live h.top.0 (omega (arith, n.size))) (eq-eqb h.depth.0 (h.top.0 - h.live) (omega (arith, n.size))))))))

links : (nx pv : List ℕ) (s n p : ℕ) → links_are nx pv s n p ≡ true → (get_or nx s 0 ≡ n) × (get_or pv s 0 ≡ p)
unfolding links_are
links nx pv s n p e = (eqb-true (get_or nx s 0) n (and_l _ _ e), eqb-true (get_or pv s 0) p (and_r (eqb (get_or nx s 0) n) _ e))

links_in : (nx pv : List ℕ) (s n p : ℕ) → get_or nx s 0 ≡ n → get_or pv s 0 ≡ p → links_are nx pv s n p ≡ true
unfolding links_are
links_in nx pv s n p a b = and_in _ _ (eq-eqb _ _ a) (eq-eqb _ _ b)

cell_low : (nx pv st : List ℕ) (depth top k : ℕ) → k < depth → cell_ok nx pv st depth top k ≡ true
    → (get_or st k 0 < top) × (get_or nx (get_or st k 0) 0 ≡ unused_mark) × (get_or pv (get_or st k 0) 0 ≡ k)
unfolding cell_ok
cell_low nx pv st depth top k h e =
    let e' : (ltb (get_or st k 0) top && links_are nx pv (get_or st k 0) unused_mark k) ≡ true = rw (lt-ltb k depth h) at e in
    let r = links nx pv (get_or st k 0) unused_mark k (and_r (ltb (get_or st k 0) top) _ e') in
    (ltb-true (get_or st k 0) top (and_l _ _ e'), r.0, r.1)

cell_low_in : (nx pv st : List ℕ) (depth top k : ℕ) → k < depth → get_or st k 0 < top → get_or nx (get_or st k 0) 0 ≡ unused_mark → get_or pv (get_or st k 0) 0 ≡ k
    → cell_ok nx pv st depth top k ≡ true
unfolding cell_ok
cell_low_in nx pv st depth top k h a b c =
    rw (lt-ltb k depth h) (and_in _ _ (lt-ltb (get_or st k 0) top a) (links_in nx pv (get_or st k 0) unused_mark k b c))

cell_high : (nx pv st : List ℕ) (depth top k : ℕ) → depth ≤ k → cell_ok nx pv st depth top k ≡ true → get_or st k 0 ≡ none_mark
unfolding cell_ok
cell_high nx pv st depth top k h e = eqb-true (get_or st k 0) none_mark (rw (le-ltb k depth h) at e)

cell_high_in : (nx pv st : List ℕ) (depth top k : ℕ) → depth ≤ k → get_or st k 0 ≡ none_mark → cell_ok nx pv st depth top k ≡ true
unfolding cell_ok
cell_high_in nx pv st depth top k h e = rw (le-ltb k depth h) (eq-eqb (get_or st k 0) none_mark e)

-- ---- the tests pass: the state is sound

module _ (h : Head) (nx pv st : List ℕ) (n : Numbers h nx pv st)
    (w : walk_ok nx pv h.top.0 h.back.0 h.live none_mark h.front.0 ≡ true)
    (cs : (k : ℕ) → k < h.slots → cell_ok nx pv st h.depth.0 h.top.0 k ≡ true)
    (bs : (i : ℕ) → h.top.0 ≤ i → i < h.slots → (get_or nx i 0 ≡ unused_mark) × (get_or pv i 0 ≡ none_mark)) where
  o : List ℕ
  o = walk nx h.front.0 h.live

  f : List ℕ
  f = take h.depth.0 st

  f_length : length f ≡ h.depth.0
  unfolding f
  f_length = length-take-le h.depth.0 st (omega (arith, n.size, n.fit, n.long.stacks))

  f_at : (k : ℕ) → k < h.depth.0 → get_or f k none_mark ≡ get_or st k 0
  unfolding f
  f_at k hk = get_or-take h.depth.0 st k none_mark hk ∙ get_d_any st k none_mark 0 (omega (arith, n.size, n.fit, n.long.stacks))

  placed : Placed nx pv h.top.0 f 0
  placed k hk =
      let kd : k < h.depth.0 = omega (arith, f_length) in
      let e = f_at k kd in
      let c = cell_low nx pv st h.depth.0 h.top.0 k kd (cs k (omega (arith, n.size, n.fit))) in
      (rw e c.0, rw e c.1, rw e c.2 ∙ sym (zero-add k))

  o_top : (i : ℕ) → 1 ≤ count i o → i < h.top.0
  unfolding o
  o_top = w_top nx pv h.top.0 h.back.0 h.live none_mark h.front.0 w

  o_once : (i : ℕ) → count i o ≤ 1
  unfolding o
  o_once =
      w_once nx pv h.top.0 h.back.0 h.live none_mark h.front.0 w
      (⊎_elim (λ (l : 0 < count none_mark o). absurd (omega (arith, o_top none_mark l, n.fit, n.long.small))) (λ (g : count none_mark o ≤ 0). omega arith) (under? 0 (count none_mark o)))

  apart : (i : ℕ) → 1 ≤ count i o → 1 ≤ count i f → ⊥
  unfolding o
  apart i a b =
      w_used nx pv h.top.0 h.back.0 h.live none_mark h.front.0 (omega (arith, n.fit, n.long.small)) w i a (f_next nx pv h.top.0 f 0 placed i b)

  o_f_once : (i : ℕ) → count i o + count i f ≤ 1
  o_f_once i =
      ⊎_elim
      (λ (a : 0 < count i o). ⊎_elim (λ (b : 0 < count i f). absurd (apart i a b)) (λ (b : count i f ≤ 0). omega (arith, o_once i)) (under? 0 (count i f)))
      (λ (a : count i o ≤ 0). omega (arith, f_once nx pv h.top.0 f 0 placed i))
      (under? 0 (count i o))

  o_f_top : (i : ℕ) → 1 ≤ count i o + count i f → i < h.top.0
  o_f_top i c =
      ⊎_elim (λ (a : 0 < count i o). o_top i a) (λ (a : count i o ≤ 0). f_top nx pv h.top.0 f 0 placed i (omega arith)) (under? 0 (count i o))

  o_length : length o ≡ h.live
  unfolding o
  o_length = walk_length nx h.front.0 h.live

  o_f_each : (i : ℕ) → count i o + count i f ≡ below i h.top.0
  o_f_each = pigeon h.top.0 o f o_f_once o_f_top (omega (arith, o_length, f_length, n.size))

  -- a slot below top that is not in the order is on the stack
  on_stack : (i : ℕ) → i < h.top.0 → count i o ≡ 0 → 1 ≤ count i f
  on_stack i hi z = omega (arith, o_f_each i, below_in i h.top.0 hi)

  the_next : (i : ℕ) → i < h.slots → get_or nx i 0 ≡ next_at o i
  unfolding o
  the_next i hi =
      ⊎_elim
      (λ (a : 0 < count i o). sym (w_next nx pv h.top.0 h.back.0 h.live none_mark h.front.0 w i a))
      (λ (a : count i o ≤ 0). let z : count i o ≡ 0 = omega arith in
      ⊎_elim (λ l. f_next nx pv h.top.0 f 0 placed i (on_stack i l z)) (λ g. (bs i g hi).0) (under? i h.top.0) ∙ sym (next_absent o i z))
      (under? 0 (count i o))

  the_prev : (i : ℕ) → i < h.slots → get_or pv i 0 ≡ prev_at none_mark o i (place_at 0 f i)
  unfolding o
  the_prev i hi =
      ⊎_elim
      (λ (a : 0 < count i o). sym (w_prev nx pv h.top.0 h.back.0 h.live none_mark h.front.0 w i (place_at 0 f i) a))
      (λ (a : count i o ≤ 0). let z : count i o ≡ 0 = omega arith in
      ⊎_elim
      (λ l. sym (f_place nx pv h.top.0 f 0 placed i (on_stack i l z)))
      (λ g. (bs i g hi).1 ∙ sym (place_absent 0 f i (omega (arith, o_f_each i, below_out i h.top.0 g))))
      (under? i h.top.0) ∙ sym (prev_absent none_mark o i (place_at 0 f i) z))
      (under? 0 (count i o))

  the_stack : (i : ℕ) → i < h.slots → get_or st i 0 ≡ get_or f i none_mark
  the_stack i hi =
      ⊎_elim
      (λ l. sym (f_at i l))
      (λ g. cell_high nx pv st h.depth.0 h.top.0 i g (cs i hi) ∙ sym (get_or-eq_default f none_mark (omega (arith, f_length))))
      (under? i h.depth.0)

  the_front : h.front.0 ≡ head_or none_mark o
  unfolding o
  the_front = sym (w_head nx pv h.top.0 h.back.0 h.live none_mark h.front.0 w)

  the_back : h.back.0 ≡ last_or none_mark o
  unfolding o
  the_back = sym (w_last nx pv h.top.0 h.back.0 h.live none_mark h.front.0 w)

  sound : Sound h nx pv st
  sound = record {
    order = o;
    free = f;
    linked = record {
      long = n.long;
      live = omega (arith, o_length);
      depth = sym f_length;
      size = omega (arith, o_length, f_length, n.size);
      fit = n.fit;
      each = λ i. omega (arith, o_f_each i);
      front = the_front;
      back = the_back;
      nexts = λ i hi z. the_next i hi;
      prevs = λ i hi z. the_prev i hi;
      stacks = the_stack;
    };
  }

pub links_sound : (h : Head) (nx pv st : List ℕ) → links_ok h nx pv st ≡ true → Sound h nx pv st
unfolding links_ok bare_ok
links_sound h nx pv st e =
    let n = numbers h nx pv st (and_l _ _ e) in
    let e1 = and_r (numbers_ok h (length nx) (length pv) (length st)) _ e in
    let e2 = and_r (walk_ok nx pv h.top.0 h.back.0 h.live none_mark h.front.0) _ e1 in
    let e3 = and_r (all_from h.slots 0 (cell_ok nx pv st h.depth.0 h.top.0)) _ e2 in
    sound h nx pv st n (and_l _ _ e1)
    (λ k hk. all_at h.slots 0 _ (and_l _ _ e2) k (omega arith) (omega arith))
    (λ i lo hi. links nx pv i unused_mark none_mark (all_at (h.slots - h.top.0) h.top.0 _ e3 i lo (omega (arith, n.fit))))

-- ---- the state is sound: the tests pass

module _ (h : Head) (nx pv st f : List ℕ) where
  walk_passes : (a b : List ℕ) → Linked h nx pv st (a ++ b) f []
      → walk_ok nx pv h.top.0 h.back.0 (length b) (last_or none_mark a) (head_or none_mark b) ≡ true
  unfolding walk_ok
  walk_passes a [] d =
      and_in _ _ (eq-eqb none_mark none_mark refl) (eq-eqb _ _ (sym (d.back ∙ ap (last_or none_mark) (append-nil a))))
  walk_passes a (x ∷ b) d =
      let one = hit x x refl in
      let cnt = count_append x a (x ∷ b) in
      let low : x < h.top.0 = below_lt x h.top.0 (omega (arith, d.each x)) in
      and_in _ _ (lt-ltb x h.top.0 low)
      (and_in _ _
      (eq-eqb _ _ (d.prevs x (omega (arith, d.fit)) refl ∙ prev_at_lem none_mark a x b _ (omega (arith, d.each x, below_le x h.top.0))))
      (rw (successor d a x b refl)
      (subst (λ (l : ℕ). walk_ok nx pv h.top.0 h.back.0 (length b) l (head_or none_mark b) ≡ true) (last_append none_mark a (x ∷ []))
      (walk_passes (a ++ x ∷ []) b (subst⁻¹ (λ (l : List ℕ). Linked h nx pv st l f []) (append_snoc a x b) d)))))

  cell_split : (o a : List ℕ) (x : ℕ) (b : List ℕ) → Linked h nx pv st o (a ++ x ∷ b) [] → get_or st (length a) 0 ≡ x → length a < h.depth.0
      → cell_ok nx pv st h.depth.0 h.top.0 (length a) ≡ true
  cell_split o a x b d e hk =
      let one = hit x x refl in
      let cnt = count_append x a (x ∷ b) in
      let le = below_le x h.top.0 in
      let low : x < h.top.0 = below_lt x h.top.0 (omega (arith, d.each x)) in
      let xs : x < h.slots = omega (arith, d.fit) in
      let oz : count x o ≡ 0 = omega (arith, d.each x) in
      cell_low_in nx pv st h.depth.0 h.top.0 (length a) hk (rw e low)
      (rw e (d.nexts x xs refl ∙ next_absent o x oz))
      (rw e (d.prevs x xs refl ∙ prev_absent none_mark o x _ oz ∙ place_at_lem 0 a x b (omega (arith, d.each x)) ∙ zero-add (length a)))

  cell_passes : (o : List ℕ) → Linked h nx pv st o f [] → (k : ℕ) → k < h.slots → cell_ok nx pv st h.depth.0 h.top.0 k ≡ true
  cell_passes o d k hk =
      ⊎_elim
      (λ l.
      let kf : k < length f = omega (arith, d.depth) in
      let la : length (take k f) ≡ k = length-take-le k f (omega arith) in
      let d' : Linked h nx pv st o (take k f ++ get_or f k none_mark ∷ drop (suc k) f) [] = subst (λ (m : List ℕ). Linked h nx pv st o m []) (split_at f k none_mark kf) d in
      subst (λ (j : ℕ). cell_ok nx pv st h.depth.0 h.top.0 j ≡ true) la
      (cell_split o (take k f) (get_or f k none_mark) (drop (suc k) f) d' (rw la (d.stacks k hk)) (omega arith)))
      (λ g. cell_high_in nx pv st h.depth.0 h.top.0 k g (d.stacks k hk ∙ get_or-eq_default f none_mark (omega (arith, d.depth))))
      (under? k h.depth.0)

  bare_passes : (o : List ℕ) → Linked h nx pv st o f [] → (i : ℕ) → h.top.0 ≤ i → i < h.slots → bare_ok nx pv i ≡ true
  unfolding bare_ok
  bare_passes o d i lo hi =
      let z = below_out i h.top.0 lo in
      links_in nx pv i unused_mark none_mark
      (d.nexts i hi refl ∙ next_absent o i (omega (arith, d.each i)))
      (d.prevs i hi refl ∙ prev_absent none_mark o i _ (omega (arith, d.each i)) ∙ place_absent 0 f i (omega (arith, d.each i)))

  desc_passes : (o : List ℕ) → Linked h nx pv st o f [] → links_ok h nx pv st ≡ true
  unfolding links_ok
  desc_passes o d =
      let lv : h.live ≡ length o = omega (arith, d.live) in
      let w : walk_ok nx pv h.top.0 h.back.0 h.live none_mark h.front.0 ≡ true = rw (lv, d.front) (walk_passes [] o d) in
      and_in _ _ (numbers_in h nx pv st (record { long = d.long; fit = d.fit; size = omega (arith, d.depth, d.size) }))
      (and_in _ _ w
      (and_in _ _ (all_of h.slots 0 _ (λ k lo hk. cell_passes o d k (omega arith)))
      (all_of (h.slots - h.top.0) h.top.0 _ (λ i lo hi. bare_passes o d i lo (omega (arith, d.fit))))))

pub sound_links : (h : Head) (nx pv st : List ℕ) → Sound h nx pv st → links_ok h nx pv st ≡ true
sound_links h nx pv st s = desc_passes h nx pv st s.free s.order s.linked

-- ---- as the code runs them

module _ (h : Head) (nx pv st : List ℕ) where
  pub answer : (r : Bool) → r ≡ links_ok h nx pv st → Inspected h nx pv st r
  answer r e = record { sound = λ q. links_sound h nx pv st (sym e ∙ q); passes = λ s. e ∙ sound_links h nx pv st s }

  pub answer_1 : numbers_ok h (length nx) (length pv) (length st) ≡ false → Inspected h nx pv st false
  unfolding links_ok
  answer_1 a = answer false (rw a refl)

  pub answer_2 : numbers_ok h (length nx) (length pv) (length st) ≡ true → walk_ok nx pv h.top.0 h.back.0 h.live none_mark h.front.0 ≡ false → Inspected h nx pv st false
  unfolding links_ok
  answer_2 a b = answer false (rw (a, b) refl)

  pub answer_3 : numbers_ok h (length nx) (length pv) (length st) ≡ true → walk_ok nx pv h.top.0 h.back.0 h.live none_mark h.front.0 ≡ true
      → all_from h.slots 0 (cell_ok nx pv st h.depth.0 h.top.0) ≡ false → Inspected h nx pv st false
  unfolding links_ok
  answer_3 a b c = answer false (rw (a, b, c) refl)

  pub answer_4 : (r : Bool) → numbers_ok h (length nx) (length pv) (length st) ≡ true → walk_ok nx pv h.top.0 h.back.0 h.live none_mark h.front.0 ≡ true
      → all_from h.slots 0 (cell_ok nx pv st h.depth.0 h.top.0) ≡ true → r ≡ all_from (h.slots - h.top.0) h.top.0 (bare_ok nx pv) → Inspected h nx pv st r
  unfolding links_ok
  answer_4 r a b c d = answer r (rw (a, b, c) d)
