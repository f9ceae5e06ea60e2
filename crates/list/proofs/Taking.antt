-- A slot is taken: the last one on the free stack, else the first that was never used.
-- Assumes nothing.
use Prim.Native.Nat.{ℕ, suc, ◌+◌, ◌-◌, ◌≤◌, ◌<◌}
use native.Mathlib.Omega.{arith}
use native.Mathlib.Numerals.{add-one}
use mathlib.Core.Path.{◌≡◌, refl, sym, ap, ◌∙◌, subst, subst⁻¹}
use mathlib.Core.Logic.{⊎_elim}
use mathlib.Core.List.{List, [], ◌∷◌, ◌++◌}
use lib.ListN.{length, get_or, length-append}
use lib.Seq.{get_or_at}
use lib.Dec.{eqb}
use Rattle.head.specs.declared.Head.{Head}
use Rattle.head.specs.Bounds.{none_mark}
use Rattle.model.specs.Lists.{but_last}
use Rattle.model.specs.Slots.{taken, top_after}
use Rattle.model.specs.Codes.{one}
use Rattle.model.proofs.Counting.{count_append}
use Rattle.model.proofs.Backs.{but_last_back, but_last_none, back_of}
use Rattle.list.specs.declared.Taken.{Taken}
use Rattle.list.specs.Steps.{put_at}
use Rattle.list.specs.Order.{below, prev_at}
use Rattle.list.specs.Links.{Linked}
use Rattle.list.specs.Promises.{Given}
use Rattle.list.proofs.Marks.{same?, under?, hit, miss, below_in, below_out}
use Rattle.list.proofs.Stores.{length_put, get_or_put, put_tail, tail_none}
use Rattle.list.proofs.Stacking.{place_other, get_or_less}

-- the head with one more in use
abbrev fuller : Head → ℕ → ℕ → Head
fuller h t d = record {
  kind = h.kind;
  capacity = h.capacity;
  slots = h.slots;
  live = h.live + 1;
  weight = h.weight;
  front = h.front;
  back = h.back;
  top = record { 0 = t };
  depth = record { 0 = d };
}

abbrev given : Head → ℕ → Taken
given h s = record { head = h; slot = record { 0 = s } }

taken_back : (t : ℕ) (f : List ℕ) (s : ℕ) → taken t (f ++ s ∷ []) ≡ s
taken_back t [] s = refl
taken_back t (x ∷ []) s = refl
taken_back t (x ∷ y ∷ f) s = taken_back t (y ∷ f) s

top_after_back : (t : ℕ) (f : List ℕ) (s : ℕ) → top_after t (f ++ s ∷ []) ≡ t
top_after_back t [] s = refl
top_after_back t (x ∷ f) s = refl

but_last_one : (f : List ℕ) (s : ℕ) → but_last 1 (f ++ s ∷ []) ≡ f
but_last_one f s = but_last_back 0 f s ∙ but_last_none f

-- ---- from the top

below_more : (i t : ℕ) → one (eqb i t) + below i t ≡ below i (t + 1)
below_more i t =
    ⊎_elim
    (λ e. omega (arith, hit t i e, below_out i t (omega arith), below_in i (t + 1) (omega arith)))
    (λ d. ⊎_elim
    (λ l. omega (arith, miss t i d, below_in i t l, below_in i (t + 1) (omega arith)))
    (λ g. omega (arith, miss t i d, below_out i t g, below_out i (t + 1) (omega arith)))
    (under? i t))
    (same? t i)

module _ (h : Head) (st : List ℕ) (z : h.depth.0 ≡ 0) (v : h.live < h.slots) where
  none_free : (nx pv o f t : List ℕ) → Linked h nx pv st o f t → f ≡ []
  none_free nx pv o [] t d = refl
  none_free nx pv o (x ∷ f) t d = absurd (omega (arith, d.depth))

  top_linked : (nx pv o t : List ℕ) → Linked h nx pv st o [] t → Linked (fuller h (h.top.0 + 1) h.depth.0) nx pv st o [] (h.top.0 ∷ t)
  top_linked nx pv o t d = record {
    long = record { small = d.long.small; nexts = d.long.nexts; prevs = d.long.prevs; stacks = d.long.stacks };
    live = omega (arith, d.live);
    depth = d.depth;
    size = omega (arith, d.size);
    fit = omega (arith, d.size, d.live, d.fit);
    each = λ i. omega (arith, d.each i, below_more i h.top.0);
    front = d.front;
    back = d.back;
    nexts = λ i hi n. d.nexts i hi (omega arith);
    prevs = λ i hi n. d.prevs i hi (omega arith);
    stacks = d.stacks;
  }

  pub given_top : Given h (given (fuller h (h.top.0 + 1) h.depth.0) h.top.0) st st
  given_top = record {
    rest = record { kind = refl; capacity = refl; slots = refl; weight = refl };
    stack_tail = tail_none h.slots st;
    slot = λ nx pv o f t d. rw (none_free nx pv o f t d) refl;
    top = λ nx pv o f t d. rw (none_free nx pv o f t d) (add-one h.top.0);
    linked = λ nx pv o f t d. let e = none_free nx pv o f t d in
        subst⁻¹ (λ (l : List ℕ). Linked (fuller h (h.top.0 + 1) h.depth.0) nx pv st o (but_last 1 l) (h.top.0 ∷ t)) e
        (top_linked nx pv o t (subst (λ (l : List ℕ). Linked h nx pv st o l t) e d));
  }

-- ---- from the stack

module _ (h : Head) (st st' : List ℕ) (s : ℕ) (z : h.depth.0 ≡ 0 → ⊥) (eq : s ≡ get_or st (h.depth.0 - 1) 0)
    (es : st' ≡ put_at h.slots st (h.depth.0 - 1) none_mark) where
  -- s is the last of a stack that ends in x
  module _ (nx pv o f t : List ℕ) (x : ℕ) (d : Linked h nx pv st o (f ++ x ∷ []) t) where
    deep : h.depth.0 ≡ suc (length f)
    deep = omega (arith, d.depth, length-append f (x ∷ []))

    s_is : s ≡ x
    s_is =
        let k : length f ≡ h.depth.0 - 1 = omega (arith, deep) in
        eq ∙ d.stacks (h.depth.0 - 1) (omega (arith, deep, d.size, d.fit, length-append f (x ∷ [])))
        ∙ get_or_at f x [] none_mark (h.depth.0 - 1) k

    pop_stack : (i : ℕ) → i < h.slots → get_or st' i 0 ≡ get_or f i none_mark
    pop_stack i hi =
        let k : h.depth.0 - 1 ≡ length f = omega (arith, deep) in
        rw (es, get_or_put h.slots st (h.depth.0 - 1) none_mark i d.long.stacks hi, k, d.stacks i hi) (get_or_less f x i none_mark)

    pop_linked : Linked (fuller h h.top.0 (h.depth.0 - 1)) nx pv st' o f (x ∷ t)
    pop_linked = record {
      long = record { small = d.long.small; nexts = d.long.nexts; prevs = d.long.prevs; stacks = rw (es, length_put) d.long.stacks };
      live = omega (arith, d.live);
      depth = omega (arith, deep);
      size = omega (arith, d.size, length-append f (x ∷ []));
      fit = d.fit;
      each = λ i. omega (arith, d.each i, count_append i f (x ∷ []));
      front = d.front;
      back = d.back;
      nexts = λ i hi n. d.nexts i hi (omega arith);
      prevs = λ i hi n. d.prevs i hi (omega arith) ∙ ap (prev_at none_mark o i) (place_other 0 f x i (λ e. omega (arith, hit x i e)));
      stacks = pop_stack;
    }

  some_free : (nx pv o f t : List ℕ) → Linked h nx pv st o f t → 1 ≤ length f
  some_free nx pv o [] t d = absurd (z d.depth)
  some_free nx pv o (x ∷ f) t d = omega arith

  pub given_pop : Given h (given (fuller h h.top.0 (h.depth.0 - 1)) s) st st'
  given_pop = record {
    rest = record { kind = refl; capacity = refl; slots = refl; weight = refl };
    stack_tail = put_tail h.slots st (h.depth.0 - 1) none_mark es;
    slot = λ nx pv o f t d. let b = back_of f (some_free nx pv o f t d) in
        s_is nx pv o b.front t b.back (subst (λ (l : List ℕ). Linked h nx pv st o l t) b.same d)
        ∙ sym (taken_back h.top.0 b.front b.back) ∙ ap (taken h.top.0) (sym b.same);
    top = λ nx pv o f t d. let b = back_of f (some_free nx pv o f t d) in
        sym (top_after_back h.top.0 b.front b.back) ∙ ap (top_after h.top.0) (sym b.same);
    linked = λ nx pv o f t d. let b = back_of f (some_free nx pv o f t d) in
        let d' : Linked h nx pv st o (b.front ++ b.back ∷ []) t = subst (λ (l : List ℕ). Linked h nx pv st o l t) b.same d in
        subst⁻¹ (λ (l : List ℕ). Linked (fuller h h.top.0 (h.depth.0 - 1)) nx pv st' o l (s ∷ t))
        (ap (but_last 1) b.same ∙ but_last_one b.front b.back)
        (subst⁻¹ (λ (j : ℕ). Linked (fuller h h.top.0 (h.depth.0 - 1)) nx pv st' o b.front (j ∷ t))
        (s_is nx pv o b.front t b.back d')
        (pop_linked nx pv o b.front t b.back d'));
  }
