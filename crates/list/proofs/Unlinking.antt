-- A slot is taken out of the order.
-- Assumes nothing.
use Prim.Native.Nat.{ℕ, suc, ◌+◌, ◌≤◌, ◌<◌}
use native.Mathlib.Omega.{arith}
use mathlib.Core.Path.{◌≡◌, refl, sym, ◌∙◌, subst, subst⁻¹}
use mathlib.Core.List.{List, [], ◌∷◌, ◌++◌}
use lib.ListN.{length, get_or, length-append}
use Rattle.head.specs.declared.Head.{Head}
use Rattle.head.specs.Bounds.{none_mark}
use Rattle.model.specs.Codes.{count}
use Rattle.model.proofs.Counting.{count_append}
use Rattle.list.specs.Steps.{put_at, choice}
use Rattle.list.specs.Order.{head_or, last_or, next_at, prev_at, place_at}
use Rattle.list.specs.Links.{Linked}
use Rattle.list.specs.Promises.{Kept, Unlinked}
use Rattle.list.proofs.Marks.{hit, below_lt, below_le}
use Rattle.list.proofs.Stores.{choice_in, choice_out, length_put, get_or_put, get_or_put_other, put_tail}
use Rattle.list.proofs.Chain.{count_last, not_head, not_last, last_append, next_at_lem, prev_at_lem, next_unlink, prev_unlink}
use Rattle.list.proofs.Places.{around}

front_unlink : (n : ℕ) (a : List ℕ) (s : ℕ) (b : List ℕ) → n ≤ none_mark → ((i : ℕ) → 1 ≤ count i a → i < n)
    → choice n (last_or none_mark a) (head_or none_mark (a ++ s ∷ b)) (head_or none_mark b) ≡ head_or none_mark (a ++ b)
front_unlink n [] s b hn all = choice_out n none_mark _ _ hn
front_unlink n (x ∷ a) s b hn all = choice_in n (last_or x a) _ _ (all (last_or x a) (count_last x a))

back_unlink : (n : ℕ) (a : List ℕ) (s : ℕ) (b : List ℕ) → n ≤ none_mark → ((i : ℕ) → 1 ≤ count i b → i < n)
    → choice n (head_or none_mark b) (last_or none_mark (a ++ s ∷ b)) (last_or none_mark a) ≡ last_or none_mark (a ++ b)
back_unlink n a s [] hn all = choice_out n none_mark _ _ hn ∙ sym (last_append none_mark a [])
back_unlink n a s (y ∷ b) hn all =
    choice_in n y _ _ (all y (omega (arith, hit y y refl)))
    ∙ last_append none_mark a (s ∷ y ∷ b) ∙ sym (last_append none_mark a (y ∷ b))

-- the head with other ends
abbrev pub ended : Head → ℕ → ℕ → Head
ended h fr bk = record {
  kind = h.kind;
  capacity = h.capacity;
  slots = h.slots;
  live = h.live;
  weight = h.weight;
  front = record { 0 = fr };
  back = record { 0 = bk };
  top = h.top;
  depth = h.depth;
}

module _ (h : Head) (nx pv nx' pv' : List ℕ) (s p q fr bk : ℕ) (ep : p ≡ get_or pv s 0) (eq : q ≡ get_or nx s 0)
    (en : nx' ≡ put_at h.slots nx p q) (ev : pv' ≡ put_at h.slots pv q p)
    (ef : fr ≡ choice h.slots p h.front.0 q) (eb : bk ≡ choice h.slots q h.back.0 p) where
  module _ (st a b f t : List ℕ) (d : Linked h nx pv st (a ++ s ∷ b) f t) where
    small : (i : ℕ) → 1 ≤ count i (a ++ s ∷ b) → i < h.slots
    small i c = let k : i < h.top.0 = below_lt i h.top.0 (omega (arith, d.each i)) in omega (arith, d.fit)

    -- each slot stands once, in the order, in the stack or among the others
    once : (i : ℕ) → count i a + count i (s ∷ b) + count i f + count i t ≤ 1
    once i = omega (arith, d.each i, below_le i h.top.0, count_append i a (s ∷ b))

    at_s : s < h.slots
    at_s = small s (omega (arith, count_append s a (s ∷ b), hit s s refl))

    p_is : p ≡ last_or none_mark a
    p_is =
        ep ∙ d.prevs s at_s (omega (arith, once s, hit s s refl))
        ∙ prev_at_lem none_mark a s b (place_at 0 f s) (omega (arith, once s, hit s s refl))

    q_is : q ≡ head_or none_mark b
    q_is = eq ∙ d.nexts s at_s (omega (arith, once s, hit s s refl)) ∙ next_at_lem a s b (omega (arith, once s, hit s s refl))

    no_mark : (i : ℕ) → i < h.slots → none_mark ≡ i → ⊥
    no_mark i hi e = omega (arith, d.long.small)

    unlink_next : (i : ℕ) → i < h.slots → count i (s ∷ t) ≡ 0 → get_or nx' i 0 ≡ next_at (a ++ b) i
    unlink_next i hi z =
        rw (en, get_or_put h.slots nx p q i d.long.nexts hi, p_is, q_is, d.nexts i hi (omega arith))
        (next_unlink a s b i (λ e. omega (arith, hit s i e)) (no_mark i hi) (omega (arith, once i, count_append i a (s ∷ b))))

    unlink_prev : (i : ℕ) → i < h.slots → count i (s ∷ t) ≡ 0 → get_or pv' i 0 ≡ prev_at none_mark (a ++ b) i (place_at 0 f i)
    unlink_prev i hi z =
        rw (ev, get_or_put h.slots pv q p i d.long.prevs hi, p_is, q_is, d.prevs i hi (omega arith))
        (prev_unlink none_mark a s b i (place_at 0 f i) (λ e. omega (arith, hit s i e)) (no_mark i hi) (omega (arith, once i, count_append i a (s ∷ b))))

    unlink_front : fr ≡ head_or none_mark (a ++ b)
    unlink_front =
        rw (ef, p_is, q_is, d.front)
        (front_unlink h.slots a s b (omega (arith, d.long.small)) (λ i c. small i (omega (arith, count_append i a (s ∷ b)))))

    unlink_back : bk ≡ last_or none_mark (a ++ b)
    unlink_back =
        rw (eb, p_is, q_is, d.back)
        (back_unlink h.slots a s b (omega (arith, d.long.small)) (λ i c. small i (omega (arith, count_append i a (s ∷ b)))))

    len : length (a ++ s ∷ b) ≡ suc (length (a ++ b))
    len = omega (arith, length-append a (s ∷ b), length-append a b)

    unlink_linked : Linked (ended h fr bk) nx' pv' st (a ++ b) f (s ∷ t)
    unlink_linked = record {
      long = record {
        small = d.long.small;
        nexts = rw (en, length_put) d.long.nexts;
        prevs = rw (ev, length_put) d.long.prevs;
        stacks = d.long.stacks;
      };
      live = omega (arith, d.live, len);
      depth = d.depth;
      size = omega (arith, d.size, len);
      fit = d.fit;
      each = λ i. omega (arith, d.each i, count_append i a (s ∷ b), count_append i a b);
      front = unlink_front;
      back = unlink_back;
      nexts = unlink_next;
      prevs = unlink_prev;
      stacks = d.stacks;
    }

    -- the stores were made at the neighbours
    unlink_kept : Kept (s ∷ t) nx pv nx' pv'
    unlink_kept = record {
      nexts = λ i c. get_or_put_other h.slots nx p q i en d.long.nexts (in_use i c)
          (λ e. not_last i a (no_mark i (in_use i c)) (omega (arith, once i)) (sym p_is ∙ e));
      prevs = λ i c. get_or_put_other h.slots pv q p i ev d.long.prevs (in_use i c)
          (λ e. not_head i b (no_mark i (in_use i c)) (omega (arith, once i)) (sym q_is ∙ e));
    }
      where
        in_use : (i : ℕ) → 1 ≤ count i (s ∷ t) → i < h.slots
        in_use i c =
            let k : i < h.top.0 = below_lt i h.top.0 (omega (arith, d.each i, count_append i a (s ∷ b))) in
            omega (arith, d.fit)

  pub unlinked : Unlinked h (ended h fr bk) nx pv nx' pv' s
  unlinked = record {
    rest = record { kind = refl; capacity = refl; slots = refl; weight = refl };
    next_tail = put_tail h.slots nx p q en;
    prev_tail = put_tail h.slots pv q p ev;
    linked = λ st o f t i e d. let w = around i s o e in
        subst⁻¹ (λ (l : List ℕ). Linked (ended h fr bk) nx' pv' st l f (s ∷ t)) w.less
        (unlink_linked st w.pre w.post f t (subst (λ (l : List ℕ). Linked h nx pv st l f t) w.is d));
    kept = λ st o f t i e d. let w = around i s o e in
        unlink_kept st w.pre w.post f t (subst (λ (l : List ℕ). Linked h nx pv st l f t) w.is d);
  }
