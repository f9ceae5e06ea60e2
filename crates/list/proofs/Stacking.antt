-- A slot in use that is not in the order goes on the free stack.
-- Assumes nothing.
use Prim.Native.Nat.{ℕ, zero, suc, ◌+◌, ◌-◌, ◌≤◌, ◌<◌}
use native.Mathlib.Omega.{arith}
use mathlib.Core.Path.{◌≡◌, refl, sym, ap, ◌∙◌, subst}
use mathlib.Core.List.{List, [], ◌∷◌, ◌++◌}
use lib.ListN.{length, get_or, length-append, get_or-eq_default}
use Rattle.head.specs.declared.Head.{Head}
use Rattle.head.specs.Bounds.{none_mark, unused_mark}
use Rattle.model.specs.Codes.{count}
use Rattle.model.proofs.Counting.{count_append}
use Rattle.list.specs.Steps.{put_at}
use Rattle.list.specs.Order.{ifeq, next_at, prev_at, place_at}
use Rattle.list.specs.Links.{Linked}
use Rattle.list.specs.Promises.{Kept, Released}
use Rattle.list.proofs.Marks.{hit, miss, ifeq_same, ifeq_other, ifeq_suc, ifeq_by, below_lt, below_le}
use Rattle.list.proofs.Stores.{length_put, get_or_put, get_or_put_other, put_tail}
use Rattle.list.proofs.Chain.{place_at_lem, next_absent, prev_absent}

-- ---- a stack with one more at its end

pub place_other : (k : ℕ) (f : List ℕ) (s i : ℕ) → (s ≡ i → ⊥) → place_at k (f ++ s ∷ []) i ≡ place_at k f i
place_other k [] s i d = ifeq_other s i _ _ d
place_other k (x ∷ f) s i d = ap (ifeq x i k) (place_other (suc k) f s i d)

get_or_more : (f : List ℕ) (s i d : ℕ) → get_or (f ++ s ∷ []) i d ≡ ifeq (length f) i s (get_or f i d)
get_or_more [] s zero d = sym (ifeq_same 0 0 _ _ refl)
get_or_more [] s (suc i) d = sym (ifeq_other 0 (suc i) _ _ (λ e. omega arith))
get_or_more (x ∷ f) s zero d = sym (ifeq_other (suc (length f)) 0 _ _ (λ e. omega arith))
get_or_more (x ∷ f) s (suc i) d = get_or_more f s i d ∙ sym (ifeq_suc (length f) i s (get_or f i d))

pub get_or_less : (f : List ℕ) (s i d : ℕ) → ifeq (length f) i d (get_or (f ++ s ∷ []) i d) ≡ get_or f i d
get_or_less f s i d =
    ifeq_by (length f) i _ _ _ (λ e. sym (get_or-eq_default f d (omega arith)))
    (λ n. get_or_more f s i d ∙ ifeq_other (length f) i _ _ n)

-- ---- a slot goes on the stack

abbrev deeper : Head → Head
deeper h = record {
  kind = h.kind;
  capacity = h.capacity;
  slots = h.slots;
  live = h.live - 1;
  weight = h.weight;
  front = h.front;
  back = h.back;
  top = h.top;
  depth = record { 0 = h.depth.0 + 1 };
}

module _ (h : Head) (nx pv st nx' pv' st' : List ℕ) (s : ℕ)
    (en : nx' ≡ put_at h.slots nx s unused_mark) (ev : pv' ≡ put_at h.slots pv s h.depth.0)
    (es : st' ≡ put_at h.slots st h.depth.0 s) where
  module _ (o f t : List ℕ) (d : Linked h nx pv st o f (s ∷ t)) where
    alone : count s o + count s f + count s t ≡ 0
    alone = omega (arith, d.each s, hit s s refl, below_le s h.top.0)

    release_next : (i : ℕ) → i < h.slots → count i t ≡ 0 → get_or nx' i 0 ≡ next_at o i
    release_next i hi z =
        rw (en, get_or_put h.slots nx s unused_mark i d.long.nexts hi)
        (ifeq_by s i _ _ _
        (λ e. subst (λ (j : ℕ). unused_mark ≡ next_at o j) e (sym (next_absent o s (omega (arith, alone)))))
        (λ ne. d.nexts i hi (omega (arith, miss s i ne))))

    release_prev : (i : ℕ) → i < h.slots → count i t ≡ 0 → get_or pv' i 0 ≡ prev_at none_mark o i (place_at 0 (f ++ s ∷ []) i)
    release_prev i hi z =
        rw (ev, get_or_put h.slots pv s h.depth.0 i d.long.prevs hi)
        (ifeq_by s i _ _ _
        (λ e. subst (λ (j : ℕ). h.depth.0 ≡ prev_at none_mark o j (place_at 0 (f ++ s ∷ []) j)) e
        (omega (arith, d.depth, prev_absent none_mark o s (place_at 0 (f ++ s ∷ []) s) (omega (arith, alone)), place_at_lem 0 f s [] (omega (arith, alone)))))
        (λ ne. d.prevs i hi (omega (arith, miss s i ne)) ∙ ap (prev_at none_mark o i) (sym (place_other 0 f s i ne))))

    release_stack : (i : ℕ) → i < h.slots → get_or st' i 0 ≡ get_or (f ++ s ∷ []) i none_mark
    release_stack i hi =
        rw (es, get_or_put h.slots st h.depth.0 s i d.long.stacks hi, d.depth, d.stacks i hi) (sym (get_or_more f s i none_mark))

    release_linked : Linked (deeper h) nx' pv' st' o (f ++ s ∷ []) t
    release_linked = record {
      long = record {
        small = d.long.small;
        nexts = rw (en, length_put) d.long.nexts;
        prevs = rw (ev, length_put) d.long.prevs;
        stacks = rw (es, length_put) d.long.stacks;
      };
      live = omega (arith, d.live);
      depth = omega (arith, d.depth, length-append f (s ∷ []));
      size = omega (arith, d.size, length-append f (s ∷ []));
      fit = d.fit;
      each = λ i. omega (arith, d.each i, count_append i f (s ∷ []));
      front = d.front;
      back = d.back;
      nexts = release_next;
      prevs = release_prev;
      stacks = release_stack;
    }

    release_kept : Kept t nx pv nx' pv'
    release_kept = record {
      nexts = λ i c. get_or_put_other h.slots nx s unused_mark i en d.long.nexts (in_use i c) (not_s i c);
      prevs = λ i c. get_or_put_other h.slots pv s h.depth.0 i ev d.long.prevs (in_use i c) (not_s i c);
    }
      where
        in_use : (i : ℕ) → 1 ≤ count i t → i < h.slots
        in_use i c = let k : i < h.top.0 = below_lt i h.top.0 (omega (arith, d.each i)) in omega (arith, d.fit)

        not_s : (i : ℕ) → 1 ≤ count i t → s ≡ i → ⊥
        not_s i c e = omega (arith, hit s i e, d.each i, below_le i h.top.0)

  pub released : Released h (deeper h) nx pv st nx' pv' st' s
  released = record {
    rest = record { kind = refl; capacity = refl; slots = refl; weight = refl };
    next_tail = put_tail h.slots nx s unused_mark en;
    prev_tail = put_tail h.slots pv s h.depth.0 ev;
    stack_tail = put_tail h.slots st h.depth.0 s es;
    linked = release_linked;
    kept = release_kept;
  }
