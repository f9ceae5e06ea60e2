-- A slot in use that is not in the order is put at its front.
-- Assumes nothing.
use Prim.Native.Nat.{ℕ, ◌≤◌, ◌<◌}
use native.Mathlib.Omega.{arith}
use mathlib.Core.Path.{◌≡◌, refl, sym, ◌∙◌}
use mathlib.Core.List.{List, [], ◌∷◌}
use lib.ListN.{length, get_or}
use Rattle.head.specs.declared.Head.{Head}
use Rattle.head.specs.Bounds.{none_mark}
use Rattle.model.specs.Codes.{count}
use Rattle.list.specs.Steps.{put_at, choice}
use Rattle.list.specs.Order.{last_or, next_at, prev_at, place_at}
use Rattle.list.specs.Links.{Linked}
use Rattle.list.specs.Promises.{Kept, Fronted}
use Rattle.list.proofs.Marks.{hit, miss, ifeq_same, ifeq_other, ifeq_by, below_lt, below_le}
use Rattle.list.proofs.Stores.{choice_in, choice_out, length_put, get_or_put, get_or_put_other, put_tail, tail_trans}
use Rattle.list.proofs.Chain.{count_last, not_head, prev_front}
use Rattle.list.proofs.Unlinking.{ended}

back_front : (n : ℕ) (o : List ℕ) (s : ℕ) → n ≤ none_mark → ((i : ℕ) → 1 ≤ count i o → i < n)
    → choice n (last_or none_mark o) (last_or none_mark o) s ≡ last_or s o
back_front n [] s hn all = choice_out n none_mark _ _ hn
back_front n (x ∷ o) s hn all = choice_in n (last_or x o) _ _ (all (last_or x o) (count_last x o))

module _ (h : Head) (nx pv pv1 nx' pv' : List ℕ) (s bk : ℕ)
    (e1 : pv1 ≡ put_at h.slots pv h.front.0 s) (ev : pv' ≡ put_at h.slots pv1 s none_mark)
    (en : nx' ≡ put_at h.slots nx s h.front.0) (eb : bk ≡ choice h.slots h.back.0 h.back.0 s) where
  module _ (st o f t : List ℕ) (d : Linked h nx pv st o f (s ∷ t)) where
    no_mark : (i : ℕ) → i < h.slots → none_mark ≡ i → ⊥
    no_mark i hi e = omega (arith, d.long.small)

    l1 : h.slots ≤ length pv1
    l1 = rw (e1, length_put) d.long.prevs

    front_next : (i : ℕ) → i < h.slots → count i t ≡ 0 → get_or nx' i 0 ≡ next_at (s ∷ o) i
    front_next i hi z =
        rw (en, get_or_put h.slots nx s h.front.0 i d.long.nexts hi, d.front)
        (ifeq_by s i _ _ _ (λ e. sym (ifeq_same s i _ _ e))
        (λ ne. d.nexts i hi (omega (arith, miss s i ne)) ∙ sym (ifeq_other s i _ _ ne)))

    front_prev : (i : ℕ) → i < h.slots → count i t ≡ 0 → get_or pv' i 0 ≡ prev_at none_mark (s ∷ o) i (place_at 0 f i)
    front_prev i hi z =
        rw (ev, get_or_put h.slots pv1 s none_mark i l1 hi, e1, get_or_put h.slots pv h.front.0 s i d.long.prevs hi, d.front)
        (ifeq_by s i _ _ _ (λ e. sym (ifeq_same s i _ _ e))
        (λ ne. rw (d.prevs i hi (omega (arith, miss s i ne))) (prev_front o s i (place_at 0 f i) (no_mark i hi)) ∙ sym (ifeq_other s i _ _ ne)))

    front_back : bk ≡ last_or s o
    front_back =
        eb ∙ rw d.back (back_front h.slots o s (omega (arith, d.long.small))
        (λ i c. let k : i < h.top.0 = below_lt i h.top.0 (omega (arith, d.each i)) in omega (arith, d.fit)))

    front_linked : Linked (ended h s bk) nx' pv' st (s ∷ o) f t
    front_linked = record {
      long = record {
        small = d.long.small;
        nexts = rw (en, length_put) d.long.nexts;
        prevs = rw (ev, length_put) l1;
        stacks = d.long.stacks;
      };
      live = omega (arith, d.live);
      depth = d.depth;
      size = omega (arith, d.size);
      fit = d.fit;
      each = λ i. omega (arith, d.each i);
      front = refl;
      back = front_back;
      nexts = front_next;
      prevs = front_prev;
      stacks = d.stacks;
    }

    -- the stores were made at the slot and at the old front
    front_kept : Kept t nx pv nx' pv'
    front_kept = record {
      nexts = λ i c. get_or_put_other h.slots nx s h.front.0 i en d.long.nexts (in_use i c) (not_s i c);
      prevs = λ i c. get_or_put_other h.slots pv1 s none_mark i ev l1 (in_use i c) (not_s i c)
          ∙ get_or_put_other h.slots pv h.front.0 s i e1 d.long.prevs (in_use i c)
          (λ e. not_head i o (no_mark i (in_use i c)) (omega (arith, d.each i, below_le i h.top.0)) (sym d.front ∙ e));
    }
      where
        in_use : (i : ℕ) → 1 ≤ count i t → i < h.slots
        in_use i c = let k : i < h.top.0 = below_lt i h.top.0 (omega (arith, d.each i)) in omega (arith, d.fit)

        not_s : (i : ℕ) → 1 ≤ count i t → s ≡ i → ⊥
        not_s i c e = omega (arith, hit s i e, d.each i, below_le i h.top.0)

  pub fronted : Fronted h (ended h s bk) nx pv nx' pv' s
  fronted = record {
    rest = record { kind = refl; capacity = refl; slots = refl; weight = refl };
    next_tail = put_tail h.slots nx s h.front.0 en;
    prev_tail = tail_trans (put_tail h.slots pv h.front.0 s e1) (put_tail h.slots pv1 s none_mark ev);
    linked = front_linked;
    kept = front_kept;
  }
