-- Slots in ascending order: how often each stands there, and what the links say of them.
-- Assumes nothing.
use Prim.Native.Nat.{ℕ, zero, suc, ◌+◌, ◌-◌, ◌≤◌, ◌<◌}
use native.Mathlib.Omega.{arith}
use mathlib.Core.Path.{◌≡◌, refl, sym, ap, ◌∙◌}
use mathlib.Core.Logic.{⊎_elim}
use mathlib.Core.List.{List, []}
use lib.ListN.{length, get_or, get_or-eq_default}
use Rattle.head.specs.declared.Head.{Head}
use Rattle.head.specs.Bounds.{none_mark}
use Rattle.model.specs.Codes.{count}
use Rattle.model.specs.Slots.{up_from}
use Rattle.list.specs.Order.{below, head_or, last_or, next_at, prev_at, place_at}
use Rattle.list.specs.Links.{Linked}
use Rattle.list.proofs.Marks.{same?, under?, ifeq_same, ifeq_other, ifeq_by, below_in, below_out, hit, miss}
use Rattle.list.proofs.Chain.{next_absent, prev_absent, place_absent}
use Rattle.compact.specs.Anew.{HeadOf, FrontOf, BackOf, NextOf, PrevOf, StackOf}
use Rattle.compact.specs.Compact.{Writable, LinksWritten}

pub up_length : (a n : ℕ) → length (up_from a n) ≡ n
up_length a zero = refl
up_length a (suc n) = ap suc (up_length (suc a) n)

pub up_get_or : (a n k d : ℕ) → k < n → get_or (up_from a n) k d ≡ a + k
up_get_or a zero k d h = absurd (omega arith)
up_get_or a (suc n) zero d h = omega arith
up_get_or a (suc n) (suc k) d h = up_get_or (suc a) n k d (omega arith) ∙ omega arith

pub up_out : (a n x : ℕ) → x < a → count x (up_from a n) ≡ 0
up_out a zero x h = refl
up_out a (suc n) x h = omega (arith, miss a x (λ e. omega arith), up_out (suc a) n x (omega arith))

pub up_past : (a n x : ℕ) → a + n ≤ x → count x (up_from a n) ≡ 0
up_past a zero x h = refl
up_past a (suc n) x h = omega (arith, miss a x (λ e. omega arith), up_past (suc a) n x (omega arith))

pub up_in : (a n x : ℕ) → a ≤ x → x < a + n → count x (up_from a n) ≡ 1
up_in a zero x h k = absurd (omega arith)
up_in a (suc n) x h k =
    ⊎_elim
    (λ e. omega (arith, hit a x (sym e), up_out (suc a) n x (omega arith)))
    (λ d. omega (arith, miss a x (λ k. d (sym k)), up_in (suc a) n x (omega arith) (omega arith)))
    (same? x a)

pub up_place : (k a n x : ℕ) → a ≤ x → x < a + n → place_at k (up_from a n) x ≡ k + (x - a)
up_place k a zero x h l = absurd (omega arith)
up_place k a (suc n) x h l =
    ifeq_by a x _ _ _ (λ e. omega arith) (λ d. up_place (suc k) (suc a) n x (omega arith) (omega arith) ∙ omega arith)

pub up_next : (a n x : ℕ) → a ≤ x → suc x < a + n → next_at (up_from a n) x ≡ x + 1
up_next a zero x h l = absurd (omega arith)
up_next a (suc zero) x h l = absurd (omega arith)
up_next a (suc (suc n)) x h l =
    ifeq_by a x _ _ _ (λ e. omega arith) (λ d. up_next (suc a) (suc n) x (omega arith) (omega arith))

pub up_next_last : (a n x : ℕ) → a ≤ x → suc x ≡ a + n → next_at (up_from a n) x ≡ none_mark
up_next_last a zero x h l = absurd (omega arith)
up_next_last a (suc zero) x h l = ifeq_same a x _ _ (omega arith)
up_next_last a (suc (suc n)) x h l =
    ifeq_by a x _ _ _ (λ e. absurd (omega arith)) (λ d. up_next_last (suc a) (suc n) x (omega arith) (omega arith))

pub up_prev : (p a n x d : ℕ) → a < x → x < a + n → prev_at p (up_from a n) x d ≡ x - 1
up_prev p a zero x d h l = absurd (omega arith)
up_prev p a (suc zero) x d h l = absurd (omega arith)
up_prev p a (suc (suc n)) x d h l =
    ifeq_other a x _ _ (λ e. omega arith)
    ∙ ifeq_by (suc a) x _ _ _ (λ e. omega arith)
    (λ q. sym (ifeq_other (suc a) x _ _ q) ∙ up_prev a (suc a) (suc n) x d (omega arith) (omega arith))

pub up_last : (p a n : ℕ) → last_or p (up_from a (suc n)) ≡ a + n
up_last p a zero = omega arith
up_last p a (suc n) = up_last a (suc a) n ∙ omega arith

-- ---- the numbers that are written are those that the links of such an order hold

front_is : (l r : ℕ) → FrontOf l r → r ≡ head_or none_mark (up_from 0 l)
front_is zero r w = w.none refl
front_is (suc l) r w = w.some (omega arith)

back_is : (l r : ℕ) → BackOf l r → r ≡ last_or none_mark (up_from 0 l)
back_is zero r w = w.none refl
back_is (suc l) r w = omega (arith, w.some (omega arith), up_last none_mark 0 l)

next_is : (l i r : ℕ) → NextOf l i r → r ≡ next_at (up_from 0 l) i
next_is l i r w =
    ⊎_elim
    (λ a. w.more a ∙ sym (up_next 0 l i (omega arith) (omega arith)))
    (λ a. ⊎_elim
    (λ b. w.last (omega arith) ∙ sym (up_next_last 0 l i (omega arith) (omega arith)))
    (λ b. w.out b ∙ sym (next_absent (up_from 0 l) i (up_past 0 l i (omega arith))))
    (under? i l))
    (under? (i + 1) l)

prev_in : (l t i r d : ℕ) → PrevOf l t i r → i < l → r ≡ prev_at none_mark (up_from 0 l) i d
prev_in zero t i r d w h = absurd (omega arith)
prev_in (suc l) t i r d w h =
    ⊎_elim
    (λ e. w.first h e ∙ sym (ifeq_same 0 i _ _ (sym e)))
    (λ n. w.more h (omega arith) ∙ sym (up_prev none_mark 0 (suc l) i d (omega arith) (omega arith)))
    (same? i 0)

prev_is : (l t i r : ℕ) → l ≤ t → PrevOf l t i r → r ≡ prev_at none_mark (up_from 0 l) i (place_at 0 (up_from l (t - l)) i)
prev_is l t i r h w =
    ⊎_elim
    (λ a. prev_in l t i r _ w a)
    (λ a. rw (prev_absent none_mark (up_from 0 l) i (place_at 0 (up_from l (t - l)) i) (up_past 0 l i (omega arith))) (⊎_elim
    (λ b. omega (arith, w.free a b, up_place 0 l (t - l) i (omega arith) (omega arith)))
    (λ b. w.out a b ∙ sym (place_absent 0 (up_from l (t - l)) i (up_past l (t - l) i (omega arith))))
    (under? i t)))
    (under? i l)

stack_is : (l t k r : ℕ) → StackOf l t k r → r ≡ get_or (up_from l (t - l)) k none_mark
stack_is l t k r w =
    ⊎_elim
    (λ a. w.free a ∙ sym (up_get_or l (t - l) k none_mark a))
    (λ a. w.out a ∙ sym (get_or-eq_default (up_from l (t - l)) none_mark (omega (arith, up_length l (t - l)))))
    (under? k (t - l))

each_is : (l t x : ℕ) → l ≤ t → count x (up_from 0 l) + count x (up_from l (t - l)) ≡ below x t
each_is l t x h =
    ⊎_elim
    (λ a. omega (arith, up_in 0 l x (omega arith) (omega arith), up_out l (t - l) x a, below_in x t (omega arith)))
    (λ a. ⊎_elim
    (λ b. omega (arith, up_past 0 l x (omega arith), up_in l (t - l) x a (omega arith), below_in x t b))
    (λ b. omega (arith, up_past 0 l x (omega arith), up_past l (t - l) x (omega arith), below_out x t b))
    (under? x t))
    (under? x l)

-- links that are written so, under such a head, describe the slots below `live` in this order and those from there to t on the stack
pub written_linked : (h r : Head) (t : ℕ) (nx pv st nx' pv' st' : List ℕ) → Writable h.slots h.live t nx pv st → HeadOf h t r
    → LinksWritten h.slots h.live t nx pv st nx' pv' st'
    → Linked r nx' pv' st' (up_from 0 h.live) (up_from h.live (t - h.live)) []
written_linked h r t nx pv st nx' pv' st' g y w =
    let l = h.live in
    let n : r.slots ≡ h.slots = y.rest.slots in
    record {
      long = record {
        small = omega (arith, g.small);
        nexts = omega (arith, g.nexts, w.nexts.tail.size);
        prevs = omega (arith, g.prevs, w.prevs.tail.size);
        stacks = omega (arith, g.stacks, w.stacks.tail.size);
      };
      live = omega (arith, y.live, up_length 0 l);
      depth = omega (arith, y.depth, up_length l (t - l));
      size = omega (arith, y.top, g.low, up_length 0 l, up_length l (t - l));
      fit = omega (arith, y.top, g.high);
      each = λ i. rw y.top (omega (arith, each_is l t i g.low));
      front = front_is l r.front.0 y.front;
      back = back_is l r.back.0 y.back;
      nexts = λ i k z. next_is l i (get_or nx' i 0) (w.nexts.at i (omega arith));
      prevs = λ i k z. prev_is l t i (get_or pv' i 0) g.low (w.prevs.at i (omega arith));
      stacks = λ i k. stack_is l t i (get_or st' i 0) (w.stacks.at i (omega arith));
    }
