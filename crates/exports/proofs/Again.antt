-- A head that a call leaves is read again as it was left, and a number past its width makes a head unsound.
-- Assumes nothing.
use Prim.Native.Nat.{ℕ, ◌<◌, ◌≤◌}
use mathlib.Core.List.{List, [], ◌∷◌}
use mathlib.Core.Logic.{⊎_elim}
use mathlib.Core.Path.{◌≡◌, refl, sym, ap, subst, ◌∙◌}
use native.Mathlib.Omega.{arith}
use borrow.Author.Tests.{le-leb, lt-leb, le-ltb, ne_eqb}
use lib.Dec.{eqb, ltb}
use lib.ListN.{length, get_or, length-set}
use Rattle.head.specs.declared.Head.{Head}
use Rattle.head.specs.Bounds.{none_mark}
use Rattle.model.specs.Desk.{Kind, plain, weighed, kind_number}
use Rattle.model.proofs.Cases.{split}
use Rattle.list.specs.Order.{below}
use Rattle.model.specs.Codes.{count}
use Rattle.list.proofs.Chain.{not_head, not_last}
use Rattle.table.proofs.Ring.{lt_or_le}
use Rattle.plan.specs.States.{State, Sound, state}
use Rattle.layout.specs.Heads.{narrowed, head_in, head_of, head_put, head_left}

-- the nine numbers of a head, each of the seven narrow ones narrowed
abbrev narrow_head : Head → Head
narrow_head h = record {
  kind = narrowed h.kind;
  capacity = h.capacity;
  slots = narrowed h.slots;
  live = narrowed h.live;
  weight = h.weight;
  front = record { 0 = narrowed h.front.0 };
  back = record { 0 = narrowed h.back.0 };
  top = record { 0 = narrowed h.top.0 };
  depth = record { 0 = narrowed h.depth.0 };
}

put_in : (l : List ℕ) (h : Head) → 9 ≤ length l → head_in (head_put l h) ≡ narrow_head h
put_in (a ∷ b ∷ c ∷ d ∷ e ∷ f ∷ g ∷ i ∷ j ∷ l) h n = refl
put_in [] h n = absurd (omega (arith, n))
put_in (a ∷ []) h n = absurd (omega (arith, n))
put_in (a ∷ b ∷ []) h n = absurd (omega (arith, n))
put_in (a ∷ b ∷ c ∷ []) h n = absurd (omega (arith, n))
put_in (a ∷ b ∷ c ∷ d ∷ []) h n = absurd (omega (arith, n))
put_in (a ∷ b ∷ c ∷ d ∷ e ∷ []) h n = absurd (omega (arith, n))
put_in (a ∷ b ∷ c ∷ d ∷ e ∷ f ∷ []) h n = absurd (omega (arith, n))
put_in (a ∷ b ∷ c ∷ d ∷ e ∷ f ∷ g ∷ []) h n = absurd (omega (arith, n))
put_in (a ∷ b ∷ c ∷ d ∷ e ∷ f ∷ g ∷ i ∷ []) h n = absurd (omega (arith, n))

put_long : (l : List ℕ) (h : Head) → length (head_put l h) ≡ length l
put_long l h = simp length-set

-- the head's list keeps its length
pub left_long : (r : ℕ) (l : List ℕ) (h : Head) → length (head_left r l h) ≡ length l
unfolding head_left
left_long r l h = split (eqb r 2) (λ e. rw e refl) (λ e. rw e (split (ltb (length l) 9) (λ f. rw f refl) (λ f. rw f (put_long l h))))

-- a number that a sound head may have: at most 4096, or the mark of no slot
abbrev Fine : ℕ → Type 0
Fine x = (i : ℕ) → 4096 < i → (none_mark ≡ i → ⊥) → x ≡ i → ⊥

fine_small : (x : ℕ) → x ≤ 4096 → Fine x
fine_small x h i a n e = omega (arith, h, a, e)

fine_narrow : (x : ℕ) → Fine x → narrowed x ≡ x
unfolding narrowed
fine_narrow x f =
    ⊎_elim
    (λ h. absurd (f x (omega (arith, h)) (λ e. omega (arith, e, h)) refl))
    (λ h. rw (le-leb x 4294967295 h) refl)
    (lt_or_le 4294967295 x)

fine_fits : (x : ℕ) → Fine (narrowed x) → x ≤ 4294967295
unfolding narrowed
fine_fits x f =
    ⊎_elim
    (λ h. absurd (f 4294967294 (omega arith) (λ e. omega (arith, e)) (rw (lt-leb x 4294967295 h) refl)))
    (λ h. h)
    (lt_or_le 4294967295 x)

fine_kind : (k : Kind) {x : ℕ} → x ≡ kind_number k → Fine x
fine_kind plain e i a n q = omega (arith, e, a, q)
fine_kind weighed e i a n q = omega (arith, e, a, q)

-- what each number of a sound head is
record Fines (h : Head) : Type 0 where
  pub kind : Fine h.kind
  pub slots : Fine h.slots
  pub live : Fine h.live
  pub front : Fine h.front.0
  pub back : Fine h.back.0
  pub top : Fine h.top.0
  pub depth : Fine h.depth.0

module _ (s : State) (w : Sound s) where
  slots_most : s.head.slots ≤ 4096
  slots_most = subst (λ (n : ℕ). n ≤ 4096) (sym w.described.room) w.described.lawful.room.1

  top_most : s.head.top.0 ≤ 4096
  top_most = omega (arith, w.described.links.fit, slots_most)

  lives : s.head.live ≤ s.head.top.0
  lives = omega (arith, w.described.links.live, w.described.links.size)

  depths : s.head.depth.0 ≤ s.head.top.0
  depths = omega (arith, w.described.links.depth, w.described.links.size)

  -- no slot past the largest is in the list
  count_none : (i : ℕ) → 4096 < i → count i w.cache.slots.order ≡ 0
  unfolding below
  count_none i h =
      let z : below i s.head.top.0 ≡ 0 = rw (le-ltb i s.head.top.0 (omega (arith, top_most, h))) refl in
      omega (arith, w.described.links.each i ∙ z)

  fines : Fines s.head
  fines = record {
    kind = fine_kind w.cache.desk.kind w.described.kind;
    slots = fine_small s.head.slots slots_most;
    live = fine_small s.head.live (omega (arith, lives, top_most));
    front = λ i h n e. not_head i w.cache.slots.order n (count_none i h) (sym w.described.links.front ∙ e);
    back = λ i h n e. not_last i w.cache.slots.order n (count_none i h) (sym w.described.links.back ∙ e);
    top = fine_small s.head.top.0 top_most;
    depth = fine_small s.head.depth.0 (omega (arith, depths, top_most));
  }

-- ---- a head is read again as it was left

narrow_same : (h : Head) → Fines h → narrow_head h ≡ h
narrow_same h f = λ i. record {
  kind = fine_narrow h.kind f.kind i;
  capacity = h.capacity;
  slots = fine_narrow h.slots f.slots i;
  live = fine_narrow h.live f.live i;
  weight = h.weight;
  front = record { 0 = fine_narrow h.front.0 f.front i };
  back = record { 0 = fine_narrow h.back.0 f.back i };
  top = record { 0 = fine_narrow h.top.0 f.top i };
  depth = record { 0 = fine_narrow h.depth.0 f.depth i };
}

-- what a call writes of a sound state's head, the next call reads
pub read_again : (s : State) → Sound s → (l : List ℕ) (r room : ℕ) → (r ≡ 2 → ⊥) → 9 ≤ length l → 8 ≤ room → head_of (head_left r l s.head) room ≡ s.head
unfolding head_of head_left
read_again s w l r room q n m =
    let long : 9 ≤ length (head_put l s.head) = subst (λ (k : ℕ). 9 ≤ k) (sym (put_long l s.head)) n in
    let left : head_left r l s.head ≡ head_put l s.head = rw (ne_eqb r 2 q, le-ltb (length l) 9 n) refl in
    let whole : head_of (head_put l s.head) room ≡ head_in (head_put l s.head) = rw (le-ltb (length (head_put l s.head)) 9 long, le-ltb room 8 m) refl in
    ap (λ (k : List ℕ). head_of k room) left ∙ whole ∙ put_in l s.head n ∙ narrow_same s.head (fines s w)

-- ---- a number past its width

-- the seven numbers of a head's list that are of 32 bits are within them
pub record Widths (l : List ℕ) : Type 0 where
  pub kind : get_or l 0 0 ≤ 4294967295
  pub slots : get_or l 2 0 ≤ 4294967295
  pub live : get_or l 3 0 ≤ 4294967295
  pub front : get_or l 5 0 ≤ 4294967295
  pub back : get_or l 6 0 ≤ 4294967295
  pub top : get_or l 7 0 ≤ 4294967295
  pub depth : get_or l 8 0 ≤ 4294967295

-- a list that a call takes for a sound head has no number past its width
pub sound_widths : (l : List ℕ) (room : ℕ) (codes stamps values weights nexts prevs stack cells : List ℕ) → 9 ≤ length l → 8 ≤ room
    → Sound (state (head_of l room) codes stamps values weights nexts prevs stack cells)
    → Widths l
unfolding head_of
sound_widths l room codes stamps values weights nexts prevs stack cells n m w =
    let e : head_of l room ≡ head_in l = rw (le-ltb (length l) 9 n, le-ltb room 8 m) refl in
    let f : Fines (head_in l) = subst Fines e (fines (state (head_of l room) codes stamps values weights nexts prevs stack cells) w) in
    record {
      kind = fine_fits (get_or l 0 0) f.kind;
      slots = fine_fits (get_or l 2 0) f.slots;
      live = fine_fits (get_or l 3 0) f.live;
      front = fine_fits (get_or l 5 0) f.front;
      back = fine_fits (get_or l 6 0) f.back;
      top = fine_fits (get_or l 7 0) f.top;
      depth = fine_fits (get_or l 8 0) f.depth;
    }
