-- The tests of the head's numbers, as facts; and the kind of a number.
-- Assumes nothing.
use Prim.Native.Nat.{ℕ, ◌+◌, ◌-◌, ◌≤◌}
use mathlib.Core.Bool.{true, cond}
use mathlib.Core.Path.{◌≡◌, refl}
use native.Mathlib.Omega.{arith}
use lib.Dec.{eqb, leb}
use borrow.Author.Tests.{eqb-true, eqb-false, eq-eqb, leb-true, le-leb}
use Rattle.head.specs.declared.Head.{Head}
use Rattle.head.specs.Bounds.{plain_kind, weighed_kind, most_capacity, most_slots, allowed, capacity_ok}
use Rattle.model.specs.Desk.{Kind, plain, weighed, kind_number, kind_of}
use Rattle.model.proofs.Cases.{split, both}
use Rattle.list.proofs.Walked.{and_in}
use Rattle.inspect.specs.Tests.{head_ok}

-- ---- kinds

pub kind_number_lem : (k : ℕ) → k ≤ weighed_kind → k ≡ kind_number (kind_of k)
kind_number_lem k l = split (eqb k plain_kind) (λ e. rw e (eqb-true k plain_kind e)) (λ e. rw e (omega (arith, eqb-false k plain_kind e)))

pub kind_plain : (k : ℕ) → kind_of k ≡ plain → k ≡ plain_kind
kind_plain k q =
    split (eqb k plain_kind)
    (λ e. eqb-true k plain_kind e)
    (λ e. let z : weighed ≡ plain = rw e at q in let y : ◌≡◌ {A = ℕ} 0 1 = cc in absurd (omega arith))

pub number_plain : (k : Kind) → kind_number k ≡ plain_kind → k ≡ plain
number_plain plain e = refl
number_plain weighed e = absurd (omega arith)

pub number_small : (k : Kind) → kind_number k ≤ weighed_kind
number_small plain = omega arith
number_small weighed = omega arith

-- ---- the head's numbers

pub record Numbered (h : Head) : Type 0 where
  pub kind : h.kind ≤ weighed_kind
  pub capacity : (1 ≤ h.capacity) × (h.capacity ≤ most_capacity)
  pub slots : (1 ≤ h.slots) × (h.slots ≤ most_slots)
  pub within : h.live + h.weight ≤ h.capacity
  pub light : h.kind ≡ plain_kind → h.weight ≡ 0

pub numbered : (h : Head) → head_ok h ≡ true → Numbered h
unfolding head_ok
numbered h e =
    let a = both (allowed h.kind h.capacity h.slots) _ e in
    let b = both (leb h.weight h.capacity) _ a.1 in
    let d = both (leb h.live (h.capacity - h.weight)) _ b.1 in
    let k = both (leb h.kind weighed_kind) _ a.0 in
    let m = both (capacity_ok h.capacity) _ k.1 in
    let c = both (leb 1 h.capacity) _ m.0 in
    let s = both (leb 1 h.slots) _ m.1 in
    record {
      kind = leb-true h.kind weighed_kind k.0;
      capacity = (leb-true 1 h.capacity c.0, leb-true h.capacity most_capacity c.1);
      slots = (leb-true 1 h.slots s.0, leb-true h.slots most_slots s.1);
      within = omega (arith, leb-true h.weight h.capacity b.0, leb-true h.live (h.capacity - h.weight) d.0);
      light = λ q. eqb-true h.weight 0 (rw (eq-eqb h.kind plain_kind q) at d.1);
    }

pub head_passes : (h : Head) → Numbered h → head_ok h ≡ true
unfolding head_ok
head_passes h n =
    let light : cond (eqb h.kind plain_kind) (eqb h.weight 0) true ≡ true =
    split (eqb h.kind plain_kind) (λ e. rw e (eq-eqb h.weight 0 (n.light (eqb-true h.kind plain_kind e)))) (λ e. rw e) in
    and_in _ _
    (and_in _ _ (le-leb h.kind weighed_kind n.kind)
    (and_in _ _ (and_in _ _ (le-leb 1 h.capacity n.capacity.0) (le-leb h.capacity most_capacity n.capacity.1))
    (and_in _ _ (le-leb 1 h.slots n.slots.0) (le-leb h.slots most_slots n.slots.1))))
    (and_in _ _ (le-leb h.weight h.capacity (omega (arith, n.within)))
    (and_in _ _ (le-leb h.live (h.capacity - h.weight) (omega (arith, n.within))) light))
