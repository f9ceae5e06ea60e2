-- The test of a slot's four zeros, as facts; and the slots that are not in the order: those of the stack, and those from top on.
-- Assumes nothing.
use Prim.Native.Nat.{ℕ, suc, ◌-◌, ◌≤◌, ◌<◌}
use mathlib.Core.Bool.{true}
use mathlib.Core.List.{List, [], ◌∷◌}
use mathlib.Core.Logic.{⊎_elim}
use mathlib.Core.Path.{◌≡◌, sym, ap, ◌∙◌, subst}
use native.Mathlib.Omega.{arith}
use lib.Dec.{eqb}
use lib.ListN.{length, get_or}
use borrow.Author.Tests.{eqb-true, eq-eqb}
use Rattle.head.specs.declared.Head.{Head}
use Rattle.head.specs.declared.Row.{Row}
use Rattle.head.specs.Bounds.{none_mark}
use Rattle.model.specs.Codes.{count}
use Rattle.model.proofs.Cases.{both}
use Rattle.list.specs.Links.{Linked}
use Rattle.list.specs.Inspect.{all_from}
use Rattle.list.proofs.Marks.{same?, under?, miss, below_in, below_out}
use Rattle.list.proofs.Unique.{get_d_any}
use Rattle.list.proofs.Walked.{and_in, all_at, all_of}
use Rattle.list.proofs.Within.{in_slots, once}
use Rattle.compact.proofs.Renaming.{count_get_or}
use Rattle.head.specs.Fields.{Fields}
use Rattle.store.specs.State.{entry_in, blank}
use Rattle.inspect.specs.Tests.{blank_at, stack_blank}

-- a slot's test passes exactly where it holds nothing
blank_is : (f : Fields) (u : ℕ) → blank_at f u ≡ true → entry_in f u ≡ blank
unfolding blank_at
blank_is f u e =
    let a = both (eqb (get_or f.codes u 0) 0) _ e in
    let b = both (eqb (get_or f.stamps u 0) 0) _ a.1 in
    let c = both (eqb (get_or f.values u 0) 0) _ b.1 in
    rw (
      eqb-true (get_or f.codes u 0) 0 a.0,
      eqb-true (get_or f.stamps u 0) 0 b.0,
      eqb-true (get_or f.values u 0) 0 c.0,
      eqb-true (get_or f.weights u 0) 0 c.1,
    )

blank_passes : (f : Fields) (u : ℕ) → entry_in f u ≡ blank → blank_at f u ≡ true
unfolding blank_at
blank_passes f u z =
    and_in _ _ (eq-eqb (get_or f.codes u 0) 0 (ap (λ (r : Row). r.code.0) z))
    (and_in _ _ (eq-eqb (get_or f.stamps u 0) 0 (ap (λ (r : Row). r.stamp) z))
    (and_in _ _ (eq-eqb (get_or f.values u 0) 0 (ap (λ (r : Row). r.value) z)) (eq-eqb (get_or f.weights u 0) 0 (ap (λ (r : Row). r.weight) z))))

-- ---- the stack's slots

-- where a number stands in a list
record At (l : List ℕ) (u : ℕ) : Type 0 where
  place : ℕ
  inside : place < length l
  holds : get_or l place none_mark ≡ u

counted_at : (u : ℕ) (l : List ℕ) → 1 ≤ count u l → At l u
counted_at u [] h = absurd (omega arith)
counted_at u (x ∷ l) h =
    ⊎_elim
    (λ (q : x ≡ u). record { place = 0; inside = omega arith; holds = q })
    (λ n. let r = counted_at u l (omega (arith, miss x u n)) in record { place = suc r.place; inside = omega (arith, r.inside); holds = r.holds })
    (same? x u)

module _ {h : Head} {nx pv st o free : List ℕ} (l : Linked h nx pv st o free []) where
  -- what the stack's list holds below the depth is one of the stack's slots
  on_stack : (k : ℕ) → k < h.depth.0 → 1 ≤ count (get_or st k 0) free
  on_stack k i =
      let f : k < length free = omega (arith, l.depth) in
      let e : get_or free k 0 ≡ get_or st k 0 = get_d_any free k 0 none_mark f ∙ sym (l.stacks k (omega (arith, l.size, l.fit))) in
      subst (λ (x : ℕ). 1 ≤ count x free) e (count_get_or free k f)

  pub stack_below : (k : ℕ) → k < h.depth.0 → get_or st k 0 < h.slots
  stack_below k i = in_slots l (get_or st k 0) (omega (arith, on_stack k i))

  module _ (f : Fields) where
    -- slots on the stack and from top on are blank: all that are not in the order are
    pub blanks_are : all_from h.depth.0 0 (stack_blank f st) ≡ true → all_from (h.slots - h.top.0) h.top.0 (blank_at f) ≡ true
        → (u : ℕ) → u < h.slots → count u o ≡ 0 → entry_in f u ≡ blank
    unfolding stack_blank
    blanks_are a b u k z =
        ⊎_elim
        (λ (t : u < h.top.0).
        let p = counted_at u free (omega (arith, l.each u, below_in u h.top.0 t)) in
        let i = p.inside in
        let e : get_or st p.place 0 ≡ u = l.stacks p.place (omega (arith, l.size, l.fit)) ∙ p.holds in
        subst (λ (x : ℕ). entry_in f x ≡ blank) e (blank_is f (get_or st p.place 0) (all_at h.depth.0 0 _ a p.place (omega arith) (omega (arith, l.depth)))))
        (λ (t : h.top.0 ≤ u). blank_is f u (all_at (h.slots - h.top.0) h.top.0 _ b u t (omega (arith, l.fit))))
        (under? u h.top.0)

    -- and all of them blank: so are those on the stack, and those from top on
    module _ (b : (u : ℕ) → u < h.slots → count u o ≡ 0 → entry_in f u ≡ blank) where
      pub are_stacked : all_from h.depth.0 0 (stack_blank f st) ≡ true
      unfolding stack_blank
      are_stacked =
          all_of h.depth.0 0 _ (λ k lo hi.
          let u : ℕ = get_or st k 0 in
          let i : k < h.depth.0 = omega arith in
          blank_passes f u (b u (stack_below k i) (omega (arith, once l u, on_stack k i))))

      pub are_rest : all_from (h.slots - h.top.0) h.top.0 (blank_at f) ≡ true
      are_rest =
          all_of (h.slots - h.top.0) h.top.0 _ (λ u lo hi.
          blank_passes f u (b u (omega (arith, l.fit)) (omega (arith, l.each u, below_out u h.top.0 lo))))
