-- A loop that removes the back: what holds at its head.
-- Assumes nothing.
use Prim.Native.Nat.{ℕ, suc, ◌+◌, ◌-◌, ◌≤◌, ◌<◌}
use native.Mathlib.Omega.{arith}
use native.Mathlib.Numerals.{add-one}
use mathlib.Core.Path.{◌≡◌, sym, ap, ◌∙◌, subst, subst⁻¹}
use mathlib.Core.List.{List, [], ◌∷◌, ◌++◌, reverse, reverse-cons, append_assoc, append-nil}
use lib.ListN.{length, get_or, drop}
use lib.Seq.{take-suc, drop-cons}
use Rattle.head.specs.declared.Head.{Head}
use Rattle.head.specs.Bounds.{none_mark}
use Rattle.model.specs.Lists.{without, only, but_last, oldest}
use Rattle.model.proofs.Backs.{but_last_none, oldest_none}
use Rattle.list.specs.Order.{last_or}
use Rattle.list.specs.Links.{Linked}
use Rattle.list.specs.Promises.{Held, Removed, Enough, Evicted}
use Rattle.list.proofs.Stores.{tail_none, tail_trans, tail_at, rest_none, rest_trans}
use Rattle.list.proofs.Chain.{last_append}
use Rattle.list.proofs.Places.{only_mid, without_mid}
use Rattle.list.proofs.Calls.{kept_none, kept_trans}

-- ---- one more leaves

-- the last of what is left after g
abbrev leaver : ℕ → List ℕ → ℕ
leaver g o = get_or o (length o - suc g) 0

but_last_less : (g : ℕ) (o : List ℕ) → g < length o → but_last g o ≡ but_last (suc g) o ++ leaver g o ∷ []
but_last_less g o h =
    let n : length o - g ≡ suc (length o - suc g) = omega arith in
    rw n (take-suc o (length o - suc g) 0 (omega arith))

oldest_more : (g : ℕ) (o : List ℕ) → g < length o → oldest (suc g) o ≡ oldest g o ++ leaver g o ∷ []
oldest_more g o h =
    let n : length o - g ≡ suc (length o - suc g) = omega arith in
    rw n (ap reverse (drop-cons o (length o - suc g) 0 (omega arith)) ∙ reverse-cons (leaver g o) (drop (suc (length o - suc g)) o))

-- ---- the loop

pub record Evicting (h₀ h : Head) (nx₀ pv₀ st₀ nx pv st : List ℕ) (k g : ℕ) : Type 0 where
  pub within : g ≤ k
  pub start : Enough h₀ nx₀ pv₀ st₀ k
  pub so_far : Evicted h₀ h nx₀ pv₀ st₀ nx pv st g

pub evicting_first : (h : Head) (nx pv st : List ℕ) (k : ℕ) → Enough h nx pv st k → Evicting h h nx pv st nx pv st k 0
evicting_first h nx pv st k s = record {
  within = omega arith;
  start = s;
  so_far = record {
    rest = rest_none h;
    next_tail = tail_none h.slots nx;
    prev_tail = tail_none h.slots pv;
    stack_tail = tail_none h.slots st;
    linked = λ o f t w d.
        subst⁻¹ (λ (l : List ℕ). Linked h nx pv st l (f ++ oldest 0 o) t) (but_last_none o)
        (subst⁻¹ (λ (l : List ℕ). Linked h nx pv st o l t) (ap (λ (l : List ℕ). f ++ l) (oldest_none o) ∙ append-nil f) d);
    kept = λ o f t w d. kept_none t nx pv;
  };
}

module _ {h₀ h : Head} {nx₀ pv₀ st₀ nx pv st : List ℕ} {k g : ℕ} (c : Evicting h₀ h nx₀ pv₀ st₀ nx pv st k g) (less : g < k) where
  -- what is left has the back as its last
  module _ (o f t : List ℕ) (w : g < length o) (d : Linked h₀ nx₀ pv₀ st₀ o f t) where
    now_linked : Linked h nx pv st (but_last g o) (f ++ oldest g o) t
    now_linked = c.so_far.linked o f t (omega arith) d

    left : but_last g o ≡ but_last (suc g) o ++ leaver g o ∷ []
    left = but_last_less g o w

    back_is : h.back.0 ≡ leaver g o
    back_is = now_linked.back ∙ ap (last_or none_mark) left ∙ last_append none_mark (but_last (suc g) o) (leaver g o ∷ [])

    there : only (length (but_last (suc g) o)) (but_last g o) ≡ h.back.0 ∷ []
    there =
        ap (only (length (but_last (suc g) o))) left ∙ only_mid (but_last (suc g) o) (leaver g o) []
        ∙ ap (λ (j : ℕ). j ∷ []) (sym back_is)

    shorter : without (length (but_last (suc g) o)) (but_last g o) ≡ but_last (suc g) o
    shorter =
        ap (without (length (but_last (suc g) o))) left ∙ without_mid (but_last (suc g) o) (leaver g o) []
        ∙ append-nil (but_last (suc g) o)

    longer : (f ++ oldest g o) ++ only (length (but_last (suc g) o)) (but_last g o) ≡ f ++ oldest (suc g) o
    longer =
        ap (λ (l : List ℕ). (f ++ oldest g o) ++ l) (there ∙ ap (λ (j : ℕ). j ∷ []) back_is)
        ∙ append_assoc f (oldest g o) (leaver g o ∷ [])
        ∙ ap (λ (l : List ℕ). f ++ l) (sym (oldest_more g o w))

  pub evicting_held : Held h nx pv st h.back.0
  evicting_held =
      let s = c.start in record {
        order = but_last g s.order;
        free = s.free ++ oldest g s.order;
        others = s.others;
        place = length (but_last (suc g) s.order);
        there = there s.order s.free s.others (omega (arith, s.some)) s.linked;
        linked = now_linked s.order s.free s.others (omega (arith, s.some)) s.linked;
      }

  module _ {r : Head} {nx' pv' st' : List ℕ} (m : Removed h r nx pv st nx' pv' st' h.back.0) where
    next_linked : (o f t : List ℕ) → suc g ≤ length o → Linked h₀ nx₀ pv₀ st₀ o f t → Linked r nx' pv' st' (but_last (suc g) o) (f ++ oldest (suc g) o) t
    next_linked o f t w d =
        subst (λ (l : List ℕ). Linked r nx' pv' st' l (f ++ oldest (suc g) o) t) (shorter o f t w d)
        (subst (λ (l : List ℕ). Linked r nx' pv' st' (without (length (but_last (suc g) o)) (but_last g o)) l t) (longer o f t w d)
        (m.linked (but_last g o) (f ++ oldest g o) t (length (but_last (suc g) o)) (there o f t w d) (now_linked o f t w d)))

    one_more : Evicted h₀ r nx₀ pv₀ st₀ nx' pv' st' (suc g)
    one_more =
        let e = c.so_far in
        let n = e.rest.slots in record {
          rest = rest_trans e.rest m.rest;
          next_tail = tail_trans e.next_tail (tail_at n m.next_tail);
          prev_tail = tail_trans e.prev_tail (tail_at n m.prev_tail);
          stack_tail = tail_trans e.stack_tail (tail_at n m.stack_tail);
          linked = next_linked;
          kept = λ o f t w d. kept_trans (e.kept o f t (omega arith) d)
              (m.kept (but_last g o) (f ++ oldest g o) t (length (but_last (suc g) o)) (there o f t w d) (now_linked o f t w d));
        }

    pub evicting_more : Evicting h₀ r nx₀ pv₀ st₀ nx' pv' st' k (g + 1)
    evicting_more = record {
      within = omega arith;
      start = c.start;
      so_far = subst⁻¹ (λ (j : ℕ). Evicted h₀ r nx₀ pv₀ st₀ nx' pv' st' j) (add-one g) one_more;
    }

pub evicting_last : {h₀ h : Head} {nx₀ pv₀ st₀ nx pv st : List ℕ} {k g : ℕ} → Evicting h₀ h nx₀ pv₀ st₀ nx pv st k g → k ≤ g → Evicted h₀ h nx₀ pv₀ st₀ nx pv st k
evicting_last {h₀} {h} {nx₀} {pv₀} {st₀} {nx} {pv} {st} {k} {g} c l =
    let e : g ≡ k = omega (arith, c.within) in
    subst (λ (j : ℕ). Evicted h₀ h nx₀ pv₀ st₀ nx pv st j) e c.so_far
