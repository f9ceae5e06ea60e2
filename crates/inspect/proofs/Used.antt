-- The slots in use below top are the order's: each of them stands exactly where each slot of the order does.
-- Assumes nothing.
use Prim.Native.Nat.{ℕ, ◌+◌, ◌*◌, ◌≤◌, ◌<◌}
use mathlib.Core.Bool.{Bool, true}
use mathlib.Core.List.Memᴰ
use mathlib.Core.List.{List, [], ◌∷◌, Memᴰ}
use mathlib.Core.Logic.{⊎_elim}
use mathlib.Core.Path.{◌≡◌, refl, sym, ap, ◌∙◌, subst}
use native.Mathlib.Omega.{arith}
use lib.Dec.{eqb}
use lib.ListN.{get_or}
use borrow.Author.Tests.{eqb-true, eqb-false, eq-eqb, ne_eqb}
use Rattle.head.specs.declared.Head.{Head}
use Rattle.head.specs.Bounds.{none_mark, unused_mark}
use Rattle.model.specs.Codes.{count}
use Rattle.model.proofs.Cases.{split, both}
use Rattle.list.specs.Links.{Linked}
use Rattle.list.specs.Inspect.{all_from}
use Rattle.list.proofs.Marks.{under?}
use Rattle.list.proofs.Walked.{and_in, all_at, all_of}
use Rattle.list.proofs.Walks.{marked_unused, marked_used}
use Rattle.list.proofs.Within.{in_top}
use Rattle.table.specs.Acts.{standing, all_standing}
use Rattle.model.proofs.Members.{counted_member, member_counted}
use Rattle.crc.specs.Home.{home_of}
use Rattle.crc.proofs.Homes.{home_lt}
use Rattle.table.specs.declared.Search.TheVariants.{Found}
use Rattle.table.specs.Cells.{slot_of, wrap}
use Rattle.table.specs.Sound.{Gapped}
use Rattle.table.proofs.Ring.{wrap_zero}
use Rattle.table.proofs.Seek.{lookup_some}
use Rattle.table.proofs.Answers.{names_found}
use Rattle.inspect.specs.Tests.{used_stands}

module _ (home : ℕ → ℕ) (m : ℕ) (cells codes : List ℕ) where
  -- a slot stands
  abbrev stands : ℕ → Bool
  stands = standing home m cells codes

  -- the test of an order, as a fact about each of its slots
  each_stands : (o : List ℕ) → all_standing home m cells codes o ≡ true → (s : ℕ) → Memᴰ s o → stands s ≡ true
  unfolding all_standing
  each_stands [] e s k = absurd (Memᴰ.not-nil k)
  each_stands (t ∷ o) e s k =
      let b = both (stands t) _ e in
      ⊎_elim (λ (q : s ≡ t). ap stands q ∙ b.0) (each_stands o b.1 s) (Memᴰ.cases_cons k)

  stands_each : (o : List ℕ) → ((s : ℕ) → Memᴰ s o → stands s ≡ true) → all_standing home m cells codes o ≡ true
  unfolding all_standing
  stands_each [] h = refl
  stands_each (t ∷ o) h = and_in _ _ (h t (Memᴰ.head refl)) (stands_each o (λ s k. h s (Memᴰ.tail k)))

  module _ (nx : List ℕ) where
    -- the test, at a slot with the unused mark and at any other
    pub used_none : (s : ℕ) → get_or nx s 0 ≡ unused_mark → true ≡ used_stands home m cells codes nx s
    unfolding used_stands
    used_none s e = rw (eq-eqb (get_or nx s 0) unused_mark e)

    pub used_some : (s : ℕ) → (get_or nx s 0 ≡ unused_mark → ⊥) → stands s ≡ used_stands home m cells codes nx s
    unfolding used_stands
    used_some s n = rw (ne_eqb (get_or nx s 0) unused_mark n)

  -- the unused mark tells the slots of the order from the others below top
  module _ {h : Head} {nx pv st o free : List ℕ} (l : Linked h nx pv st o free []) where
    pub used_standing : all_from h.top.0 0 (used_stands home m cells codes nx) ≡ true → all_standing home m cells codes o ≡ true
    used_standing e =
        stands_each o (λ s k.
        let c = member_counted s o k in
        let t = in_top l s (omega arith) in
        used_some nx s (marked_used l s c) ∙ all_at h.top.0 0 _ e s (omega arith) (omega arith))

    pub standing_used : all_standing home m cells codes o ≡ true → all_from h.top.0 0 (used_stands home m cells codes nx) ≡ true
    standing_used e =
        all_of h.top.0 0 _ (λ s lo hi.
        split (eqb (get_or nx s 0) unused_mark)
        (λ t. sym (used_none nx s (eqb-true (get_or nx s 0) unused_mark t)))
        (λ t.
        let n = eqb-false (get_or nx s 0) unused_mark t in
        sym (used_some nx s n)
        ∙ each_stands o e s (counted_member s o
        (⊎_elim
        (λ (p : 0 < count s o). p)
        (λ (z : count s o ≤ 0). absurd (n (marked_unused l s (omega (arith, l.fit)) refl (omega arith))))
        (under? 0 (count s o))))))

-- ---- the home cell, tried first

-- a code's home is one of the cells
pub home_below : {n x : ℕ} (code : ℕ) → 0 < n → x ≡ home_of n code → x < 2 * n
home_below {n} {x} code some e = subst (λ (y : ℕ). y < 2 * n) (sym e) (home_lt some code)

-- a slot that its code's home cell holds stands
pub home_stands : {n x : ℕ} (cells codes : List ℕ) (s : ℕ) → Gapped (2 * n) cells codes → 0 < n → s < none_mark → x ≡ home_of n (get_or codes s 0) → get_or cells x 0 ≡ s
    → standing (home_of n) (2 * n) cells codes s ≡ true
home_stands {n} {x} cells codes s o some real e q =
    let code : ℕ = get_or codes s 0 in
    let h : ℕ = home_of n code in
    let hm : h < 2 * n = home_lt some code in
    let a : get_or cells (wrap (2 * n) (h + 0)) 0 ≡ s = ap (λ (i : ℕ). get_or cells i 0) (wrap_zero (2 * n) h hm ∙ sym e) ∙ q in
    names_found s
    (lookup_some cells codes (2 * n) h code o hm 0 (omega arith) (λ z. omega arith) (ap (λ (y : ℕ). get_or codes y 0) a)
    ∙ ap (λ (y : ℕ). Found (slot_of y) (wrap (2 * n) (h + 0)) (0 + 1)) a)
