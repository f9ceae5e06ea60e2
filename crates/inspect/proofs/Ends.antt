-- The links walked from both ends to the middle: the same test as the walk from the front to the back.
-- Assumes nothing.
use Prim.Native.Nat.{ℕ, zero, suc, ◌+◌, ◌-◌, ◌≤◌, ◌<◌}
use mathlib.Core.Bool.{Bool, true, false, ◌&&◌}
use mathlib.Core.List.{List}
use mathlib.Core.Logic.{⊎_elim}
use mathlib.Core.Path.{◌≡◌, refl, sym, ap, ◌∙◌, subst}
use native.Mathlib.Omega.{arith}
use lib.Dec.{eqb, ltb}
use lib.ListN.{get_or}
use borrow.Author.Tests.{lt-ltb, ltb-true, eqb-true, eq-eqb, ne_eqb}
use Rattle.head.specs.Bounds.{none_mark}
use Rattle.model.proofs.Cases.{split, both, eqb_sym}
use Rattle.list.specs.Inspect.{walk_ok}
use Rattle.list.proofs.Marks.{same?}
use Rattle.list.proofs.Tests.{walk_far, walk_miss, walk_more, walk_end}
use Rattle.list.proofs.Walked.{and_in}

-- a test that cannot pass
not_so : {w : Bool} → (w ≡ true → ⊥) → false ≡ w
not_so {w} n = split w (λ e. absurd (n e)) (λ e. sym e)

and_yes : (a : Bool) → (a && true) ≡ a
and_yes true = refl
and_yes false = refl

module _ (nx pv : List ℕ) (top back : ℕ) where
  -- the test of a walk, behind a slot
  abbrev W : ℕ → ℕ → ℕ → Bool
  W k last cur = walk_ok nx pv top back k last cur

  -- a slot's two links
  abbrev next : ℕ → ℕ
  next x = get_or nx x 0

  abbrev before : ℕ → ℕ
  before x = get_or pv x 0

  -- the slot k links on
  abbrev iter : ℕ → ℕ → ℕ
  iter zero x = x
  iter (suc k) x = iter k (next x)

  iter_next : (k x : ℕ) → iter (suc k) x ≡ next (iter k x)
  iter_next zero x = refl
  iter_next (suc k) x = iter_next k (next x)

  -- ---- what a walk that passes says of the slots behind its first: where it ends, that each is below top, and linked to the one before

  w_step : (k last cur : ℕ) → W (suc k) last cur ≡ true → (cur < top) × (before cur ≡ last) × (W k cur (next cur) ≡ true)
  unfolding walk_ok
  w_step k last cur e =
      let a = both (ltb cur top) _ e in
      let b = both (eqb (before cur) last) _ a.1 in
      (ltb-true cur top a.0, eqb-true (before cur) last b.0, b.1)

  w_iter : (k last : ℕ) → W k last (next last) ≡ true → iter k last ≡ back
  unfolding walk_ok
  w_iter zero last e = eqb-true last back (both (eqb (next last) none_mark) _ e).1
  w_iter (suc k) last e = w_iter k (next last) (w_step k last (next last) e).2

  w_stop : (k last : ℕ) → W k last (next last) ≡ true → next (iter k last) ≡ none_mark
  unfolding walk_ok
  w_stop zero last e = eqb-true (next last) none_mark (both (eqb (next last) none_mark) _ e).0
  w_stop (suc k) last e = w_stop k (next last) (w_step k last (next last) e).2

  w_low : (k last : ℕ) → W k last (next last) ≡ true → (j : ℕ) → j < k → iter (suc j) last < top
  w_low zero last e j h = absurd (omega arith)
  w_low (suc k) last e zero h = (w_step k last (next last) e).0
  w_low (suc k) last e (suc j) h = w_low k (next last) (w_step k last (next last) e).2 j (omega arith)

  w_prev : (k last : ℕ) → W k last (next last) ≡ true → (j : ℕ) → j < k → before (iter (suc j) last) ≡ iter j last
  w_prev zero last e j h = absurd (omega arith)
  w_prev (suc k) last e zero h = (w_step k last (next last) e).1
  w_prev (suc k) last e (suc j) h = w_prev k (next last) (w_step k last (next last) e).2 j (omega arith)

  -- ---- the loop of `meets`

  -- the whole test is the one behind slot a; behind slot b `done` slots pass; where the whole passes, b is `more` links on from a
  pub record Meeting (whole : Bool) (more a b : ℕ) : Type 0 where
    done : ℕ
    pub low_a : a < top
    pub low_b : b < top
    same : whole ≡ W (more + done) a (next a)
    tail : W done b (next b) ≡ true
    met : whole ≡ true → iter more a ≡ b

  module _ {whole : Bool} {more a b : ℕ} (v : Meeting whole more a b) where
    -- what each test of the loop says
    passes : whole ≡ true → W (more + v.done) a (next a) ≡ true
    passes w = sym v.same ∙ w

    module _ (h : 1 < more) where
      met_one : whole ≡ true → iter (suc (more - 1)) a ≡ b
      met_one w = let z : suc (more - 1) ≡ more = omega arith in ap (λ (j : ℕ). iter j a) z ∙ v.met w

      is_ahead : whole ≡ true → before b ≡ iter (more - 1) a
      is_ahead w = ap before (sym (met_one w)) ∙ w_prev (more + v.done) a (passes w) (more - 1) (omega arith)

      pub far_a : top ≤ next a → false ≡ whole
      far_a g = sym (v.same ∙ walk_far nx pv top back (more + v.done) a (next a) (omega arith) g)

      pub far_b : top ≤ before b → false ≡ whole
      far_b g =
          not_so (λ w.
          let z : suc (more - 2) ≡ more - 1 = omega arith in
          let e : before b ≡ iter (suc (more - 2)) a = is_ahead w ∙ ap (λ (j : ℕ). iter j a) (sym z) in
          omega (arith, w_low (more + v.done) a (passes w) (more - 2) (omega arith)))

      pub loose_a : next a < top → (before (next a) ≡ a → ⊥) → false ≡ whole
      loose_a l n = sym (v.same ∙ walk_miss nx pv top back (more + v.done) a (next a) (omega arith) l n)

      pub loose_b : (next (before b) ≡ b → ⊥) → false ≡ whole
      loose_b n = not_so (λ w. n (ap next (is_ahead w) ∙ sym (iter_next (more - 1) a) ∙ met_one w))

      longer : W (suc v.done) (before b) b ≡ true
      unfolding walk_ok
      longer = and_in _ _ (lt-ltb b top v.low_b) (and_in _ _ (eq-eqb (before b) (before b) refl) v.tail)

      pub nearer : {left : ℕ} → left ≡ more - 2 → next a < top → before b < top → before (next a) ≡ a → next (before b) ≡ b → Meeting whole left (next a) (before b)
      nearer {left} r l m p q = record {
        done = suc v.done;
        low_a = l;
        low_b = m;
        same =
            let z : more + v.done - 1 ≡ left + suc v.done = omega arith in
            v.same ∙ walk_more nx pv top back (more + v.done) a (next a) (omega arith) l p ∙ ap (λ (j : ℕ). W j (next a) (next (next a))) z;
        tail = subst (λ (x : ℕ). W (suc v.done) (before b) x ≡ true) (sym q) longer;
        met = λ w. let z : suc left ≡ more - 1 = omega arith in ap (λ (j : ℕ). iter j a) z ∙ sym (is_ahead w);
      }

    -- ---- the middle: one slot, or two

    pub meet_one : more ≡ 0 → eqb a b ≡ whole
    meet_one z =
        ⊎_elim
        (λ (q : a ≡ b).
        let y : more + v.done ≡ v.done = omega arith in
        eq-eqb a b q ∙ sym (v.same ∙ ap (λ (j : ℕ). W j a (next a)) y ∙ subst (λ (x : ℕ). W v.done x (next x) ≡ true) (sym q) v.tail))
        (λ n. ne_eqb a b n ∙ not_so (λ w. n (ap (λ (j : ℕ). iter j a) (sym z) ∙ v.met w)))
        (same? a b)

    pub meet_apart : more ≡ 1 → (next a ≡ b → ⊥) → eqb (next a) b ≡ whole
    meet_apart z n = ne_eqb (next a) b n ∙ not_so (λ w. n (ap (λ (j : ℕ). iter j a) (sym z) ∙ v.met w))

    opened : W (suc v.done) a b ≡ eqb (before b) a
    unfolding walk_ok
    opened = rw (lt-ltb b top v.low_b, v.tail) (and_yes (eqb (before b) a))

    pub meet_two : more ≡ 1 → next a ≡ b → eqb (before b) a ≡ whole
    meet_two z q =
        let y : more + v.done ≡ suc v.done = omega arith in
        sym (v.same ∙ ap (λ (j : ℕ). W j a (next a)) y ∙ ap (W (suc v.done) a) q ∙ opened)

  -- ---- `meets`: the start

  stops : next back ≡ none_mark → W 0 back (next back) ≡ true
  unfolding walk_ok
  stops q = and_in _ _ (eq-eqb (next back) none_mark q) (eq-eqb back back refl)

  -- the two ends, with all slots between them left
  pub apart : {more left a : ℕ} → left ≡ more → a < top → back < top → next back ≡ none_mark → Meeting (W more a (next a)) left a back
  apart {more} {left} {a} r l m q = record {
    done = 0;
    low_a = l;
    low_b = m;
    same = let z : more ≡ left + 0 = omega arith in ap (λ (j : ℕ). W j a (next a)) z;
    tail = stops q;
    met = λ w. ap (λ (j : ℕ). iter j a) r ∙ w_iter more a w;
  }

  -- ---- `walk_links`: what each of its tests says of the whole walk

  module _ (live front : ℕ) where
    abbrev whole : Bool
    whole = W live none_mark front

    -- no slot is live
    pub none_front : live ≡ 0 → (front ≡ none_mark → ⊥) → eqb front none_mark ≡ whole
    none_front z n = ne_eqb front none_mark n ∙ sym (walk_end nx pv top back live none_mark front (omega arith) ∙ rw (ne_eqb front none_mark n) refl)

    pub none_back : live ≡ 0 → front ≡ none_mark → eqb back none_mark ≡ whole
    none_back z e = eqb_sym back none_mark ∙ sym (walk_end nx pv top back live none_mark front (omega arith) ∙ rw (eq-eqb front none_mark e) refl)

    -- some are
    module _ (h : 0 < live) where
      pub front_far : top ≤ front → false ≡ whole
      front_far g = sym (walk_far nx pv top back live none_mark front h g)

      module _ (l : front < top) where
        pub front_loose : (before front ≡ none_mark → ⊥) → false ≡ whole
        front_loose n = sym (walk_miss nx pv top back live none_mark front h l n)

        module _ (p : before front ≡ none_mark) where
          pub behind_front : whole ≡ W (live - 1) front (next front)
          behind_front = walk_more nx pv top back live none_mark front h l p

          pub back_far : top ≤ back → false ≡ whole
          back_far g =
              not_so (λ w.
              let e = w_iter (live - 1) front (sym behind_front ∙ w) in
              ⊎_elim
              (λ (z : live - 1 ≡ 0). let y : front ≡ back = ap (λ (j : ℕ). iter j front) (sym z) ∙ e in omega arith)
              (λ n.
              let z : suc (live - 2) ≡ live - 1 = omega arith in
              let y : iter (suc (live - 2)) front ≡ back = ap (λ (j : ℕ). iter j front) z ∙ e in
              omega (arith, w_low (live - 1) front (sym behind_front ∙ w) (live - 2) (omega arith)))
              (same? (live - 1) 0))

          pub back_loose : (next back ≡ none_mark → ⊥) → false ≡ whole
          back_loose n =
              not_so (λ w. n (ap next (sym (w_iter (live - 1) front (sym behind_front ∙ w))) ∙ w_stop (live - 1) front (sym behind_front ∙ w)))

-- what the tests of `walk_links` say
pub ruleset walk_laws = (none_front, none_back, front_far, front_loose, back_far, back_loose, behind_front)
