-- `put_with_weight`, `retain`, `resize` and the listings: rows by a budget, by a rule, or all.
-- Assumes nothing.
use Rattle.std.proofs.Common.{◌≡◌, ℕ, ◌-◌, ◌<◌, ◌≤◌, Bool, true, false, List, length, get_or, sym, refl, ap, ◌∙◌, arith, le-leb}
use lib.Dec.{leb-zero}
use borrow.Author.Tests.{lt-leb}
use Rattle.head.specs.declared.Head.{Head}
use Rattle.head.specs.declared.Slot.{Slot}
use Rattle.head.specs.declared.Row.{Row}
use Rattle.head.specs.declared.Rule.{Rule}
use Rattle.head.specs.declared.Answer.TheVariants.{New, Was, Done}
use Rattle.head.specs.declared.Refusal.TheVariants.{NotUnderstood, WrongKind, TooHeavy}
use Rattle.head.specs.Bounds.{none_mark, capacity_ok}
use Rattle.head.specs.Rules.{weight_rule}
use Rattle.head.specs.Fields.{Fields}
use Rattle.model.specs.Lists.{without, oldest}
use Rattle.model.specs.Desk.{Kind, plain, weighed, kind_number, kind_of, leaving}
use Rattle.model.specs.Moves.{replace, fit, sweep}
use Rattle.model.specs.Calls.{Verdict, admit, beside, wrong_weight, put_with_weight_call, retain_call, resize_call}
use Rattle.model.specs.Perform.{Cache, handed}
use Rattle.table.specs.declared.Search.{Search}
use Rattle.table.specs.declared.Search.TheVariants.{Found as FoundSlot, Empty}
use Rattle.rows.specs.Views.{Forward, Weighted}
use Rattle.rows.specs.Answers.{removed, Budgeted, Leaves, Removes}
use Rattle.model.proofs.Handing.{oldest_length}
use Rattle.rows.proofs.Callers.{budgeted, leaves, budgeted_but, leaves_but}
use Rattle.plan.specs.declared.Decision.{Decision}
use Rattle.plan.specs.declared.Plan.TheVariants.{Replace, Fit, Sweep}
use Rattle.plan.specs.Plans.{denied, place_of}
use Rattle.decide.specs.Views.{ForSome, Loaded}
use Rattle.decide.specs.Settled.{Settles}
use Rattle.decide.specs.Numbers.{fitted, admitted}
use Rattle.decide.proofs.Pointing.{points, misses}
use Rattle.decide.proofs.Putting.{fitted_means, fitted_named, admitted_means, admitted_named, leaving_most}

-- ---- `put_with_weight`

kind_of_lem : (k : Kind) → kind_of (kind_number k) ≡ k
kind_of_lem plain = refl
kind_of_lem weighed = refl

module _ {h : Head} {values weights prevs : List ℕ} {a : Search} (e : Row) where
  pub loaded_budgeted : ForSome (Loaded h values weights prevs a e.code.0) → Budgeted h weights prevs none_mark
  loaded_budgeted s = budgeted s.seen.weighted.backward.described

  pub loaded_but : {s : Slot} {cell count : ℕ} → a ≡ FoundSlot s cell count → ForSome (Loaded h values weights prevs a e.code.0) → Budgeted h weights prevs s.0
  loaded_but y x = budgeted_but x.seen.weighted.backward.described _ _ (points x.seen.searched y).there

  -- 3, and 4
  module _ (lent : ℕ) {t : Bool} (q : t ≡ wrong_weight (kind_of h.kind) e.weight) where
    weight_test : (c : Cache) → Loaded h values weights prevs a e.code.0 c → wrong_weight c.desk.kind e.weight ≡ t
    weight_test c v =
        sym (q ∙ ap (λ (k : ℕ). wrong_weight (kind_of k) e.weight) v.searched.described.kind ∙ ap (λ (k : Kind). wrong_weight k e.weight) (kind_of_lem c.desk.kind))

    pub wrong_kind_lem : {r : Decision} → t ≡ true → r ≡ denied WrongKind
        → Settles (Loaded h values weights prevs a e.code.0) (put_with_weight_call e.code.0 e.stamp e.value e.weight) lent r
    wrong_kind_lem y w = record {
      means = λ c s. rw (weight_test c s ∙ y, leb-zero lent, w) refl;
      named = λ c s. rw w tt;
    }

    pub too_heavy_lem : {r : Decision} → t ≡ false → h.capacity ≤ e.weight → r ≡ denied TooHeavy
        → Settles (Loaded h values weights prevs a e.code.0) (put_with_weight_call e.code.0 e.stamp e.value e.weight) lent r
    too_heavy_lem n o w = record {
      means = λ c s. rw (weight_test c s ∙ n, le-leb c.desk.capacity e.weight (omega (arith, s.searched.described.capacity)), leb-zero lent, w) refl;
      named = λ c s. rw w tt;
    }

    module _ (n : t ≡ false) (o : e.weight < h.capacity) where
      budget : (c : Cache) → Loaded h values weights prevs a e.code.0 c → h.capacity - 1 - e.weight ≡ beside e.weight c.desk
      budget c s = ap (λ (b : ℕ). b - 1 - e.weight) s.searched.described.capacity

      pub weighed_none : {cell count k : ℕ} {r : Decision} → a ≡ Empty cell count → Leaves h weights prevs (h.capacity - 1 - e.weight) none_mark k
          → r ≡ admitted h lent k e (New k)
          → Settles (Loaded h values weights prevs a e.code.0) (put_with_weight_call e.code.0 e.stamp e.value e.weight) lent r
      weighed_none {k = k} y l w =
          let many : (c : Cache) → Loaded h values weights prevs a e.code.0 c → k ≡ leaving (beside e.weight c.desk) c.desk.entries =
          λ c s. leaves s.weighted.backward.described l ∙ ap (λ (b : ℕ). leaving b c.desk.entries) (budget c s) in
          let few : (c : Cache) → Loaded h values weights prevs a e.code.0 c → k ≤ length c.desk.entries =
          λ c s. rw (many c s) (leaving_most (beside e.weight c.desk) c.desk.entries) in
          record {
            means = λ c s.
                let d = s.searched.described in
                let v : put_with_weight_call e.code.0 e.stamp e.value e.weight c.desk ≡ admit k e (New k) c.desk =
                rw (weight_test c s ∙ n, lt-leb c.desk.capacity e.weight (omega (arith, d.capacity)), misses s.searched y, many c s) refl in
                ap (λ (x : Verdict). handed lent x) v ∙ rw w (admitted_means d lent k e (New k) (few c s));
            named = λ c s. rw w (admitted_named s.searched.described lent k e (New k) (few c s));
          }

      pub weighed_found : {s : Slot} {cell count k : ℕ} {r : Decision} → a ≡ FoundSlot s cell count → Leaves h weights prevs (h.capacity - 1 - e.weight) s.0 k
          → r ≡ fitted lent k (record { answer = Was (get_or values s.0 0) k; plan = Replace s k e })
          → Settles (Loaded h values weights prevs a e.code.0) (put_with_weight_call e.code.0 e.stamp e.value e.weight) lent r
      weighed_found {s} {k = k} y l w =
          let many : (c : Cache) → Loaded h values weights prevs a e.code.0 c
          → k ≡ leaving (beside e.weight c.desk) (without (place_of s.0 c.slots.order) c.desk.entries) =
          λ c x.
          leaves_but x.weighted.backward.described _ s.0 (points x.searched y).there l
          ∙ ap (λ (b : ℕ). leaving b (without (place_of s.0 c.slots.order) c.desk.entries)) (budget c x) in
          let few : (c : Cache) → Loaded h values weights prevs a e.code.0 c → k ≤ length (without (place_of s.0 c.slots.order) c.desk.entries) =
          λ c x. rw (many c x) (leaving_most (beside e.weight c.desk) (without (place_of s.0 c.slots.order) c.desk.entries)) in
          record {
            means = λ c x.
                let i : ℕ = place_of s.0 c.slots.order in
                let u : Verdict = record { answer = Was (get_or values s.0 0) k; rows = oldest k (without i c.desk.entries); move = replace i k e } in
                let v : put_with_weight_call e.code.0 e.stamp e.value e.weight c.desk ≡ u =
                rw (weight_test c x ∙ n, lt-leb c.desk.capacity e.weight (omega (arith, x.searched.described.capacity)), (points x.searched y).found, many c x) refl in
                ap (λ (g : Verdict). handed lent g) v
                ∙ rw w (fitted_means c lent k u (record { answer = Was (get_or values s.0 0) k; plan = Replace s k e }) (oldest_length k (without i c.desk.entries) (few c x)) refl);
            named = λ c x. rw w (fitted_named c lent k (record { answer = Was (get_or values s.0 0) k; plan = Replace s k e }) ((points x.searched y).there, few c x));
          }

-- ---- `retain`

module _ {h : Head} {f : Fields} {nx : List ℕ} (q : Rule) (lent : ℕ) where
  pub no_rule_lem : {r : Decision} → weight_rule < q.number → r ≡ denied NotUnderstood → Settles (Forward h f nx) (retain_call q) lent r
  no_rule_lem o w = record {
    means = λ c s. rw (lt-leb q.number weight_rule o, leb-zero lent, w) refl;
    named = λ c s. rw w tt;
  }

  pub retain_settles : {k : ℕ} {r : Decision} → q.number ≤ weight_rule → Removes h f nx q k → r ≡ fitted lent k (record { answer = Done k; plan = Sweep q })
      → Settles (Forward h f nx) (retain_call q) lent r
  retain_settles {k} o l w = record {
    means = λ c s.
        let u : Verdict = record { answer = Done k; rows = removed q c.desk.entries; move = sweep q } in
        let v : retain_call q c.desk ≡ u = rw (le-leb q.number weight_rule o, l.many c s) refl in
        ap (λ (g : Verdict). handed lent g) v ∙ rw w (fitted_means c lent k u (record { answer = Done k; plan = Sweep q }) (sym (l.many c s)) refl);
    named = λ c s. rw w (fitted_named c lent k (record { answer = Done k; plan = Sweep q }) tt);
  }

-- ---- `resize`

module _ {h : Head} {ws pv : List ℕ} (n lent : ℕ) {t : Bool} (q : t ≡ capacity_ok n) where
  pub no_capacity_lem : {r : Decision} → t ≡ false → r ≡ denied NotUnderstood → Settles (Weighted h ws pv) (resize_call n) lent r
  no_capacity_lem y w = record {
    means = λ c s. rw (sym q ∙ y, leb-zero lent, w) refl;
    named = λ c s. rw w tt;
  }

  pub resize_settles : {k : ℕ} {r : Decision} → t ≡ true → Leaves h ws pv n none_mark k → r ≡ fitted lent k (record { answer = Done k; plan = Fit k n })
      → Settles (Weighted h ws pv) (resize_call n) lent r
  resize_settles {k} y l w =
      let many : (c : Cache) → Weighted h ws pv c → k ≡ leaving n c.desk.entries = λ c s. leaves s.backward.described l in
      let few : (c : Cache) → Weighted h ws pv c → k ≤ length c.desk.entries = λ c s. rw (many c s) (leaving_most n c.desk.entries) in
      record {
        means = λ c s.
            let u : Verdict = record { answer = Done k; rows = oldest k c.desk.entries; move = fit k n } in
            let v : resize_call n c.desk ≡ u = rw (sym q ∙ y, many c s) refl in
            ap (λ (g : Verdict). handed lent g) v ∙ rw w (fitted_means c lent k u (record { answer = Done k; plan = Fit k n }) (oldest_length k c.desk.entries (few c s)) refl);
        named = λ c s. rw w (fitted_named c lent k (record { answer = Done k; plan = Fit k n }) (few c s));
      }
