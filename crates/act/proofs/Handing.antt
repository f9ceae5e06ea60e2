-- The rows of a plan: what writing them asks, and that what is written is what the plan says.
-- Assumes nothing.
use Prim.Native.Nat.{ℕ, ◌-◌, ◌≤◌}
use mathlib.Core.List.{List, []}
use mathlib.Core.Path.{◌≡◌, sym, ap, ◌∙◌, subst}
use native.Mathlib.Omega.{arith}
use lib.ListN.{length, drop, length-reverse, length-drop}
use Rattle.head.specs.declared.Head.{Head}
use Rattle.head.specs.declared.Row.{Row}
use Rattle.head.specs.declared.Rule.{Rule}
use Rattle.head.specs.declared.Slot.{Slot}
use Rattle.head.specs.Bounds.{none_mark}
use Rattle.head.specs.Fields.{Fields}
use Rattle.model.specs.Lists.{without, oldest}
use Rattle.model.specs.Perform.{Cache}
use Rattle.rows.specs.Written.{Written}
use Rattle.rows.specs.Answers.{Aged, WroteOldest, Sweepable, WroteRemoved, Listable, WroteAll, ListableBack, WroteBack}
use Rattle.rows.proofs.Nothing.{none_written}
use Rattle.rows.proofs.Callers.{backward, forward, aged, wrote_oldest, aged_but, wrote_but}
use Rattle.plan.specs.declared.Plan.{Plan}
use Rattle.plan.specs.declared.Plan.TheVariants.{List as ListFront, ListBack, Place, Replace, Fit, Sweep}
use Rattle.plan.specs.Plans.{place_of, rows_of, Named}
use Rattle.act.specs.Acted.{Walked, Offered, HandedOut}

-- as many as are asked for
oldest_all : {A : Type 0} (k : ℕ) (xs : List A) → k ≤ length xs → length (oldest k xs) ≡ k
oldest_all k xs h = omega (arith, length-reverse (drop (length xs - k) xs), length-drop (length xs - k) xs)

module _ {h : Head} {f : Fields} {nx pv : List ℕ} {rows : Fields} where
  -- what is offered for the plan is offered for the constructor that it is
  pub offered : {p : Plan} (q : Plan) → p ≡ q → Offered p h f nx pv rows → Offered q h f nx pv rows
  offered q e a = subst (λ (x : Plan). Offered x h f nx pv rows) e a

  -- a plan without rows
  pub no_rows : {p : Plan} (q : Plan) → p ≡ q → ((c : Cache) → rows_of q c ≡ []) → HandedOut p h f nx pv rows rows
  no_rows {p} q e none = record {
    written = λ c n w. subst (λ (l : List Row). Written l rows rows) (sym (ap (λ (x : Plan). rows_of x c) e ∙ none c)) (none_written rows);
  }

  module _ {rows' : Fields} where
    -- a plan with rows
    handed : {p : Plan} (q : Plan) → p ≡ q → ((c : Cache) → Named q c → Walked h f nx pv c → Written (rows_of q c) rows rows')
        → HandedOut p h f nx pv rows rows'
    handed {p} q e w = subst (λ (x : Plan). HandedOut x h f nx pv rows rows') (sym e) (record { written = w })

    pub all_handed : {p : Plan} → p ≡ ListFront → WroteAll h f nx rows rows' → HandedOut p h f nx pv rows rows'
    all_handed e w = handed ListFront e (λ c n s. w.written c (forward s.described))

    pub back_handed : {p : Plan} → p ≡ ListBack → WroteBack h f pv rows rows' → HandedOut p h f nx pv rows rows'
    back_handed e w = handed ListBack e (λ c n s. w.written c (backward s.described))

    pub place_handed : {p : Plan} {k : ℕ} {e : Row} → p ≡ Place k e → WroteOldest h f pv k none_mark rows rows' → HandedOut p h f nx pv rows rows'
    place_handed {p} {k} {e} q w = handed (Place k e) q (λ c n s. wrote_oldest s.described n w)

    pub replace_handed : {p : Plan} {s : Slot} {k : ℕ} {e : Row} → p ≡ Replace s k e → WroteOldest h f pv k s.0 rows rows' → HandedOut p h f nx pv rows rows'
    replace_handed {p} {s} {k} {e} q w =
        handed (Replace s k e) q
        (λ c n d. wrote_but d.described (place_of s.0 c.slots.order) s.0 n.0 n.1 w)

    pub fit_handed : {p : Plan} {k n : ℕ} → p ≡ Fit k n → WroteOldest h f pv k none_mark rows rows' → HandedOut p h f nx pv rows rows'
    fit_handed {p} {k} {n} q w = handed (Fit k n) q (λ c m s. wrote_oldest s.described m w)

    pub sweep_handed : {p : Plan} {q : Rule} → p ≡ Sweep q → WroteRemoved h f nx q rows rows' → HandedOut p h f nx pv rows rows'
    sweep_handed {p} {q} e w = handed (Sweep q) e (λ c n s. w.written c (forward s.described))

  -- ---- what the writing asks

  pub all_offered : Offered ListFront h f nx pv rows → Listable h f nx rows
  all_offered o = record { cache = o.cache; seen = forward o.seen.described; room = o.room }

  pub back_offered : Offered ListBack h f nx pv rows → ListableBack h f pv rows
  back_offered o = record {
    cache = o.cache;
    seen = backward o.seen.described;
    room = rw (length-reverse o.cache.desk.entries) at o.room;
  }

  pub place_offered : {k : ℕ} {e : Row} → Offered (Place k e) h f nx pv rows → Aged h f pv k none_mark rows
  place_offered {k} o = aged o.seen.described o.named (rw (oldest_all k o.cache.desk.entries o.named) at o.room)

  pub replace_offered : {s : Slot} {k : ℕ} {e : Row} → Offered (Replace s k e) h f nx pv rows → Aged h f pv k s.0 rows
  replace_offered {s} {k} o =
      let i : ℕ = place_of s.0 o.cache.slots.order in
      aged_but o.seen.described i s.0 o.named.0 o.named.1
      (rw (oldest_all k (without i o.cache.desk.entries) o.named.1) at o.room)

  pub fit_offered : {k n : ℕ} → Offered (Fit k n) h f nx pv rows → Aged h f pv k none_mark rows
  fit_offered {k} o = aged o.seen.described o.named (rw (oldest_all k o.cache.desk.entries o.named) at o.room)

  pub sweep_offered : {q : Rule} → Offered (Sweep q) h f nx pv rows → Sweepable h f nx q rows
  sweep_offered o = record { cache = o.cache; seen = forward o.seen.described; room = o.room }
