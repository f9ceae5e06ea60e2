-- Entries leave from the back, then one comes or the capacity changes: what each step asks and what they leave together.
-- Assumes nothing.
use Prim.Native.Nat.{ℕ}
use mathlib.Core.List.{List}
use mathlib.Core.Path.{◌≡◌, refl, sym, ◌∙◌}
use native.Mathlib.Omega.{arith}
use lib.Dec.{eqb, leb}
use borrow.Author.Tests.{eqb-true, leb-true}
use Rattle.head.specs.declared.Head.{Head}
use Rattle.head.specs.declared.Row.{Row}
use Rattle.head.specs.declared.Slot.{Slot}
use Rattle.head.specs.Fields.{Fields}
use Rattle.model.specs.Lists.{but_last}
use Rattle.model.specs.Desk.{Desk}
use Rattle.model.specs.Moves.{drop, holding}
use Rattle.model.specs.Perform.{Cache}
use Rattle.model.proofs.Cases.{both}
use Rattle.model.proofs.Lawful.{Takes}
use Rattle.store.specs.Caches.{after, shed}
use Rattle.store.specs.Acts.{Occupied, Dropped, Admits, Added, Rich, Shed, Holds, Capped}
use Rattle.plan.specs.declared.Plan.TheVariants.{Place, Replace, Fit}
use Rattle.plan.specs.Plans.{place_of, Ready}
use Rattle.act.specs.Acted.{Prepared, Acted}
use Rattle.state.specs.State.{state_of}
use Rattle.act.proofs.Deciding.{acted, tails_then}

-- what fits does so whatever entries are held
takes_held : {d : Desk} {e : Row} (held es : List Row) → Takes d e es → Takes (holding d held) e es
takes_held held es t = record { within = t.within; roomy = t.roomy; light = t.light }

-- an eviction leaves the slot count
shed_slots : {h r : Head} {f g : Fields} {nx pv st cells nx' pv' st' cells' : List ℕ} {k : ℕ} → Rich (state_of h f nx pv st cells) k
    → Shed (state_of h f nx pv st cells) (state_of r g nx' pv' st' cells') k
    → r.slots ≡ h.slots
shed_slots o q = (q.described o.cache o.some o.described).room ∙ sym o.described.room

-- ---- so many leave, then a row comes

module _ {h : Head} {f : Fields} {nx pv st cells : List ℕ} {k : ℕ} {e : Row} (p : Prepared (Place k e) (state_of h f nx pv st cells)) where
  -- there are as many to leave as the plan says
  pub place_rich : Rich (state_of h f nx pv st cells) k
  place_rich = record { cache = p.cache; described = p.means; some = p.ready.named }

  module _ {r : Head} {g : Fields} {nx' pv' st' cells' : List ℕ} (q : Shed (state_of h f nx pv st cells) (state_of r g nx' pv' st' cells') k) where
    -- what is left takes the row
    pub place_admits : Admits (state_of r g nx' pv' st' cells') e
    place_admits =
        let es : List Row = but_last k p.cache.desk.entries in
        record {
          cache = shed k p.cache;
          described = q.described p.cache p.ready.named p.means;
          takes = takes_held es es p.ready.proper;
          absent = p.ready.apart;
        }

    pub place_acted : {r₂ : Head} {g₂ : Fields} {nx₂ pv₂ st₂ cells₂ : List ℕ} → Added (state_of r g nx' pv' st' cells') (state_of r₂ g₂ nx₂ pv₂ st₂ cells₂) e
        → Acted (Place k e) (state_of h f nx pv st cells) (state_of r₂ g₂ nx₂ pv₂ st₂ cells₂)
    place_acted a =
        acted (Place k e) (λ o d. refl)
        (tails_then (shed_slots place_rich q) q.tails a.tails)
        (λ c ready d.
        let es : List Row = but_last k c.desk.entries in
        a.described (shed k c) (takes_held es es ready.proper) ready.apart (q.described c ready.named d))

-- ---- so many leave, then the capacity is set

module _ {h : Head} {f : Fields} {nx pv st cells : List ℕ} {k n : ℕ} (p : Prepared (Fit k n) (state_of h f nx pv st cells)) where
  pub fit_rich : Rich (state_of h f nx pv st cells) k
  fit_rich = record { cache = p.cache; described = p.means; some = p.ready.named }

  module _ {r : Head} {g : Fields} {nx' pv' st' cells' : List ℕ} (q : Shed (state_of h f nx pv st cells) (state_of r g nx' pv' st' cells') k) where
    -- what is left fits the capacity
    pub fit_holds : Holds (state_of r g nx' pv' st' cells') n
    fit_holds = record {
      cache = shed k p.cache;
      described = q.described p.cache p.ready.named p.means;
      allowed = (p.ready.proper.0, p.ready.proper.1);
      fits = p.ready.proper.2;
    }

    pub fit_acted : {r₂ : Head} {g₂ : Fields} {nx₂ pv₂ st₂ cells₂ : List ℕ} → Capped (state_of r g nx' pv' st' cells') (state_of r₂ g₂ nx₂ pv₂ st₂ cells₂) n
        → Acted (Fit k n) (state_of h f nx pv st cells) (state_of r₂ g₂ nx₂ pv₂ st₂ cells₂)
    fit_acted a =
        record {
          tails = tails_then (shed_slots fit_rich q) q.tails a.tails;
          cells = λ c ready d e.
              let z = both (eqb k 0) (leb c.desk.capacity n) e in
              let m = leb-true c.desk.capacity n z.1 in
              let cap : r.capacity ≡ c.desk.capacity = (q.described c ready.named d).capacity in
              a.table (omega (arith, m, cap)) ∙ q.table (eqb-true k 0 z.0);
          means = λ c ready d. a.described (shed k c) ready.proper.2 (q.described c ready.named d);
        }

-- ---- an entry leaves first

-- what is left once the entry has left is ready for the rest
replace_ready : (s : Slot) (k : ℕ) (e : Row) (c : Cache) → Ready (Replace s k e) c → Ready (Place k e) (after (drop (place_of s.0 c.slots.order)) c)
replace_ready s k e c r =
    let rest : Cache = after (drop (place_of s.0 c.slots.order)) c in
    record {
      named = r.named.1;
      proper = takes_held rest.desk.entries (but_last k rest.desk.entries) r.proper;
      apart = r.apart;
    }

module _ {h : Head} {f : Fields} {nx pv st cells : List ℕ} {s : Slot} {k : ℕ} {e : Row} (p : Prepared (Replace s k e) (state_of h f nx pv st cells)) where
  -- the slot that the plan names is occupied
  pub replace_occupied : Occupied (state_of h f nx pv st cells) s.0
  replace_occupied = record {
    cache = p.cache;
    described = p.means;
    place = place_of s.0 p.cache.slots.order;
    there = p.ready.named.0;
  }

  module _ {r : Head} {g : Fields} {nx' pv' st' cells' : List ℕ} (q : Dropped (state_of h f nx pv st cells) (state_of r g nx' pv' st' cells') s.0) where
    -- the state after that is ready for a placement
    pub replace_prepared : Prepared (Place k e) (state_of r g nx' pv' st' cells')
    replace_prepared =
        let i : ℕ = place_of s.0 p.cache.slots.order in
        record {
          cache = after (drop i) p.cache;
          means = q.described p.cache i p.ready.named.0 p.means;
          ready = replace_ready s k e p.cache p.ready;
        }

    pub replace_acted : {r₂ : Head} {g₂ : Fields} {nx₂ pv₂ st₂ cells₂ : List ℕ}
        → Acted (Place k e) (state_of r g nx' pv' st' cells') (state_of r₂ g₂ nx₂ pv₂ st₂ cells₂)
        → Acted (Replace s k e) (state_of h f nx pv st cells) (state_of r₂ g₂ nx₂ pv₂ st₂ cells₂)
    unfolding replace_prepared
    replace_acted a =
        acted (Replace s k e) (λ o d. refl)
        (tails_then (replace_prepared.means.room ∙ sym p.means.room) q.tails a.tails)
        (λ c ready d.
        let i : ℕ = place_of s.0 c.slots.order in
        a.means (after (drop i) c) (replace_ready s k e c ready) (q.described c i ready.named.0 d))
