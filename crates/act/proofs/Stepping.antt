-- The plans that one or two calls carry out: what the calls ask, and that what they leave is what the plan says.
-- Assumes nothing.
use Prim.Native.Nat.{ℕ, suc, ◌<◌}
use mathlib.Core.Bool.{true}
use mathlib.Core.List.{List, [], ◌∷◌}
use mathlib.Core.Path.{◌≡◌, refl}
use native.Mathlib.Omega.{arith}
use lib.Dec.{eqb}
use lib.ListN.{length, set, length-set}
use lib.Seq.{drop-set-lt}
use Rattle.head.specs.declared.Head.{Head}
use borrow.Author.Tests.{eqb-true}
use Rattle.head.specs.declared.Row.{Row}
use Rattle.head.specs.declared.Rule.{Rule}
use Rattle.head.specs.declared.Slot.{Slot}
use Rattle.head.specs.Fields.{Fields}
use Rattle.head.specs.Tails.{Tail}
use Rattle.model.specs.Lists.{marked, others}
use Rattle.model.specs.Desk.{marks}
use Rattle.model.specs.Perform.{Cache}
use Rattle.list.specs.Promises.{Room, Moved}
use Rattle.store.specs.State.{Describes, Whole}
use Rattle.store.specs.Acts.{Tails, Occupied, Dropped, Spacious, Emptied}
use Rattle.store.proofs.Described.{raise_described}
use Rattle.store.proofs.Writing.{value_described, occupied_in, occupied_writable}
use Rattle.store.proofs.Emptied.{clear_described, described_spacious}
use Rattle.sweep.specs.Swept.{Swept}
use Rattle.plan.specs.declared.Plan.TheVariants.{Raise, Set, Renew, Drop, Sweep, Clear}
use Rattle.plan.specs.Plans.{place_of, Stands}
use Rattle.act.specs.Acted.{Prepared, Acted}
use Rattle.state.specs.State.{state_of}
use Rattle.act.proofs.Deciding.{acted, acted_beside}

-- the fields with other values
abbrev pub revalued : Fields → List ℕ → Fields
revalued f values = record { codes = f.codes; stamps = f.stamps; values = values; weights = f.weights }

-- past the slots a list that differs in one slot is the same
value_tail : {n s : ℕ} (v : ℕ) {xs ys : List ℕ} → s < n → ys ≡ set xs s v → Tail n xs ys
value_tail {n} {s} v {xs} k e = rw e (record { size = length-set xs s v; tail = drop-set-lt n xs s v k })

same_tail : {n : ℕ} (l : List ℕ) → Tail n l l
same_tail l = record { size = refl; tail = refl }

-- past the slots nothing changed where values and links changed only in slots
tails_beside : {n : ℕ} {f : Fields} {nx pv st cells values nx' pv' : List ℕ} → Tail n f.values values → Tail n nx nx' → Tail n pv pv'
    → Tails n f nx pv st cells (revalued f values) nx' pv' st cells
tails_beside {f = f} {st = st} {cells = cells} a b c = record {
  codes = same_tail f.codes;
  stamps = same_tail f.stamps;
  values = a;
  weights = same_tail f.weights;
  nexts = b;
  prevs = c;
  stacks = same_tail st;
  table = same_tail cells;
}

-- a list that is not long at all
emptied : (es : List Row) → eqb (length es) 0 ≡ true → es ≡ []
emptied [] e = refl
emptied (r ∷ es) e = let z = eqb-true (suc (length es)) 0 e in absurd (omega arith)

module _ {h : Head} {f : Fields} {nx pv st cells : List ℕ} where
  -- a slot that stands in the order is occupied
  standing : {c : Cache} (s : Slot) → Stands s.0 c → Describes h f nx pv st cells c → Occupied (state_of h f nx pv st cells) s.0
  standing {c} s t d = record { cache = c; described = d; place = place_of s.0 c.slots.order; there = t }

  -- and the links reach it
  occupied_room : {s : ℕ} → Occupied (state_of h f nx pv st cells) s → Room h nx pv s
  occupied_room o = record {
    slot = occupied_in o;
    nexts = o.described.links.long.nexts;
    prevs = o.described.links.long.prevs;
  }

  -- ---- an entry moves to the front

  pub raise_room : {s : Slot} → Prepared (Raise s) (state_of h f nx pv st cells) → Room h nx pv s.0
  raise_room {s} p = occupied_room (standing s p.ready.named p.means)

  pub raise_acted : {s : Slot} {r : Head} {nx' pv' st' : List ℕ} → Moved h r nx pv nx' pv' s.0 → st' ≡ st
      → Acted (Raise s) (state_of h f nx pv st cells) (state_of r f nx' pv' st' cells)
  raise_acted {s} {r} {nx'} {pv'} m same =
      rw same
      (acted_beside (Raise s) refl
      (tails_beside (same_tail f.values) m.next_tail m.prev_tail)
      (λ c ready d. raise_described d r nx' pv' (place_of s.0 c.slots.order) s.0 ready.named m))

  -- ---- an entry takes a value

  pub set_room : {s : Slot} {v : ℕ} → Prepared (Set s v) (state_of h f nx pv st cells) → s.0 < length f.values
  set_room {s} p = (occupied_writable (standing s p.ready.named p.means)).values

  pub set_acted : {s : Slot} {v : ℕ} {values : List ℕ} → Prepared (Set s v) (state_of h f nx pv st cells) → values ≡ set f.values s.0 v
      → Acted (Set s v) (state_of h f nx pv st cells) (state_of h (revalued f values) nx pv st cells)
  set_acted {s} {v} {values} p e =
      acted_beside (Set s v) refl
      (tails_beside (value_tail v (occupied_in (standing s p.ready.named p.means)) e) (same_tail nx) (same_tail pv))
      (λ c ready d. value_described d (place_of s.0 c.slots.order) s.0 v values ready.named e)

  -- ---- an entry takes a value and moves to the front

  pub renew_value : {s : Slot} {v : ℕ} → Prepared (Renew s v) (state_of h f nx pv st cells) → s.0 < length f.values
  renew_value {s} p = (occupied_writable (standing s p.ready.named p.means)).values

  pub renew_room : {s : Slot} {v : ℕ} → Prepared (Renew s v) (state_of h f nx pv st cells) → Room h nx pv s.0
  renew_room {s} p = occupied_room (standing s p.ready.named p.means)

  pub renew_acted : {s : Slot} {v : ℕ} {values : List ℕ} {r : Head} {nx' pv' st' : List ℕ} → Prepared (Renew s v) (state_of h f nx pv st cells)
      → values ≡ set f.values s.0 v
      → Moved h r nx pv nx' pv' s.0
      → st' ≡ st
      → Acted (Renew s v) (state_of h f nx pv st cells) (state_of r (revalued f values) nx' pv' st' cells)
  renew_acted {s} {v} {values} {r} {nx'} {pv'} p e m same =
      rw same
      (acted_beside (Renew s v) refl
      (tails_beside (value_tail v (occupied_in (standing s p.ready.named p.means)) e) m.next_tail m.prev_tail)
      (λ c ready d.
      let i : ℕ = place_of s.0 c.slots.order in
      raise_described (value_described d i s.0 v values ready.named e) r nx' pv' i s.0 ready.named m))

  -- ---- an entry leaves

  pub drop_occupied : {s : Slot} → Prepared (Drop s) (state_of h f nx pv st cells) → Occupied (state_of h f nx pv st cells) s.0
  drop_occupied {s} p = standing s p.ready.named p.means

  module _ {r : Head} {g : Fields} {nx' pv' st' cells' : List ℕ} where
    pub drop_acted : {s : Slot} → Dropped (state_of h f nx pv st cells) (state_of r g nx' pv' st' cells') s.0
        → Acted (Drop s) (state_of h f nx pv st cells) (state_of r g nx' pv' st' cells')
    drop_acted {s} q =
        acted (Drop s) (λ o d. refl) q.tails
        (λ c ready d. q.described c (place_of s.0 c.slots.order) ready.named d)

    -- ---- a sweep

    pub sweep_acted : {q : Rule} → Swept (state_of h f nx pv st cells) (state_of r g nx' pv' st' cells') q
        → Acted (Sweep q) (state_of h f nx pv st cells) (state_of r g nx' pv' st' cells')
    sweep_acted {q} w = record {
      tails = w.tails;
      cells = λ c ready d e. w.table c (emptied (marked (others (marks q c.desk.entries)) c.desk.entries) e) d;
      means = λ c ready d. w.described c d;
    }

    -- ---- all leave

    pub clear_acted : Emptied (state_of h f nx pv st cells) (state_of r g nx' pv' st' cells') → Acted Clear (state_of h f nx pv st cells) (state_of r g nx' pv' st' cells')
    clear_acted w = acted Clear (λ o d. refl) w.tails (λ c ready d. clear_described d r g nx' pv' st' cells' w)

  pub sweep_whole : {q : Rule} → Prepared (Sweep q) (state_of h f nx pv st cells) → Whole h f nx pv st cells
  sweep_whole p = record { cache = p.cache; described = p.means }

  pub clear_spacious : Prepared Clear (state_of h f nx pv st cells) → Spacious (state_of h f nx pv st cells)
  clear_spacious p = described_spacious p.means
