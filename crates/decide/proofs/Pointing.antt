-- What is found by code, or at an end, as a slot: the entry in it, at its place.
-- Assumes nothing.
use Rattle.std.proofs.Common.{◌≡◌, ℕ, ◌<◌, List, [], ◌∷◌, length, sym, refl, ◌∙◌, arith}
use Rattle.head.specs.declared.Head.{Head}
use Rattle.head.specs.declared.Slot.{Slot}
use Rattle.head.specs.Fields.{Fields}
use Rattle.model.specs.Lists.{only}
use Rattle.model.specs.Desk.{Found, absent, present, find}
use Rattle.model.specs.Perform.{Cache}
use Rattle.table.specs.declared.Search.{Search}
use Rattle.table.specs.declared.Search.TheVariants.{Found as FoundSlot, Empty}
use Rattle.store.specs.State.{entry_in, fields, Describes}
use Rattle.store.specs.Acts.{Writable}
use Rattle.store.proofs.Gathered.{only_in}
use Rattle.store.proofs.Described.{slot_once, slot_in_lem}
use Rattle.store.proofs.Searching.{search_found, search_absent}
use Rattle.plan.specs.Plans.{place_of, Stands}
use Rattle.plan.proofs.Placed.{place_at_lem}
use Rattle.decide.specs.Views.{Sought}
use Rattle.decide.specs.Numbers.{Reached}

-- what is found stands in slot s
pub record Points (f : Fields) (c : Cache) (s : ℕ) (x : Found) : Type 0 where
  pub there : Stands s c
  pub found : x ≡ present (place_of s c.slots.order) (entry_in f s)

module _ {h : Head} {f : Fields} {nx pv st cells : List ℕ} {c : Cache} (d : Describes h f nx pv st cells c) where
  -- the place of a slot that stands at place i is i
  pub at_place : (i s : ℕ) → only i c.slots.order ≡ s ∷ [] → place_of s c.slots.order ≡ i
  at_place i s o = place_at_lem i s c.slots.order o (slot_once d s)

  -- the fields reach a slot that stands
  pub reached : (s : ℕ) → Stands s c → Writable s f
  reached s o =
      let k = slot_in_lem d s (only_in (place_of s c.slots.order) s c.slots.order o) in
      record {
        codes = omega (arith, d.reach.codes);
        stamps = omega (arith, d.reach.stamps);
        values = omega (arith, d.reach.values);
        weights = omega (arith, d.reach.weights);
      }

module _ {h : Head} {values : List ℕ} {a : Search} {code : ℕ} {c : Cache} (v : Sought h values a code c) where
  -- a search that ends at a slot points to it
  pub points : {s : Slot} {cell count : ℕ} → a ≡ FoundSlot s cell count
      → Points (fields v.codes v.stamps values v.weights) c s.0 (find code c.desk.entries)
  points {s} {cell} {count} e =
      let r = search_found v.described code s.0 cell count (sym v.answer ∙ e) in
      let p = at_place v.described r.place s.0 r.there in
      record { there = rw p r.there; found = rw p r.finds }

  -- one that ends at an empty cell found none
  pub misses : {cell count : ℕ} → a ≡ Empty cell count → find code c.desk.entries ≡ absent
  misses {cell} {count} e = search_absent v.described code cell count (sym v.answer ∙ e)

-- the values reach the slot that a search found
pub reaches : {h : Head} {values : List ℕ} {code : ℕ} {c : Cache} (a : Search) → Sought h values a code c → Reached a values
reaches (FoundSlot s cell count) v = (reached v.described s.0 (points v refl).there).values
reaches (Empty cell count) v = tt

pub found_reached : (values : List ℕ) {a : Search} {s : Slot} {cell count : ℕ} → Reached a values → a ≡ FoundSlot s cell count → s.0 < length values
found_reached values r e = rw e at r
