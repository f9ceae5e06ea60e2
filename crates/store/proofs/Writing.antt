-- One slot written: what the fields hold then, and what the acts that write one slot leave.
-- Assumes nothing.
use Prim.Native.Nat.{ℕ, ◌+◌, ◌-◌, ◌*◌, ◌≤◌, ◌<◌}
use mathlib.Core.List.{List, [], ◌∷◌}
use mathlib.Core.Path.{◌≡◌, refl, ap, ◌∙◌}
use native.Mathlib.Omega.{arith}
use lib.ListN.{length, get_or, set, length-set}
use lib.Seq.{get_or-set_same, get_or-set_other, drop-set-lt}
use Rattle.head.specs.declared.Head.{Head}
use Rattle.head.specs.declared.Row.{Row}
use Rattle.head.specs.Fresh.{reweighed}
use Rattle.head.specs.Tails.{Tail}
use Rattle.crc.specs.Home.{home_of}
use Rattle.model.specs.Lists.{only}
use Rattle.model.specs.Desk.{weighs}
use Rattle.model.specs.Moves as moves
use Rattle.model.specs.Perform.{Cache}
use Rattle.model.proofs.Counting.{weighing, of_without}
use Rattle.list.specs.Promises as list
use Rattle.list.specs.declared.Taken.{Taken}
use Rattle.table.specs.Acts as table
use Rattle.table.proofs.Found.{sound_open}
use Rattle.table.proofs.Placed.{insert_tail}
use Rattle.crc.proofs.Homes.{home_lt}
use Rattle.head.specs.Fields.{Fields, Reach}
use Rattle.state.specs.State.{state_of}
use Rattle.store.specs.State.{blank, Describes, Changed}
use Rattle.store.specs.Caches.{after}
use Rattle.store.specs.Acts.{Writable, Wrote, Tails, Occupied, Dropped, Admits, Added}
use Rattle.store.proofs.Gathered.{only_in}
use Rattle.model.proofs.Members.{counted_member}
use Rattle.store.proofs.Described.{slot_in_lem, order_live, set_described}
use Rattle.store.proofs.Exchanged.{entry_at, drop_described, written_sound, pushed_slot, add_described}

pub writable : {n s : ℕ} {f : Fields} → s < n → Reach n f → Writable s f
writable h r = record {
  codes = omega (arith, r.codes);
  stamps = omega (arith, r.stamps);
  values = omega (arith, r.values);
  weights = omega (arith, r.weights);
}

-- past a written slot nothing changes
set_tail : (n : ℕ) (l : List ℕ) (s v : ℕ) → s < n → Tail n l (set l s v)
set_tail n l s v h = record { size = length-set l s v; tail = drop-set-lt n l s v h }

module _ {n s : ℕ} {e : Row} {f g : Fields} (h : s < n) (r : Reach n f) (w : Wrote s e f g) where
  pub wrote_changed : Changed s e f g
  wrote_changed = record {
    size = ap length w.codes ∙ length-set f.codes s e.code.0;
    new =
        rw (
          w.codes,
          w.stamps,
          w.values,
          w.weights,
          get_or-set_same f.codes s e.code.0 0 (omega (arith, r.codes)),
          get_or-set_same f.stamps s e.stamp 0 (omega (arith, r.stamps)),
          get_or-set_same f.values s e.value 0 (omega (arith, r.values)),
          get_or-set_same f.weights s e.weight 0 (omega (arith, r.weights)),
        );
    old = λ u k.
        rw (
          w.codes,
          w.stamps,
          w.values,
          w.weights,
          get_or-set_other f.codes s u e.code.0 0 k,
          get_or-set_other f.stamps s u e.stamp 0 k,
          get_or-set_other f.values s u e.value 0 k,
          get_or-set_other f.weights s u e.weight 0 k,
        );
  }

  pub wrote_reach : Reach n g
  wrote_reach = record {
    codes = omega (arith, ap length w.codes, length-set f.codes s e.code.0, r.codes);
    stamps = omega (arith, ap length w.stamps, length-set f.stamps s e.stamp, r.stamps);
    values = omega (arith, ap length w.values, length-set f.values s e.value, r.values);
    weights = omega (arith, ap length w.weights, length-set f.weights s e.weight, r.weights);
  }

  pub wrote_tails : {nx pv st cells nx' pv' st' cells' : List ℕ} → Tail n nx nx' → Tail n pv pv' → Tail n st st' → Tail (2 * n) cells cells'
      → Tails n f nx pv st cells g nx' pv' st' cells'
  wrote_tails a b c d = record {
    codes = rw w.codes (set_tail n f.codes s e.code.0 h);
    stamps = rw w.stamps (set_tail n f.stamps s e.stamp h);
    values = rw w.values (set_tail n f.values s e.value h);
    weights = rw w.weights (set_tail n f.weights s e.weight h);
    nexts = a;
    prevs = b;
    stacks = c;
    table = d;
  }

-- a value set in the slot at place i
pub value_described : {h : Head} {f : Fields} {nx pv st cells : List ℕ} {c : Cache} (d : Describes h f nx pv st cells c) (i s v : ℕ) (values : List ℕ)
    → only i c.slots.order ≡ s ∷ []
    → values ≡ set f.values s v
    → Describes h (record { codes = f.codes; stamps = f.stamps; values = values; weights = f.weights }) nx pv st cells (after (moves.set i v) c)
value_described {h} {f} {c = c} d i s v values o e =
    let inside : s < h.slots = slot_in_lem d s (only_in i s c.slots.order o) in
    let g : Fields = record { codes = f.codes; stamps = f.stamps; values = values; weights = f.weights } in
    set_described d g i s v o refl
    (record {
      codes = d.reach.codes;
      stamps = d.reach.stamps;
      values = omega (arith, ap length e, length-set f.values s v, d.reach.values);
      weights = d.reach.weights;
    })
    (rw (e, get_or-set_same f.values s v 0 (omega (arith, d.reach.values))))
    (λ u k. rw (e, get_or-set_other f.values s u v 0 k))

module _ {h : Head} {f : Fields} {nx pv st cells : List ℕ} {s : ℕ} (o : Occupied (state_of h f nx pv st cells) s) where
  -- an occupied slot is one of the N
  pub occupied_in : s < h.slots
  occupied_in = slot_in_lem o.described s (only_in o.place s o.cache.slots.order o.there)

  pub occupied_writable : Writable s f
  occupied_writable = writable occupied_in o.described.reach

  -- and weighs no more than all
  pub occupied_weight : get_or f.weights s 0 ≤ h.weight
  occupied_weight =
      let d = o.described in
      let es = o.cache.desk.entries in
      omega (arith, of_without weighing o.place es, ap weighs (entry_at d o.place s o.there), d.weight)

  -- what `remove` leaves
  pub dropped_ok : (r : Head) (g : Fields) (nx' pv' st' cells' : List ℕ) (w : ℕ) → w ≡ get_or f.weights s 0
      → table.TakenOut (home_of h.slots) (2 * h.slots) f.codes s cells cells'
      → Wrote s blank f g
      → list.Removed h r nx pv st nx' pv' st' s
      → Dropped (state_of h f nx pv st cells) (state_of (reweighed (r.weight - w) r) g nx' pv' st' cells') s
  dropped_ok r g nx' pv' st' cells' w is t q p = record {
    tails = wrote_tails occupied_in o.described.reach q p.next_tail p.prev_tail p.stack_tail t.tail;
    described = λ c i at d.
        drop_described d r g nx' pv' st' cells' i s (r.weight - w) at p t
        (wrote_changed occupied_in o.described.reach q)
        (wrote_reach occupied_in o.described.reach q)
        (omega (arith, p.rest.weight, occupied_weight));
  }

  -- what table and list ask of an occupied slot
  pub occupied_live : table.Live (home_of h.slots) (2 * h.slots) cells f.codes s
  occupied_live =
      let order = o.cache.slots.order in
      record { order = order; sound = o.described.table; live = counted_member s order (only_in o.place s order o.there) }

  pub occupied_held : list.Held h nx pv st s
  occupied_held = record {
    order = o.cache.slots.order;
    free = o.cache.slots.free;
    others = [];
    place = o.place;
    there = o.there;
    linked = o.described.links;
  }

module _ {h : Head} {f : Fields} {nx pv st cells : List ℕ} {e : Row} (a : Admits (state_of h f nx pv st cells) e) where
  -- what list and table ask for a new entry
  pub admits_open : list.Spare h nx pv st
  admits_open = record {
    order = a.cache.slots.order;
    free = a.cache.slots.free;
    others = [];
    linked = a.described.links;
    some = omega (arith, order_live a.described, a.takes.roomy, a.described.room);
  }

  -- the weights' sum stays in 64 bits
  pub admits_weight : h.weight + e.weight < 18446744073709551616
  admits_weight = omega (arith, a.takes.within, a.described.weight, a.described.lawful.capacity.1)

  module _ (t : Taken) (nx' pv' st' : List ℕ) (p : list.Pushed h t nx pv st nx' pv' st') where
    pub admits_writable : Writable t.slot.0 f
    admits_writable = writable (pushed_slot a.described t nx' pv' st' p).1 a.described.reach

    pub admits_slotted : (g : Fields) → Wrote t.slot.0 e f g → table.Slotted (2 * h.slots) cells g.codes t.slot.0
    admits_slotted g w =
        let k = pushed_slot a.described t nx' pv' st' p in
        let q = wrote_changed k.1 a.described.reach w in
        record {
          table = sound_open (written_sound a.described t.slot.0 e g k.0 q);
          coded = omega (arith, k.1, (wrote_reach k.1 a.described.reach w).codes);
        }

    pub added_ok : (g : Fields) (cells' : List ℕ) → Wrote t.slot.0 e f g
        → cells' ≡ table.inserted (home_of h.slots) (2 * h.slots) cells g.codes t.slot.0
        → Added (state_of h f nx pv st cells) (state_of (reweighed (h.weight + e.weight) t.head) g nx' pv' st' cells') e
    added_ok g cells' w same =
        let k = (pushed_slot a.described t nx' pv' st' p).1 in
        let r = a.described.reach in
        let d₀ = a.described in
        record {
          tails =
              wrote_tails k r w p.next_tail p.prev_tail p.stack_tail
              (rw same (insert_tail (home_lt (omega (arith, d₀.lawful.room.0, d₀.room))) (admits_slotted g w).table t.slot.0));
          described = λ c takes new d. add_described d t g nx' pv' st' cells' e p (wrote_changed k r w) (wrote_reach k r w) same takes new;
        }
