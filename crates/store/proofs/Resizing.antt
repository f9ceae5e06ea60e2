-- A capacity set: what a shrink and a growth leave, fields, links and table together.
-- Assumes nothing.
use Prim.Native.Nat.{ℕ, ◌-◌, ◌*◌, ◌≤◌, ◌<◌, min}
use mathlib.Core.List.{List, [], ◌∷◌, map}
use mathlib.Core.Path.{◌≡◌, refl, sym, ap, ◌∙◌, subst}
use native.Mathlib.Omega.{arith}
use lib.ListN.{length}
use borrow.Author.Tests.{lt-ltb, le-ltb}
use Rattle.head.specs.declared.Head.{Head}
use Rattle.head.specs.declared.Row.{Row}
use Rattle.head.specs.Bounds.{most_capacity}
use Rattle.head.specs.Fields.{Fields, Reach}
use Rattle.head.specs.Walks.{walk}
use Rattle.crc.specs.Home.{home_of}
use Rattle.model.specs.Desk.{entry}
use Rattle.model.specs.Slots.{Slots, up_from, compacted}
use Rattle.model.specs.Perform.{Cache}
use Rattle.model.specs.Claims.{spent, Lawful}
use Rattle.list.specs.Links.{Linked}
use Rattle.list.proofs.Unique.{order_is}
use Rattle.compact.specs.Compact.{AllBlank, Resizable, Resized}
use Rattle.compact.proofs.Laws.{moved_rows, moved_blank}
use Rattle.table.specs.Links.{Keyed}
use Rattle.table.specs.Acts.{Rebuilt}
use Rattle.state.specs.State.{state_of}
use Rattle.store.specs.State.{entry_in, gather, Describes}
use Rattle.store.specs.Caches.{capped}
use Rattle.store.specs.Acts.{Holds, Capped}
use Rattle.store.proofs.Described.{order_live}
use Rattle.store.proofs.Emptied.{grow_described}
use Rattle.store.proofs.Evicting.{tails_same}
use Rattle.store.proofs.Walked.{walk_keyed}

-- what the slots of an order hold, as a map
gather_map : (f : Fields) (o : List ℕ) → gather f o ≡ map (entry_in f) o
gather_map f [] = refl
gather_map f (s ∷ o) = ap (λ (l : List Row). entry_in f s ∷ l) (gather_map f o)

-- another capacity within the bounds that the entries fit
refit : (n : ℕ) (c : Cache) → Lawful c.desk → 1 ≤ n → n ≤ most_capacity → spent c.desk.entries ≤ n → Lawful (capped n c).desk
refit n c l some most fits = record {
  capacity = (some, most);
  room = l.room;
  distinct = l.distinct;
  within = fits;
  roomy = l.roomy;
  light = l.light;
}

module _ {h : Head} {f : Fields} {nx pv st cells : List ℕ} {n : ℕ} (o : Holds (state_of h f nx pv st cells) n) where
  pub holds_resizable : Resizable h nx pv st f n
  holds_resizable = record {
    sound = record { order = o.cache.slots.order; free = o.cache.slots.free; linked = o.described.links };
    reach = o.described.reach;
    fits = omega (arith, order_live o.described, o.fits);
  }

  module _ (r : Head) (g : Fields) (nx' pv' st' : List ℕ) (w : Resized h r nx pv st nx' pv' st' f g n) (lt : n < h.capacity) where
    moved_reach : Reach r.slots g
    moved_reach =
        let d = o.described in
        let m = (w.shrunk lt).moved o.cache.slots.order o.cache.slots.free d.links in
        record {
          codes = omega (arith, m.codes.tail.size, d.reach.codes, w.slots);
          stamps = omega (arith, m.stamps.tail.size, d.reach.stamps, w.slots);
          values = omega (arith, m.values.tail.size, d.reach.values, w.slots);
          weights = omega (arith, m.weights.tail.size, d.reach.weights, w.slots);
        }

    -- the same entries in the same order
    same_entries : (c : Cache) → Describes h f nx pv st cells c → gather g (up_from 0 (length c.slots.order)) ≡ c.desk.entries
    same_entries c d =
        gather_map g (up_from 0 (length c.slots.order))
        ∙ moved_rows entry h.slots c.slots.order f g ((w.shrunk lt).moved c.slots.order c.slots.free d.links)
        ∙ sym (gather_map f c.slots.order) ∙ d.entries

    pub shrunk_keyed : (cells1 : List ℕ) → cells1 ≡ cells → Keyed r.slots cells1 g.codes nx' (walk nx' r.front.0 r.live)
    shrunk_keyed cells1 q =
        let d = o.described in
        let c = o.cache in
        let l = (w.shrunk lt).linked c.slots.order c.slots.free d.links in
        rw q
        (walk_keyed l g cells moved_reach
        (omega (arith, d.lawful.room.0, d.room, w.slots))
        (omega (arith, d.table.tidy.wide, w.slots))
        (rw (same_entries c d) d.lawful.distinct))

    all_blank : (c : Cache) → Describes h f nx pv st cells c → AllBlank h.slots c.slots.order f
    all_blank c d = record {
      codes = λ u k z. ap (λ (e : Row). e.code.0) (d.blanks u k z);
      stamps = λ u k z. ap (λ (e : Row). e.stamp) (d.blanks u k z);
      values = λ u k z. ap (λ (e : Row). e.value) (d.blanks u k z);
      weights = λ u k z. ap (λ (e : Row). e.weight) (d.blanks u k z);
    }

    -- a smaller capacity, and the table made anew
    pub capped_shrunk : (cells1 cells' : List ℕ) → cells1 ≡ cells
        → Rebuilt (home_of r.slots) (2 * r.slots) g.codes (walk nx' r.front.0 r.live) cells1 cells'
        → Capped (state_of h f nx pv st cells) (state_of r g nx' pv' st' cells') n
    capped_shrunk cells1 cells' same b₁ =
        let order' : List ℕ = walk nx' r.front.0 r.live in
        let b₀ : Rebuilt (home_of r.slots) (2 * r.slots) g.codes order' cells cells' =
        subst (λ (l : List ℕ). Rebuilt (home_of r.slots) (2 * r.slots) g.codes order' l cells') same b₁ in
        let b : Rebuilt (home_of h.slots) (2 * h.slots) g.codes order' cells cells' =
        subst (λ (k : ℕ). Rebuilt (home_of k) (2 * k) g.codes order' cells cells') w.slots b₀ in
        record {
          tails =
              let q = w.shrunk lt in
              let m = q.moved o.cache.slots.order o.cache.slots.free o.described.links in
              record {
                codes = m.codes.tail;
                stamps = m.stamps.tail;
                values = m.values.tail;
                weights = m.weights.tail;
                nexts = q.next_tail;
                prevs = q.prev_tail;
                stacks = q.stack_tail;
                table = b.tail;
              };
          described = λ c fits d.
              let q = w.shrunk lt in
              let order = c.slots.order in
              let free = c.slots.free in
              let l : Linked r nx' pv' st' (up_from 0 (length order)) (up_from (length order) (min c.slots.top n - length order)) [] =
              rw (← d.top) (q.linked order free d.links) in
              let blanks = moved_blank h.slots order f g (q.moved order free d.links) (all_blank c d) in
              let eq : (capped n c).slots ≡ compacted n c.slots = rw (lt-ltb n c.desk.capacity (omega (arith, d.capacity))) in
              subst (λ (z : Slots). Describes r g nx' pv' st' cells' (record { desk = (capped n c).desk; slots = z })) (sym eq)
              (record {
                kind = w.kind ∙ d.kind;
                capacity = w.capacity;
                room = w.slots ∙ d.room;
                weight = w.weight ∙ d.weight;
                top = q.top ∙ ap (λ (t : ℕ). min t n) d.top;
                lawful = refit n c d.lawful o.allowed.0 o.allowed.1 fits;
                reach = moved_reach;
                links = l;
                entries = same_entries c d;
                blanks = λ u k z.
                    let k₀ : u < h.slots = omega (arith, w.slots) in
                    rw (blanks.codes u k₀ z, blanks.stamps u k₀ z, blanks.values u k₀ z, blanks.weights u k₀ z);
                table = rw (w.slots, order_is l) b.sound;
              });
          table = λ ge. absurd (omega arith);
        }

  -- an equal or larger one: nothing moved
  pub capped_stayed : (r : Head) (g : Fields) (nx' pv' st' cells1 : List ℕ) → cells1 ≡ cells → Resized h r nx pv st nx' pv' st' f g n → h.capacity ≤ n
      → Capped (state_of h f nx pv st cells) (state_of r g nx' pv' st' cells1) n
  capped_stayed r g nx' pv' st' cells1 same w ge =
      let s = w.stayed ge in
      rw (s.head, s.nexts, s.prevs, s.stacks, s.fields, same)
      (record {
        tails = tails_same f nx pv st cells;
        described = λ c fits d. grow_described d n (le-ltb n c.desk.capacity (omega (arith, d.capacity))) o.allowed.0 o.allowed.1 fits;
        table = λ z. refl;
      })
