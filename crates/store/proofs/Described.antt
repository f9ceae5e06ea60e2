-- What a described state has, and the acts that touch one kind of list: a slot raised, a value set.
-- Assumes nothing.
use Prim.Native.Nat.{ℕ, zero, suc, ◌+◌, ◌≤◌, ◌<◌}
use mathlib.Core.List.{List, [], ◌∷◌}
use mathlib.Core.Path.{◌≡◌, refl, sym, ap, ◌∙◌}
use native.Mathlib.Omega.{arith}
use lib.Dec.{ltb}
use lib.ListN.{length}
use borrow.Author.Tests.{ltb-true}
use Rattle.head.specs.declared.Head.{Head}
use Rattle.head.specs.declared.Row.{Row}
use Rattle.model.specs.Lists.{only, to_front}
use Rattle.model.specs.Desk.{weighs, revalued, valued}
use Rattle.model.specs.Codes.{count}
use Rattle.model.specs.Moves.{raise, set, drop, place, replace, fit}
use Rattle.model.specs.Perform.{Cache}
use Rattle.model.proofs.Cases.{split}
use Rattle.model.proofs.Counting.{times, sized, weighing, of_to_front}
use Rattle.model.proofs.Mapping.{map_length, map_to_front}
use Rattle.model.proofs.Lawful.{move_lawful}
use Rattle.model.proofs.Members.{counted_member, member_counted}
use Rattle.list.specs.Order.{below}
use Rattle.list.specs.Promises.{Moved}
use Rattle.table.specs.Orders.{Same}
use Rattle.table.proofs.Kept.{order_sound}
use Rattle.head.specs.Fields.{Fields, Reach}
use Rattle.store.specs.State.{entry_in, Describes}
use Rattle.store.specs.Caches.{after, shed, added, capped}
use Rattle.store.proofs.Gathered.{gathering, gather_revalued, only_in}

-- counted alike, so the same members
counted_same : (a b : List ℕ) → ((u : ℕ) → count u a ≡ count u b) → Same a b
counted_same a b h = record {
  to = λ u m. counted_member u b (omega (arith, h u, member_counted u a m));
  from = λ u m. counted_member u a (omega (arith, h u, member_counted u b m));
}

-- the moves are made of these acts
place_parts : (k : ℕ) (e : Row) (c : Cache) → after (place k e) c ≡ added e (shed k c)
place_parts k e c = refl

replace_parts : (i k : ℕ) (e : Row) (c : Cache) → after (replace i k e) c ≡ added e (shed k (after (drop i) c))
replace_parts i k e c = refl

fit_parts : (k n : ℕ) (c : Cache) → after (fit k n) c ≡ capped n (shed k c)
fit_parts k n c = refl

pub below_one : (i t : ℕ) → below i t ≤ 1
unfolding below
below_one i t = split (ltb i t) (λ e. rw e (omega arith)) (λ e. rw e (omega arith))

pub below_in : (i t : ℕ) → 1 ≤ below i t → i < t
unfolding below
below_in i t h = split (ltb i t) (λ e. ltb-true i t e) (λ e. absurd (let z : 1 ≤ 0 = rw e at h in omega arith))

pub weighs_revalued : (i v : ℕ) (es : List Row) → weighs (revalued i v es) ≡ weighs es
weighs_revalued i v [] = refl
weighs_revalued zero v (e ∷ es) = refl
weighs_revalued (suc i) v (e ∷ es) = ap (λ (n : ℕ). e.weight + n) (weighs_revalued i v es)

module _ {h : Head} {f : Fields} {nx pv st cells : List ℕ} {c : Cache} (d : Describes h f nx pv st cells c) where
  -- no slot stands in the order twice
  pub slot_once : (u : ℕ) → count u c.slots.order ≤ 1
  slot_once u = omega (arith, d.links.each u, below_one u h.top.0)

  -- a slot of the order is one of the N
  pub slot_in_lem : (u : ℕ) → 1 ≤ count u c.slots.order → u < h.slots
  slot_in_lem u k = omega (arith, below_in u h.top.0 (omega (arith, d.links.each u)), d.links.fit)

  -- as many slots as entries
  pub order_length : length c.slots.order ≡ length c.desk.entries
  order_length = sym (map_length (gathering f) c.slots.order) ∙ ap length d.entries

  pub order_live : h.live ≡ length c.desk.entries
  order_live = omega (arith, d.links.live, order_length)

  -- a slot moved to the front
  pub raise_described : (r : Head) (nx' pv' : List ℕ) (i s : ℕ) → only i c.slots.order ≡ s ∷ [] → Moved h r nx pv nx' pv' s
      → Describes r f nx' pv' st cells (after (raise i) c)
  raise_described r nx' pv' i s o p =
      let order = c.slots.order in
      let l = p.linked st order c.slots.free [] i o d.links in
      record {
        kind = p.rest.kind ∙ d.kind;
        capacity = p.rest.capacity ∙ d.capacity;
        room = p.rest.slots ∙ d.room;
        weight = p.rest.weight ∙ d.weight ∙ sym (of_to_front weighing i c.desk.entries);
        top = omega (arith, l.size, d.links.size, d.top, of_to_front sized i order);
        lawful = move_lawful (raise i) c.desk d.lawful tt tt;
        reach = rw p.rest.slots d.reach;
        links = l;
        entries = map_to_front (gathering f) i order ∙ ap (to_front i) d.entries;
        blanks = λ u k z. d.blanks u (omega (arith, p.rest.slots)) (omega (arith, of_to_front (times u) i order));
        table = rw p.rest.slots (order_sound d.table (omega (arith, d.table.room, of_to_front sized i order)) (counted_same order (to_front i order) (λ u. sym (of_to_front (times u) i order))));
      }

  -- a value set in the slot at place i
  pub set_described : (g : Fields) (i s v : ℕ) → only i c.slots.order ≡ s ∷ [] → g.codes ≡ f.codes → Reach h.slots g
      → entry_in g s ≡ valued v (entry_in f s) → ((u : ℕ) → (u ≡ s → ⊥) → entry_in g u ≡ entry_in f u)
      → Describes h g nx pv st cells (after (set i v) c)
  set_described g i s v o same reach new old =
      let order = c.slots.order in
      let one = only_in i s order o in
      record {
        kind = d.kind;
        capacity = d.capacity;
        room = d.room;
        weight = d.weight ∙ sym (weighs_revalued i v c.desk.entries);
        top = d.top;
        lawful = move_lawful (set i v) c.desk d.lawful tt tt;
        reach = reach;
        links = d.links;
        entries = gather_revalued f g order i s v o (omega (arith, slot_once s)) new old ∙ ap (revalued i v) d.entries;
        blanks = λ u k z. old u (λ q. let y : count s order ≡ count u order = ap (λ (w : ℕ). count w order) (sym q) in omega arith) ∙ d.blanks u k z;
        table = rw same d.table;
      }
