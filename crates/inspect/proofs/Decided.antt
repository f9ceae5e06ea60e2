-- The tests pass together exactly where head and lists describe a cache.
-- Assumes nothing.
use Prim.Native.Nat.{ℕ, ◌-◌, ◌*◌, ◌≤◌, ◌<◌}
use mathlib.Core.Bool.{Bool, true, ◌&&◌}
use mathlib.Core.List.{List, []}
use mathlib.Core.Path.{◌≡◌, refl, sym, ap, ◌∙◌, subst}
use native.Mathlib.Omega.{arith}
use lib.ListN.{length, get_or, take}
use Rattle.head.specs.declared.Head.{Head}
use Rattle.head.specs.declared.Row.{Row}
use Rattle.head.specs.Bounds.{none_mark, most_slots}
use Rattle.head.specs.Fields.{Fields, Reach}
use Rattle.head.specs.Walks.{walk}
use Rattle.head.proofs.Walking.{walk_length}
use Rattle.crc.specs.Home.{home_of}
use Rattle.crc.proofs.Homes.{home_lt}
use Rattle.model.specs.Codes.{count}
use Rattle.model.specs.Desk.{kind_of, weighs}
use Rattle.model.specs.Perform.{Cache}
use Rattle.model.proofs.Cases.{both}
use Rattle.model.proofs.Mapping.{map_length}
use Rattle.list.specs.Links as list
use Rattle.list.specs.Inspect.{all_from, links_ok}
use Rattle.list.proofs.Walked.{and_in}
use Rattle.list.proofs.Unique.{order_is}
use Rattle.list.proofs.Within.{in_slots}
use Rattle.list.proofs.Decide.{links_sound, sound_links}
use Rattle.table.specs.Sound as table
use Rattle.table.specs.Links.{Listed}
use Rattle.table.specs.Acts.{Decides, tallied, counts, all_standing}
use Rattle.table.proofs.Checked.{counts_open, sound_counts, sound_standing, inspect_passed, tested_sound}
use Rattle.store.specs.Lengths.{all_long, AllReach}
use Rattle.store.specs.Acts.{Writable}
use Rattle.store.specs.State.{entry_in, blank, gather, Describes, Whole}
use Rattle.store.proofs.Lengths.{all_reach, reach_all}
use Rattle.store.proofs.Gathered.{gathering}
use Rattle.store.proofs.Described.{order_live}
use Rattle.store.proofs.Walked.{slot_below, walk_listed}
use Rattle.inspect.specs.Tests.{head_ok, used_stands, sum_ok, blank_at, stack_blank, Piled}
use Rattle.inspect.proofs.Blanks.{stack_below, blanks_are, are_stacked, are_rest}
use Rattle.inspect.proofs.Sums.{at, sum_is, sum_passes, total, total_order}
use Rattle.inspect.proofs.Counts.{counts_below, counts_wider}
use Rattle.inspect.proofs.Used.{used_standing, standing_used}
use Rattle.inspect.proofs.Orders.{codes_once, slot_once}
use Rattle.inspect.proofs.Numbers.{Numbered, kind_number_lem, kind_plain, number_plain, number_small, numbered, head_passes}

module _ (h : Head) (f : Fields) (nx pv st cells : List ℕ) where
  -- the slots that the links walk
  abbrev walked : List ℕ
  walked = walk nx h.front.0 h.live

  -- the table describes an order
  abbrev tables : List ℕ → Type 0
  tables = table.Sound (home_of h.slots) (2 * h.slots) cells f.codes

  -- each slot of an order stands
  abbrev stands : List ℕ → Bool
  stands = all_standing (home_of h.slots) (2 * h.slots) cells f.codes

  -- ---- the tests, beside those of the head, of lengths and of links

  -- as many cells are full as slots are live, each with a number below the slot count
  abbrev pub cells_full : Bool
  cells_full = counts h.live (tallied h.slots (take (2 * h.slots) cells))

  -- each slot below top that is in use stands
  abbrev pub used_stand : Bool
  used_stand = all_from h.top.0 0 (used_stands (home_of h.slots) (2 * h.slots) cells f.codes nx)

  -- the weights of all slots make the head's
  abbrev pub weights_fit : Bool
  weights_fit = sum_ok f.weights h.slots 0 h.weight

  -- the stack's slots are blank
  abbrev pub stack_blanks : Bool
  stack_blanks = all_from h.depth.0 0 (stack_blank f st)

  -- and those from top on
  abbrev pub rest_blank : Bool
  rest_blank = all_from (h.slots - h.top.0) h.top.0 (blank_at f)

  -- all of them
  abbrev pub passes : Bool
  passes = head_ok h && (all_long h.slots f nx pv st cells && (links_ok h nx pv st && (cells_full && (used_stand && (weights_fit && (stack_blanks && rest_blank))))))

  -- what the first three say
  pub record Framed : Type 0 where
    head : Numbered h
    lists : AllReach h.slots f nx pv st cells
    links : list.Sound h nx pv st

  -- where slots that are not in the order are blank, the weights of all slots are those of the order
  whole_total : {o free : List ℕ} → list.Linked h nx pv st o free [] → ((u : ℕ) → u < h.slots → count u o ≡ 0 → entry_in f u ≡ blank)
      → total (at f.weights) h.slots 0 ≡ weighs (gather f o)
  whole_total {o} l b =
      total_order f h.slots o (λ u c. in_slots l u (omega arith)) (slot_once l) (λ u k z. ap (λ (r : Row). r.weight) (b u k z))

  -- ---- what a cache that is described passes

  module _ (w : Whole h f nx pv st cells) where
    abbrev cache : Cache
    cache = w.cache

    d : Describes h f nx pv st cells w.cache
    d = w.described

    whole_head : head_ok h ≡ true
    whole_head = head_passes h (record {
      kind = omega (arith, d.kind, number_small cache.desk.kind);
      capacity = (omega (arith, d.capacity, d.lawful.capacity.0), omega (arith, d.capacity, d.lawful.capacity.1));
      slots = (omega (arith, d.room, d.lawful.room.0), omega (arith, d.room, d.lawful.room.1));
      within = omega (arith, d.capacity, d.weight, d.lawful.within, order_live d);
      light = λ q. d.weight ∙ d.lawful.light (number_plain cache.desk.kind (sym d.kind ∙ q));
    })

    whole_lengths : all_long h.slots f nx pv st cells ≡ true
    whole_lengths =
        let l = d.links.long in
        reach_all h.slots f nx pv st cells (record { reach = d.reach; nexts = l.nexts; prevs = l.prevs; stacks = l.stacks; table = d.table.tidy.wide })

    whole_links : list.Sound h nx pv st
    whole_links = record { order = cache.slots.order; free = cache.slots.free; linked = d.links }

    some : 1 ≤ h.slots
    some = omega (arith, d.room, d.lawful.room.0)

    listed : Listed h.slots cells f.codes nx walked
    listed = walk_listed d.links f cells d.reach some d.table.tidy.wide

    whole_table : tables walked
    whole_table = subst tables (order_is d.links) d.table

    whole_cells : cells_full ≡ true
    whole_cells =
        counts_below (2 * h.slots) cells h.live (length f.codes) h.slots d.table.tidy.wide (λ p l n. slot_below d.links (get_or cells p 0) (d.table.only p l n))
        (sound_counts (home_lt some) listed (walk_length _ _ _) whole_table)

    whole_used : used_stand ≡ true
    whole_used =
        standing_used (home_of h.slots) (2 * h.slots) cells f.codes d.links
        (subst (λ (o : List ℕ). stands o ≡ true) (sym (order_is d.links)) (sound_standing (home_lt some) listed whole_table))

    whole_weights : weights_fit ≡ true
    whole_weights = sum_passes f.weights h.slots 0 h.weight (d.weight ∙ ap weighs (sym d.entries) ∙ sym (whole_total d.links d.blanks))

    whole_stacked : stack_blanks ≡ true
    whole_stacked = are_stacked d.links f d.blanks

    whole_rest : rest_blank ≡ true
    whole_rest = are_rest d.links f d.blanks

    pub whole_passes : passes ≡ true
    whole_passes =
        and_in _ _ whole_head
        (and_in _ _ whole_lengths
        (and_in _ _ (sound_links h nx pv st whole_links)
        (and_in _ _ whole_cells (and_in _ _ whole_used (and_in _ _ whole_weights (and_in _ _ whole_stacked whole_rest))))))

  -- ---- what passes is a cache

  module _ (y : Framed) where
    -- the order that the links describe
    abbrev order : List ℕ
    order = y.links.order

    abbrev linked : list.Linked h nx pv st y.links.order y.links.free []
    linked = y.links.linked

    need_listed : Listed h.slots cells f.codes nx walked
    need_listed = walk_listed linked f cells y.lists.reach y.head.slots.0 y.lists.table

    module _ (s : weights_fit ≡ true) (b : stack_blanks ≡ true) (c : rest_blank ≡ true) (t : tables order) where
      -- the cache
      abbrev described : Cache
      described = record {
        desk = record { kind = kind_of h.kind; capacity = h.capacity; room = h.slots; entries = gather f order };
        slots = record { order = order; free = y.links.free; top = h.top.0 };
      }

      blanks : (u : ℕ) → u < h.slots → count u order ≡ 0 → entry_in f u ≡ blank
      blanks = blanks_are linked f b c

      weight : h.weight ≡ weighs (gather f order)
      weight = sum_is f.weights h.slots 0 h.weight s ∙ whole_total linked blanks

      many : length (gather f order) ≡ h.live
      many = omega (arith, map_length (gathering f) order, linked.live)

      tested_whole : Whole h f nx pv st cells
      tested_whole = record {
        cache = described;
        described = record {
          kind = kind_number_lem h.kind y.head.kind;
          capacity = refl;
          room = refl;
          weight = weight;
          top = refl;
          lawful = record {
            capacity = y.head.capacity;
            room = y.head.slots;
            distinct = codes_once f order (slot_once linked) t.differ;
            within = omega (arith, many, weight, y.head.within);
            roomy = omega (arith, many, linked.live, linked.size, linked.fit);
            light = λ q. sym weight ∙ y.head.light (kind_plain h.kind q);
          };
          reach = y.lists.reach;
          links = linked;
          entries = refl;
          blanks = blanks;
          table = t;
        };
      }

    -- each full cell's number has a code
    coded : cells_full ≡ true → counts h.live (tallied (length f.codes) (take (2 * h.slots) cells)) ≡ true
    coded k = counts_wider (2 * h.slots) cells h.live h.slots (length f.codes) y.lists.table y.lists.reach.codes k

    -- so a search ends
    pub searchable : cells_full ≡ true → table.Gapped (2 * h.slots) cells f.codes
    searchable k =
        counts_open h.live y.lists.table (omega (arith, linked.live, linked.size, linked.fit, y.head.slots.0)) (coded k)

    -- the first three passed, and so did the others
    framed_whole : cells_full ≡ true → used_stand ≡ true → weights_fit ≡ true → stack_blanks ≡ true → rest_blank ≡ true → Whole h f nx pv st cells
    framed_whole k v g u x =
        let z = home_lt y.head.slots.0 in
        let e : stands walked ≡ true =
        subst (λ (o : List ℕ). stands o ≡ true) (order_is linked) (used_standing (home_of h.slots) (2 * h.slots) cells f.codes linked v) in
        tested_whole g u x
        (subst tables (sym (order_is linked)) (tested_sound z need_listed (inspect_passed z need_listed (walk_length _ _ _) (coded k)) e))

  pub passed_whole : passes ≡ true → Whole h f nx pv st cells
  passed_whole e =
      let a = both (head_ok h) _ e in
      let b = both (all_long h.slots f nx pv st cells) _ a.1 in
      let c = both (links_ok h nx pv st) _ b.1 in
      let k = both cells_full _ c.1 in
      let v = both used_stand _ k.1 in
      let g = both weights_fit _ v.1 in
      let u = both stack_blanks _ g.1 in
      framed_whole (record { head = numbered h a.0; lists = all_reach h.slots f nx pv st cells b.0; links = links_sound h nx pv st c.0 }) k.0 v.0 g.0 u.0 u.1

  -- the answer that all tests together give
  pub decided : {b : Bool} → b ≡ passes → Decides b (Whole h f nx pv st cells)
  decided e = record { yes = λ z. passed_whole (sym e ∙ z); no = λ w. e ∙ whole_passes w }

  -- the first three, passed
  pub framed : head_ok h ≡ true → all_long h.slots f nx pv st cells ≡ true → links_ok h nx pv st ≡ true → Framed
  framed x y z = record { head = numbered h x; lists = all_reach h.slots f nx pv st cells y; links = links_sound h nx pv st z }

  -- what the calls behind them ask
  pub record Ready : Type 0 where
    pub full : (h.slots ≤ most_slots) × (2 * h.slots ≤ length cells)
    pub used : (h.top.0 ≤ length f.codes) × (h.top.0 ≤ length nx) × (h.top.0 < none_mark)
    pub weighed : h.slots ≤ length f.weights
    pub piled : Piled f st h.depth.0
    pub rest : (h.top.0 ≤ h.slots) × Reach h.slots f

  pub ready : Framed → Ready
  ready y =
      let e = y.lists.reach in
      let l = y.links.linked in
      record {
        full = (y.head.slots.1, y.lists.table);
        used = (omega (arith, e.codes, l.fit), omega (arith, l.fit, l.long.nexts), omega (arith, l.fit, l.long.small));
        weighed = e.weights;
        piled = record { long = omega (arith, l.depth, l.size, l.fit, l.long.stacks); slots = slots };
        rest = (l.fit, e);
      }
    where
      slots : (k : ℕ) → k < h.depth.0 → Writable (get_or st k 0) f
      slots k i =
          let e = y.lists.reach in
          let s = stack_below y.links.linked k i in
          record { codes = omega (arith, e.codes); stamps = omega (arith, e.stamps); values = omega (arith, e.values); weights = omega (arith, e.weights) }
