-- An entry leaves, and an entry comes: fields, links and table together.
-- Assumes nothing.
use Prim.Native.Nat.{ℕ, ◌+◌, ◌*◌, ◌≤◌, ◌<◌}
use mathlib.Core.List.{List, [], ◌∷◌, Memᴰ}
use mathlib.Core.Logic.{◌≢◌, ◌⊎◌, inl, inr, ⊎_elim}
use mathlib.Core.Path.{◌≡◌, refl, sym, ap, ◌∙◌, subst}
use native.Mathlib.Omega.{arith}
use lib.Dec.{eqb}
use lib.ListN.{get_or, length-append}
use borrow.Author.Tests.{eqb-true, eqb-false, eq-eqb, ne_eqb}
use Rattle.head.specs.declared.Head.{Head}
use Rattle.head.specs.declared.Row.{Row}
use Rattle.head.specs.Fresh.{reweighed}
use Rattle.crc.specs.Home.{home_of}
use Rattle.crc.proofs.Homes.{home_lt}
use Rattle.model.specs.Lists.{without, only, but_last}
use Rattle.model.specs.Desk.{weighs}
use Rattle.model.specs.Slots.{Slots, taken, pushed}
use Rattle.model.specs.Codes.{one, count, codes_of}
use Rattle.model.specs.Moves.{drop, place, holding}
use Rattle.model.specs.Perform.{Cache}
use Rattle.model.specs.Claims.{Lawful}
use Rattle.model.proofs.Cases.{split}
use Rattle.model.proofs.Backs.{but_last_none}
use Rattle.model.proofs.Counting.{times, sized, weighing, of_without}
use Rattle.model.proofs.Mapping.{map_only, map_without}
use Rattle.model.proofs.Lawful.{move_lawful, Takes}
use Rattle.list.specs.Links.{Linked}
use Rattle.list.specs.Promises as list
use Rattle.list.specs.declared.Taken.{Taken}
use Rattle.list.proofs.Renumbered.{renumbered_linked}
use Rattle.table.specs.Orders.{Without}
use Rattle.table.specs.Sound.{Sound}
use Rattle.table.specs.Acts as table
use Rattle.table.proofs.Kept.{removed_sound, codes_sound}
use Rattle.table.proofs.Placed.{insert_sound}
use Rattle.head.specs.Fields.{Fields, Reach}
use Rattle.store.specs.State.{entry_in, gather, blank, Describes, Changed}
use Rattle.store.specs.Caches.{after, added}
use Rattle.store.proofs.Gathered.{gathering, gather_agree}
use Rattle.model.proofs.Members.{counted_member, member_counted}
use Rattle.store.proofs.Described.{slot_once, order_length, below_one, below_in}

same? : (u s : ℕ) → (u ≡ s) ⊎ (u ≡ s → ⊥)
same? u s = split (eqb u s) (λ t. inl (eqb-true u s t)) (λ t. inr (eqb-false u s t))

-- how often a number stands in a list of one
single : (s : ℕ) → count s (s ∷ []) ≡ 1
single s = let z : one (eqb s s) ≡ 1 = rw (eq-eqb s s refl) in omega arith

other : (u s : ℕ) → (u ≡ s → ⊥) → count u (s ∷ []) ≡ 0
other u s n = let z : one (eqb u s) ≡ 0 = rw (ne_eqb u s n) in omega arith

module _ (order : List ℕ) (i s : ℕ) (o : only i order ≡ s ∷ []) (once : count s order ≤ 1) where
  -- the slot at place i is gone, the others are as they were
  pub gone_slot : count s (without i order) ≡ 0
  gone_slot = omega (arith, of_without (times s) i order, ap (count s) o, single s)

  pub kept_slots : (u : ℕ) → (u ≡ s → ⊥) → count u (without i order) ≡ count u order
  kept_slots u n = omega (arith, of_without (times u) i order, ap (count u) o, other u s n)

  pub without_slot : Without s order (without i order)
  without_slot = record {
    short = omega (arith, of_without sized i order);
    keeps = λ x n m. counted_member x (without i order) (omega (arith, kept_slots x n, member_counted x order m));
    other = λ x m.
        let k = member_counted x (without i order) m in
        let n : x ≡ s → ⊥ = λ q. omega (arith, ap (λ (y : ℕ). count y (without i order)) q, gone_slot) in
        (counted_member x order (omega (arith, kept_slots x n)), n);
  }

-- the code of a slot of the order is one of the codes
pub code_counted : (f : Fields) (u : ℕ) (order : List ℕ) → 1 ≤ count u order → 1 ≤ count (get_or f.codes u 0) (codes_of (gather f order))
code_counted f u [] h = absurd (omega arith)
code_counted f u (x ∷ xs) h =
    ⊎_elim
    (λ e. let z : one (eqb (get_or f.codes u 0) (get_or f.codes x 0)) ≡ 1 = ap one (eq-eqb (get_or f.codes u 0) (get_or f.codes x 0) (ap (λ (y : ℕ). get_or f.codes y 0) e)) in omega arith)
    (λ n. let z : one (eqb u x) ≡ 0 = rw (ne_eqb u x n) in omega (arith, code_counted f u xs (omega arith)))
    (same? u x)

-- the codes of fields that agree
codes_agree : (f g : Fields) (u : ℕ) → entry_in g u ≡ entry_in f u → get_or g.codes u 0 ≡ get_or f.codes u 0
codes_agree f g u e = ap (λ (r : Row). r.code.0) e

-- a new entry that fits, of a code that is absent, leaves a lawful cache lawful
adding_lawful : (e : Row) (c : Cache) → Lawful c.desk → Takes c.desk e c.desk.entries → count e.code.0 (codes_of c.desk.entries) ≡ 0
    → Lawful (added e c).desk
adding_lawful e c l takes new =
    let all : but_last 0 c.desk.entries ≡ c.desk.entries = but_last_none c.desk.entries in
    subst (λ (es : List Row). Lawful (holding c.desk (e ∷ es))) all
    (move_lawful (place 0 e) c.desk l
    (subst (λ (es : List Row). Takes c.desk e es) (sym all) takes)
    (subst (λ (es : List Row). count e.code.0 (codes_of es) ≡ 0) (sym all) new))

module _ {h : Head} {f : Fields} {nx pv st cells : List ℕ} {c : Cache} (d : Describes h f nx pv st cells c) where
  -- the entry at a slot's place is what the slot holds
  pub entry_at : (i s : ℕ) → only i c.slots.order ≡ s ∷ [] → only i c.desk.entries ≡ entry_in f s ∷ []
  entry_at i s o = ap (only i) (sym d.entries) ∙ sym (map_only (gathering f) i c.slots.order) ∙ ap (gather f) o

  -- the entry at place i leaves
  pub drop_described : (r : Head) (g : Fields) (nx' pv' st' cells' : List ℕ) (i s w : ℕ) → only i c.slots.order ≡ s ∷ []
      → list.Removed h r nx pv st nx' pv' st' s
      → table.TakenOut (home_of h.slots) (2 * h.slots) f.codes s cells cells'
      → Changed s blank f g
      → Reach h.slots g
      → w + get_or f.weights s 0 ≡ h.weight
      → Describes (reweighed w r) g nx' pv' st' cells' (after (drop i) c)
  drop_described r g nx' pv' st' cells' i s w o p t q reach less =
      let order = c.slots.order in
      let free = c.slots.free in
      let l = p.linked order free [] i o d.links in
      let once = slot_once d s in
      let apart : (u : ℕ) → 1 ≤ count u (without i order) → u ≡ s → ⊥ =
      λ u k e. omega (arith, ap (λ (y : ℕ). count y (without i order)) e, gone_slot order i s o once) in
      record {
        kind = p.rest.kind ∙ d.kind;
        capacity = p.rest.capacity ∙ d.capacity;
        room = p.rest.slots ∙ d.room;
        weight = omega (arith, of_without weighing i c.desk.entries, ap weighs (entry_at i s o), d.weight, less);
        top = omega (arith, l.size, d.links.size, d.top, of_without sized i order, length-append free (only i order));
        lawful = move_lawful (drop i) c.desk d.lawful tt tt;
        reach = rw p.rest.slots reach;
        links = renumbered_linked r.capacity w l;
        entries =
            gather_agree g f (without i order) (λ u k. q.old u (apart u k))
            ∙ map_without (gathering f) i order ∙ ap (without i) d.entries;
        blanks = λ u k z.
            ⊎_elim
            (λ e. rw e q.new)
            (λ n. q.old u n ∙ d.blanks u (omega (arith, p.rest.slots)) (omega (arith, kept_slots order i s o once u n)))
            (same? u s);
        table =
            rw p.rest.slots
            (codes_sound (omega (arith, q.size))
            (λ u m. codes_agree f g u (q.old u (apart u (member_counted u (without i order) m))))
            (removed_sound d.table t (without_slot order i s o once)));
      }

  -- a slot that is not in the order may be written
  pub written_sound : (s : ℕ) (e : Row) (g : Fields) → count s c.slots.order ≡ 0 → Changed s e f g
      → Sound (home_of h.slots) (2 * h.slots) cells g.codes c.slots.order
  written_sound s e g unused q =
      let order = c.slots.order in
      codes_sound (omega (arith, q.size))
      (λ u m. codes_agree f g u (q.old u (λ z. omega (arith, member_counted u order m, ap (λ (y : ℕ). count y order) z))))
      d.table

  -- the slot that is taken is one of the N, and was not in the order
  pub pushed_slot : (t : Taken) (nx' pv' st' : List ℕ) → list.Pushed h t nx pv st nx' pv' st' → (count t.slot.0 c.slots.order ≡ 0) × (t.slot.0 < h.slots)
  pushed_slot t nx' pv' st' p =
      let order = c.slots.order in
      let free = c.slots.free in
      let s = t.slot.0 in
      let is : s ≡ taken h.top.0 free = p.slot order free [] d.links in
      let l : Linked t.head nx' pv' st' (s ∷ order) (but_last 1 free) [] = rw is (p.linked order free [] d.links) in
      let self : one (eqb s s) ≡ 1 = rw (eq-eqb s s refl) in
      (omega (arith, l.each s, below_one s t.head.top.0), omega (arith, below_in s t.head.top.0 (omega (arith, l.each s)), l.fit, p.rest.slots))

  -- an entry comes to the front, in the slot that the stack or top gives
  pub add_described : (t : Taken) (g : Fields) (nx' pv' st' cells' : List ℕ) (e : Row) → list.Pushed h t nx pv st nx' pv' st'
      → Changed t.slot.0 e f g
      → Reach h.slots g
      → cells' ≡ table.inserted (home_of h.slots) (2 * h.slots) cells g.codes t.slot.0
      → Takes c.desk e c.desk.entries
      → count e.code.0 (codes_of c.desk.entries) ≡ 0
      → Describes (reweighed (h.weight + e.weight) t.head) g nx' pv' st' cells' (added e c)
  add_described t g nx' pv' st' cells' e p q reach same takes new =
      let order = c.slots.order in
      let free = c.slots.free in
      let s = t.slot.0 in
      let is : s ≡ taken h.top.0 free = p.slot order free [] d.links in
      let l : Linked t.head nx' pv' st' (s ∷ order) (but_last 1 free) [] = rw is (p.linked order free [] d.links) in
      let where-slot = pushed_slot t nx' pv' st' p in
      let unused : count s order ≡ 0 = where-slot.0 in
      let small : s < h.slots = where-slot.1 in
      let apart : (u : ℕ) → 1 ≤ count u order → u ≡ s → ⊥ = λ u k z. omega (arith, ap (λ (y : ℕ). count y order) z) in
      let stands : pushed c.slots ≡ record { order = s ∷ order; free = but_last 1 free; top = t.head.top.0 } =
      rw (← d.top, ← is, ← p.top order free [] d.links) in
      let all : Lawful (added e c).desk = adding_lawful e c d.lawful takes new in
      let coded : get_or g.codes s 0 ≡ e.code.0 = ap (λ (r : Row). r.code.0) q.new in
      let agreed = written_sound s e g unused q in
      let fresh : (u : ℕ) → Memᴰ u order → get_or g.codes u 0 ≢ get_or g.codes s 0 =
      λ u m z.
      let k = member_counted u order m in
      let w : get_or f.codes u 0 ≡ e.code.0 = sym (codes_agree f g u (q.old u (apart u k))) ∙ z ∙ coded in
      let y : 1 ≤ count e.code.0 (codes_of c.desk.entries) =
      subst (λ (x : ℕ). 1 ≤ count x (codes_of c.desk.entries)) w (subst (λ (es : List Row). 1 ≤ count (get_or f.codes u 0) (codes_of es)) d.entries (code_counted f u order k)) in
      omega arith in
      subst (λ (z : Slots). Describes (reweighed (h.weight + e.weight) t.head) g nx' pv' st' cells' (record { desk = (added e c).desk; slots = z }))
      (sym stands)
      (record {
        kind = p.rest.kind ∙ d.kind;
        capacity = p.rest.capacity ∙ d.capacity;
        room = p.rest.slots ∙ d.room;
        weight = omega (arith, d.weight);
        top = refl;
        lawful = all;
        reach = rw p.rest.slots reach;
        links = renumbered_linked t.head.capacity (h.weight + e.weight) l;
        entries =
            let rest : gather g order ≡ c.desk.entries = gather_agree g f order (λ u k. q.old u (apart u k)) ∙ d.entries in
            rw (q.new, rest);
        blanks = λ u k z.
            let n : u ≡ s → ⊥ = λ y. let v : one (eqb u s) ≡ 1 = rw (eq-eqb u s y) in omega arith in
            q.old u n ∙ d.blanks u (omega (arith, p.rest.slots)) (omega arith);
        table =
            rw (p.rest.slots, same)
            (insert_sound (home_lt (omega (arith, d.lawful.room.0, d.room))) agreed s
            (omega (arith, reach.codes), λ z. omega (arith, d.links.long.small))
            fresh
            (omega (arith, takes.roomy, order_length d, d.room)));
      })
