-- A state that describes an empty cache, and a capacity that grows.
-- Assumes nothing.
use Prim.Native.Nat.{ℕ, ◌*◌, ◌≤◌, ◌<◌}
use mathlib.Core.Bool.{false}
use mathlib.Core.List.{List, [], ◌++◌}
use mathlib.Core.Path.{◌≡◌, refl, ◌∙◌}
use native.Mathlib.Omega.{arith}
use lib.Dec.{ltb}
use lib.ListN.{drop, replicate}
use Rattle.head.specs.declared.Head.{Head}
use Rattle.head.specs.Fresh.{reweighed, recapped}
use Rattle.head.specs.Bounds.{most_capacity}
use Rattle.crc.specs.Home.{home_of}
use Rattle.model.specs.Desk.{Kind, kind_number}
use Rattle.model.specs.Moves.{clear}
use Rattle.model.specs.Perform.{Cache, fresh}
use Rattle.model.specs.Claims.{spent, Lawful}
use Rattle.model.proofs.Lawful.{move_lawful}
use Rattle.list.specs.Links.{Linked}
use Rattle.list.specs.Promises as list
use Rattle.list.proofs.Filling.{fill_tail, fill_at}
use Rattle.list.proofs.Renumbered.{renumbered_linked}
use Rattle.table.specs.Sound.{Sound}
use Rattle.table.specs.Acts.{cleared}
use Rattle.table.proofs.Kept.{clear_sound, clear_tail}
use Rattle.head.specs.Fields.{Fields, Reach}
use Rattle.state.specs.State.{state_of}
use Rattle.store.specs.State.{entry_in, blank, Describes}
use Rattle.store.specs.Acts.{Spacious, Emptied}
use Rattle.store.specs.Caches.{after, capped}

-- no slot in use, every field 0, every cell empty: a cache just opened
pub empty_described : (k : Kind) (c n : ℕ) (r : Head) (g : Fields) (nx pv st cells : List ℕ) → r.kind ≡ kind_number k → r.capacity ≡ c → r.slots ≡ n
    → r.weight ≡ 0
    → r.top.0 ≡ 0
    → Linked r nx pv st [] [] []
    → Lawful (fresh k c n).desk
    → Reach n g
    → ((u : ℕ) → u < n → entry_in g u ≡ blank)
    → Sound (home_of n) (2 * n) cells g.codes []
    → Describes r g nx pv st cells (fresh k c n)
empty_described k c n r g nx pv st cells kind capacity slots weight top linked lawful reach blanks table = record {
  kind = kind;
  capacity = capacity;
  room = slots;
  weight = weight;
  top = top;
  lawful = lawful;
  reach = rw slots reach;
  links = linked;
  entries = refl;
  blanks = λ u m z. blanks u (omega arith);
  table = rw slots table;
}

module _ {h : Head} {f : Fields} {nx pv st cells : List ℕ} {c : Cache} (d : Describes h f nx pv st cells c) where
  -- everything cleared
  pub clear_described : (r : Head) (g : Fields) (nx' pv' st' cells' : List ℕ) → Emptied (state_of h f nx pv st cells) (state_of r g nx' pv' st' cells')
      → Describes r g nx' pv' st' cells' (after clear c)
  clear_described r g nx' pv' st' cells' p =
      empty_described c.desk.kind c.desk.capacity c.desk.room r g nx' pv' st' cells'
      (p.kind ∙ d.kind)
      (p.capacity ∙ d.capacity)
      (p.slots ∙ d.room)
      p.weight
      p.top
      p.linked
      (move_lawful clear c.desk d.lawful tt tt)
      (rw (← d.room) p.reach)
      (λ u m. p.blanks u (omega (arith, d.room)))
      (rw (← d.room) p.table)

  -- a described state can be cleared
  pub described_spacious : Spacious (state_of h f nx pv st cells)
  described_spacious = record {
    some = omega (arith, d.lawful.room.0, d.room);
    reach = d.reach;
    links = d.links.long;
    table = d.table.tidy.wide;
  }

  -- a capacity that is no smaller moves nothing
  pub grow_described : (n : ℕ) → ltb n c.desk.capacity ≡ false → 1 ≤ n → n ≤ most_capacity → spent c.desk.entries ≤ n
      → Describes (recapped n h) f nx pv st cells (capped n c)
  grow_described n g some most fits = rw g (record {
    kind = d.kind;
    capacity = refl;
    room = d.room;
    weight = d.weight;
    top = d.top;
    lawful = record {
      capacity = (some, most);
      room = d.lawful.room;
      distinct = d.lawful.distinct;
      within = fits;
      roomy = d.lawful.roomy;
      light = d.lawful.light;
    };
    reach = d.reach;
    links = renumbered_linked n h.weight d.links;
    entries = d.entries;
    blanks = d.blanks;
    table = d.table;
  })

-- filled lists, cleared links and cells: nothing is held
pub emptied_ok : (h r : Head) (f g : Fields) (nx pv st cells nx' pv' st' cells' : List ℕ) → Spacious (state_of h f nx pv st cells)
    → g.codes ≡ replicate h.slots 0 ++ drop h.slots f.codes
    → g.stamps ≡ replicate h.slots 0 ++ drop h.slots f.stamps
    → g.values ≡ replicate h.slots 0 ++ drop h.slots f.values
    → g.weights ≡ replicate h.slots 0 ++ drop h.slots f.weights
    → cells' ≡ cleared (2 * h.slots) cells
    → list.Cleared h r nx pv st nx' pv' st'
    → Emptied (state_of h f nx pv st cells) (state_of (reweighed 0 r) g nx' pv' st' cells')
emptied_ok h r f g nx pv st cells nx' pv' st' cells' s a b c d t p =
    let n = h.slots in
    let ta = fill_tail n f.codes 0 a s.reach.codes in
    let tb = fill_tail n f.stamps 0 b s.reach.stamps in
    let tc = fill_tail n f.values 0 c s.reach.values in
    let td = fill_tail n f.weights 0 d s.reach.weights in
    record {
      tails = record {
        codes = ta;
        stamps = tb;
        values = tc;
        weights = td;
        nexts = p.next_tail;
        prevs = p.prev_tail;
        stacks = p.stack_tail;
        table = rw t (clear_tail cells s.table);
      };
      kind = p.rest.kind;
      capacity = p.rest.capacity;
      slots = p.rest.slots;
      weight = refl;
      top = p.top;
      reach = record {
        codes = omega (arith, ta.size, s.reach.codes);
        stamps = omega (arith, tb.size, s.reach.stamps);
        values = omega (arith, tc.size, s.reach.values);
        weights = omega (arith, td.size, s.reach.weights);
      };
      linked = renumbered_linked r.capacity 0 p.linked;
      blanks = λ u k. rw (fill_at n f.codes 0 a u k, fill_at n f.stamps 0 b u k, fill_at n f.values 0 c u k, fill_at n f.weights 0 d u k);
      table = rw t (clear_sound cells g.codes s.table (omega (arith, s.some)));
    }
