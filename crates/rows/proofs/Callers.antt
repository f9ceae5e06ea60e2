-- For a caller that has a described cache: what it shows the functions of this crate, and what their answers say of its entries.
-- Assumes nothing.
use Prim.Native.Nat.{ℕ, ◌≤◌}
use mathlib.Core.List.{List, [], ◌∷◌, ◌++◌, append_assoc}
use mathlib.Core.Path.{◌≡◌, sym, ap, ◌∙◌}
use native.Mathlib.Omega.{arith}
use lib.ListN.{length, get_or, drop}
use lib.Seq.{drop_at, get_or_at}
use Rattle.head.specs.declared.Head.{Head}
use Rattle.head.specs.declared.Row.{Row}
use Rattle.head.specs.Bounds.{none_mark}
use Rattle.head.specs.Tails.{Tail}
use Rattle.model.specs.Lists.{without, only, oldest}
use Rattle.model.specs.Desk.{leaving}
use Rattle.model.specs.Perform.{Cache}
use Rattle.model.proofs.Mapping.{map_length, map_append}
use Rattle.head.specs.Fields.{Fields, Reach}
use Rattle.store.specs.State.{entry_in, Describes}
use Rattle.store.proofs.Gathered.{only_in}
use Rattle.store.proofs.Described.{slot_in_lem}
use Rattle.rows.specs.Views.{Backward, Forward, Weighted, skipped}
use Rattle.rows.specs.Written.{column, Overlaid, Written}
use Rattle.rows.specs.Answers.{Budgeted, Leaves, Aged, WroteOldest}
use Rattle.rows.proofs.Laying.{columns}
use Rattle.rows.proofs.Listing.{skip_slot, skip_none, all_stay}

module _ {h : Head} {f : Fields} {nx pv st cells : List ℕ} {c : Cache} (d : Describes h f nx pv st cells c) where
  pub backward : Backward h f pv c
  backward = record { nexts = nx; stack = st; cells = cells; described = d }

  pub forward : Forward h f nx c
  forward = record { prevs = pv; stack = st; cells = cells; described = d }

  pub weighted : Weighted h f.weights pv c
  weighted = record { codes = f.codes; stamps = f.stamps; values = f.values; backward = backward }

  -- ---- no slot skipped

  pub budgeted : Budgeted h f.weights pv none_mark
  budgeted = record { cache = c; seen = weighted; place = length c.slots.order; there = skip_none c.slots.order }

  pub leaves : {b r : ℕ} → Leaves h f.weights pv b none_mark r → r ≡ leaving b c.desk.entries
  leaves {b} p = p.many c (length c.slots.order) (skip_none c.slots.order) weighted ∙ ap (leaving b) (all_stay d)

  pub aged : {k : ℕ} {rows : Fields} → k ≤ length c.desk.entries → Reach k rows → Aged h f pv k none_mark rows
  aged some room = record {
    cache = c;
    seen = backward;
    place = length c.slots.order;
    there = skip_none c.slots.order;
    some = rw (all_stay d) some;
    room = room;
  }

  pub wrote_oldest : {k : ℕ} {rows rows' : Fields} → k ≤ length c.desk.entries → WroteOldest h f pv k none_mark rows rows' → Written (oldest k c.desk.entries) rows rows'
  wrote_oldest some p =
      rw (all_stay d) at (p.written c (length c.slots.order) (skip_none c.slots.order) (rw (all_stay d) some) backward)

  -- ---- the slot at place i skipped

  module _ (i s : ℕ) (there : only i c.slots.order ≡ s ∷ []) where
    pub skips : only i c.slots.order ≡ skipped s
    skips =
        let l = slot_in_lem d s (only_in i s c.slots.order there) in
        skip_slot i s c.slots.order (λ e. omega (arith, d.links.long.small)) there

    pub budgeted_but : Budgeted h f.weights pv s
    budgeted_but = record { cache = c; seen = weighted; place = i; there = skips }

    pub leaves_but : {b r : ℕ} → Leaves h f.weights pv b s r → r ≡ leaving b (without i c.desk.entries)
    leaves_but p = p.many c i skips weighted

    pub aged_but : {k : ℕ} {rows : Fields} → k ≤ length (without i c.desk.entries) → Reach k rows → Aged h f pv k s rows
    aged_but some room = record { cache = c; seen = backward; place = i; there = skips; some = some; room = room }

    pub wrote_but : {k : ℕ} {rows rows' : Fields} → k ≤ length (without i c.desk.entries) → WroteOldest h f pv k s rows rows'
        → Written (oldest k (without i c.desk.entries)) rows rows'
    wrote_but some p = p.written c i skips some backward

-- ---- what written rows are

overlaid_tail : {xs b a : List ℕ} (n : ℕ) → length xs ≡ n → Overlaid xs b a → Tail n b a
overlaid_tail {xs} {b} n e o = record {
  size = o.size;
  tail = ap (drop n) o.same ∙ drop_at xs (drop (length xs) b) n e ∙ ap (λ (j : ℕ). drop j b) e;
}

-- past the rows each list is as it was
pub record RowTails (n : ℕ) (f g : Fields) : Type 0 where
  pub codes : Tail n f.codes g.codes
  pub stamps : Tail n f.stamps g.stamps
  pub values : Tail n f.values g.values
  pub weights : Tail n f.weights g.weights

pub written_tails : {rows : List Row} {f g : Fields} → Written rows f g → RowTails (length rows) f g
written_tails {rows} w = record {
  codes = overlaid_tail (length rows) (map_length (columns (λ e. e.code.0)) rows) w.codes;
  stamps = overlaid_tail (length rows) (map_length (columns (λ e. e.stamp)) rows) w.stamps;
  values = overlaid_tail (length rows) (map_length (columns (λ e. e.value)) rows) w.values;
  weights = overlaid_tail (length rows) (map_length (columns (λ e. e.weight)) rows) w.weights;
}

-- rows written over one set of lists leave one set of lists
pub one_written : {rows : List Row} {f g h : Fields} → Written rows f g → Written rows f h → g ≡ h
one_written p q =
    let codes = p.codes.same ∙ sym q.codes.same in
    let stamps = p.stamps.same ∙ sym q.stamps.same in
    let values = p.values.same ∙ sym q.values.same in
    let weights = p.weights.same ∙ sym q.weights.same in
    λ i. record { codes = codes i; stamps = stamps i; values = values i; weights = weights i }

module _ (done : List Row) (e : Row) (rest : List Row) where
  number_at : {b a : List ℕ} (p : Row → ℕ) → Overlaid (column p (done ++ e ∷ rest)) b a → get_or a (length done) 0 ≡ p e
  number_at {b} {a} p o =
      let xs = column p (done ++ e ∷ rest) in
      let parts : xs ++ drop (length xs) b ≡ column p done ++ (p e ∷ (column p rest ++ drop (length xs) b)) =
      ap (λ (l : List ℕ). l ++ drop (length xs) b) (map_append (columns p) done (e ∷ rest)) ∙ append_assoc (column p done) (p e ∷ column p rest) (drop (length xs) b) in
      ap (λ (l : List ℕ). get_or l (length done) 0) (o.same ∙ parts)
      ∙ get_or_at (column p done) (p e) (column p rest ++ drop (length xs) b) 0 (length done) (map_length (columns p) done)

  -- the four numbers at a row's place are the row
  pub written_row : {f g : Fields} → Written (done ++ e ∷ rest) f g → entry_in g (length done) ≡ e
  written_row w =
      rw (
        number_at (λ x. x.code.0) w.codes,
        number_at (λ x. x.stamp) w.stamps,
        number_at (λ x. x.value) w.values,
        number_at (λ x. x.weight) w.weights,
      )
