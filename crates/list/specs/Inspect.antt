-- The tests that decide whether links are sound, as the code runs them.
-- Assumes nothing.
use Rattle.std.specs.Prelude.{ℕ, zero, suc, ◌-◌, Bool, true, cond, ◌&&◌, List, ◌≡◌, length, get_or, ltb, leb, eqb}
use Rattle.head.specs.declared.Head.{Head}
use Rattle.head.specs.Bounds.{none_mark, unused_mark, most_slots}
use Rattle.list.specs.Links.{Sound}

-- f at each of k places, from i on
unfoldable pub all_from : ℕ → ℕ → (ℕ → Bool) → Bool
all_from zero i f = true
all_from (suc k) i f = f i && all_from k (suc i) f

-- slot s's links hold n and p
unfoldable pub links_are : List ℕ → List ℕ → ℕ → ℕ → ℕ → Bool
links_are nx pv s n p = eqb (get_or nx s 0) n && eqb (get_or pv s 0) p

-- the stack's place k: a free slot that knows its place, or none past the depth
unfoldable pub cell_ok : List ℕ → List ℕ → List ℕ → ℕ → ℕ → ℕ → Bool
cell_ok nx pv st depth top k =
    cond (ltb k depth) (ltb (get_or st k 0) top && links_are nx pv (get_or st k 0) unused_mark k) (eqb (get_or st k 0) none_mark)

-- a slot from top on
unfoldable pub bare_ok : List ℕ → List ℕ → ℕ → Bool
bare_ok nx pv i = links_are nx pv i unused_mark none_mark

-- k slots from cur on, each below top and linked back to the one before, end at back
unfoldable pub walk_ok : List ℕ → List ℕ → ℕ → ℕ → ℕ → ℕ → ℕ → Bool
walk_ok nx pv top back zero last cur = eqb cur none_mark && eqb last back
walk_ok nx pv top back (suc k) last cur = ltb cur top && (eqb (get_or pv cur 0) last && walk_ok nx pv top back k cur (get_or nx cur 0))

-- the head's numbers fit each other and lists of lengths a, b and c
unfoldable pub numbers_ok : Head → ℕ → ℕ → ℕ → Bool
numbers_ok h a b c =
    leb h.slots most_slots && (leb h.slots a && (leb h.slots b && (leb h.slots c
    && (leb h.top.0 h.slots && (leb h.live h.top.0 && eqb h.depth.0 (h.top.0 - h.live))))))

-- all of them
unfoldable pub links_ok : Head → List ℕ → List ℕ → List ℕ → Bool
links_ok h nx pv st =
    numbers_ok h (length nx) (length pv) (length st)
    && (walk_ok nx pv h.top.0 h.back.0 h.live none_mark h.front.0
    && (all_from h.slots 0 (cell_ok nx pv st h.depth.0 h.top.0)
    && all_from (h.slots - h.top.0) h.top.0 (bare_ok nx pv)))

-- the answer is true exactly when the links are sound
pub record Inspected (h : Head) (nx pv st : List ℕ) (r : Bool) : Type 0 where
  pub sound : r ≡ true → Sound h nx pv st
  pub passes : Sound h nx pv st → r ≡ true
