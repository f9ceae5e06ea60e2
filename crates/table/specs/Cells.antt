-- The cells of the lookup table in the order in which a search reads them, and what the search answers.
-- Cells and codes are lists; m is how many cells there are, h the home of the code.
-- Assumes nothing.
use Rattle.std.specs.Prelude.{Bool, true, false, cond, ◌||◌, List, [], ◌∷◌, ◌++◌, ℕ, zero, suc, ◌+◌, ◌-◌, eqb, ltb, get_or, take, drop}
use Rattle.head.specs.Bounds.{none_mark}
use Rattle.head.specs.declared.Slot.{Slot}
use Rattle.table.specs.declared.Search.{Search}
use Rattle.table.specs.declared.Search.TheVariants.{Found, Empty}

-- the cell that a number below 2 m names, around the end
unfoldable pub wrap : ℕ → ℕ → ℕ
wrap m t = cond (ltb t m) t (t - m)

-- the cell after a cell, around the end
unfoldable pub cell_after : ℕ → ℕ → ℕ
cell_after m i = wrap m (i + 1)

-- what the m cells hold, in the order in which a search from cell h reads them
unfoldable pub ring : List ℕ → ℕ → ℕ → List ℕ
ring cells m h = drop h (take m cells) ++ take h (take m cells)

-- a cell that ends the search for a code: an empty one, or one whose slot has the code
unfoldable pub stops : List ℕ → ℕ → ℕ → Bool
stops codes code x = eqb x none_mark || eqb (get_or codes x 0) code

-- how many leading elements do not pass a test
unfoldable pub past : (ℕ → Bool) → List ℕ → ℕ
past f [] = zero
past f (x ∷ xs) = elim (f x) [ true ↦ zero | false ↦ suc (past f xs) ]

-- how many cells a search from cell h passes before the one that ends it
abbrev pub passed : List ℕ → List ℕ → ℕ → ℕ → ℕ → ℕ
passed cells codes m h code = past (stops codes code) (ring cells m h)

-- a number as a slot's
abbrev pub slot_of : ℕ → Slot
slot_of s = record { 0 = s }

-- the answer of a search that ends at a cell, which holds x, having read count cells
unfoldable pub answer : ℕ → ℕ → ℕ → Search
answer x cell count = cond (eqb x none_mark) (Empty cell count) (Found (slot_of x) cell count)

-- the search from cell h: slot, cell and count all come from how many cells are passed
unfoldable pub lookup : List ℕ → List ℕ → ℕ → ℕ → ℕ → Search
lookup cells codes m h code =
    let k = passed cells codes m h code in
    answer (get_or (ring cells m h) k 0) (wrap m (h + k)) (k + 1)

-- the search for a code from its home
abbrev pub sought : (ℕ → ℕ) → ℕ → List ℕ → List ℕ → ℕ → Search
sought home m cells codes code = lookup cells codes m (home code) code

-- the slot that an answer names, or none
unfoldable pub slot_in : Search → ℕ
slot_in (Found x cell count) = x.0
slot_in (Empty cell count) = none_mark

-- how many cells were read
unfoldable pub count_in : Search → ℕ
count_in (Found x cell count) = count
count_in (Empty cell count) = count

-- the answer names slot s
unfoldable pub names : Search → ℕ → Bool
names (Found x cell count) s = eqb x.0 s
names (Empty cell count) s = false
