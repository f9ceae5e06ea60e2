-- What the acts on the table leave, and what the tests of it say.
-- Assumes nothing.
use Rattle.std.specs.Prelude.{◌≡◌, Bool, true, false, cond, ◌||◌, ◌&&◌, ◌≢◌, ℕ, zero, suc, ◌<◌, eqb, ltb, leb, length, get_or, drop, set, replicate, Option, Some, None}
use mathlib.Core.List.{List, [], ◌∷◌, ◌++◌, Memᴰ}
use Rattle.head.specs.Bounds.{none_mark}
use Rattle.table.specs.declared.Search.{Search}
use Rattle.table.specs.declared.Search.TheVariants.{Found, Empty}
use Rattle.table.specs.Cells.{sought, names}
use Rattle.table.specs.Sound.{Gapped, In, Tidy, Sound}
use Rattle.head.specs.Tails.{Tail}

-- ---- insert

-- a table with an empty cell, and a slot that has a code
pub record Slotted (m : ℕ) (cells codes : List ℕ) (s : ℕ) : Type 0 where
  pub table : Gapped m cells codes
  pub coded : s < length codes

-- a slot is put where a search for its code ended, if that cell is empty
unfoldable pub placed : Search → List ℕ → ℕ → List ℕ
placed (Empty cell count) cells s = set cells cell s
placed (Found x cell count) cells s = cells

-- slot s is put in the empty cell at which the search for its code ends
abbrev pub inserted : (ℕ → ℕ) → ℕ → List ℕ → List ℕ → ℕ → List ℕ
inserted home m cells codes s = placed (sought home m cells codes (get_or codes s 0)) cells s

-- ---- remove

-- a cell that holds a slot, in a tidy table with an empty cell
pub record Holding (home : ℕ → ℕ) (m : ℕ) (cells codes : List ℕ) (cell : ℕ) : Type 0 where
  pub table : Gapped m cells codes
  pub tidy : Tidy home m cells codes
  pub cell_in : cell < m
  pub full : get_or cells cell 0 ≢ none_mark

-- cell j is on the way from cell f to cell t, around the end
unfoldable pub between : ℕ → ℕ → ℕ → Bool
between f j t = cond (leb f t) (leb f j && leb j t) (leb f j || leb j t)

-- a live slot
pub record Live (home : ℕ → ℕ) (m : ℕ) (cells codes : List ℕ) (s : ℕ) : Type 0 where
  pub order : List ℕ
  pub sound : Sound home m cells codes order
  pub live : Memᴰ s order

-- slot s is taken out, and exactly the others stand in a tidy table
pub record TakenOut (home : ℕ → ℕ) (m : ℕ) (codes : List ℕ) (s : ℕ) (cells cells' : List ℕ) : Type 0 where
  pub tail : Tail m cells cells'
  pub tidy : Tidy home m cells' codes
  pub left : (x : ℕ) → x ≢ none_mark → x ≢ s → In m cells x → In m cells' x
  pub only : (p : ℕ) → p < m → get_or cells' p 0 ≢ none_mark → (get_or cells' p 0 ≢ s) × In m cells (get_or cells' p 0)

-- ---- clear and rebuild

-- the first m cells made empty
abbrev pub cleared : ℕ → List ℕ → List ℕ
cleared m cells = replicate m none_mark ++ drop m cells

-- the cells describe an order
pub record Rebuilt (home : ℕ → ℕ) (m : ℕ) (codes order cells cells' : List ℕ) : Type 0 where
  pub sound : Sound home m cells' codes order
  pub tail : Tail m cells cells'

-- ---- tests

-- how many numbers of a list are not none
unfoldable pub filled : List ℕ → ℕ
filled [] = zero
filled (x ∷ xs) = cond (eqb x none_mark) (filled xs) (suc (filled xs))

-- each number of a list is none or below top
unfoldable pub all_below : ℕ → List ℕ → Bool
all_below top [] = true
all_below top (x ∷ xs) = (eqb x none_mark || ltb x top) && all_below top xs

-- how many cells are not empty, if each of those holds a number below top
unfoldable pub tallied : ℕ → List ℕ → Option ℕ
tallied top cells = cond (all_below top cells) (Some (filled cells)) None

-- a count says k
unfoldable pub counts : ℕ → Option ℕ → Bool
counts k (Some j) = eqb j k
counts k None = false

-- the search for a slot's code ends at that slot
abbrev pub standing : (ℕ → ℕ) → ℕ → List ℕ → List ℕ → ℕ → Bool
standing home m cells codes s = names (sought home m cells codes (get_or codes s 0)) s

-- each slot of an order stands
unfoldable pub all_standing : (ℕ → ℕ) → ℕ → List ℕ → List ℕ → List ℕ → Bool
all_standing home m cells codes [] = true
all_standing home m cells codes (s ∷ order) = standing home m cells codes s && all_standing home m cells codes order

-- an answer that says yes exactly where a fact holds
pub record Decides (r : Bool) (P : Type 0) : Type 0 where
  pub yes : r ≡ true → P
  pub no : P → r ≡ true
