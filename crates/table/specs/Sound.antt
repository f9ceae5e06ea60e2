-- When m cells describe a list of live slots. `home` is any function from codes to cells.
-- Assumes nothing.
use Rattle.std.specs.Prelude.{◌≡◌, ◌≢◌, ℕ, ◌≤◌, ◌<◌, length, get_or}
use mathlib.Core.List.{List, Memᴰ}
use Rattle.head.specs.Bounds.{none_mark}
use Rattle.table.specs.Cells.{cell_after}

-- one comes from cell i to cell j over cells that are not empty (cell j itself may be)
pub data Run (cells : List ℕ) (m : ℕ) (j : ℕ) : ℕ → Type 0 where
  here : {i : ℕ} → i ≡ j → Run cells m j i
  over : {i : ℕ} → get_or cells i 0 ≢ none_mark → Run cells m j (cell_after m i) → Run cells m j i

-- what a search needs to end and to be safe: an empty cell, and slots that have a code
pub record Gapped (m : ℕ) (cells codes : List ℕ) : Type 0 where
  pub wide : m ≤ length cells
  pub gap : ℕ
  pub gap_in : gap < m
  pub gap_none : get_or cells gap 0 ≡ none_mark
  pub slots : (p : ℕ) → p < m → get_or cells p 0 ≢ none_mark → get_or cells p 0 < length codes

-- a number stands in one of the m cells
pub record In (m : ℕ) (cells : List ℕ) (s : ℕ) : Type 0 where
  pub cell : ℕ
  pub cell_in : cell < m
  pub holds : get_or cells cell 0 ≡ s

-- no slot stands twice, and there is no empty cell between the home of a slot's code and the slot's cell
pub record Tidy (home : ℕ → ℕ) (m : ℕ) (cells codes : List ℕ) : Type 0 where
  pub wide : m ≤ length cells
  pub once : (p q : ℕ) → p < m → q < m → get_or cells p 0 ≢ none_mark → get_or cells p 0 ≡ get_or cells q 0 → p ≡ q
  pub homed : (p : ℕ) → p < m → get_or cells p 0 ≢ none_mark → Run cells m p (home (get_or codes (get_or cells p 0) 0))

-- the table describes the live slots: each stands in one cell, with no empty cell between its home and there, all other cells hold none,
-- no two live slots have one code, and a cell is left empty
pub record Sound (home : ℕ → ℕ) (m : ℕ) (cells codes order : List ℕ) : Type 0 where
  pub tidy : Tidy home m cells codes
  pub room : length order < m
  pub slot : (s : ℕ) → Memᴰ s order → (s < length codes) × (s ≢ none_mark)
  pub differ : (s t : ℕ) → Memᴰ s order → Memᴰ t order → get_or codes s 0 ≡ get_or codes t 0 → s ≡ t
  pub live : (s : ℕ) → Memᴰ s order → In m cells s
  pub only : (p : ℕ) → p < m → get_or cells p 0 ≢ none_mark → Memᴰ (get_or cells p 0) order
