-- What the table asks of the order of slots that the links walk.
-- Assumes nothing.
use Rattle.std.specs.Prelude.{◌≡◌, ◌≢◌, ℕ, ◌*◌, ◌≤◌, ◌<◌, length, get_or}
use mathlib.Core.List.{List, Memᴰ}
use Rattle.head.specs.Bounds.{none_mark}
use Rattle.model.specs.Codes.{Distinct}

-- an order that 2n cells can describe: no slot twice, each within the lists, a cell left empty
pub record Listed (n : ℕ) (cells codes next order : List ℕ) : Type 0 where
  pub wide : 2 * n ≤ length cells
  pub room : length order < 2 * n
  pub coded : (s : ℕ) → Memᴰ s order → (s < length codes) × (s ≢ none_mark)
  pub linked : (s : ℕ) → Memᴰ s order → s < length next
  pub once : Distinct order

-- and no two of its slots have one code
pub record Keyed (n : ℕ) (cells codes next order : List ℕ) : Type 0 where
  pub listed : Listed n cells codes next order
  pub differ : (s t : ℕ) → Memᴰ s order → Memᴰ t order → get_or codes s 0 ≡ get_or codes t 0 → s ≡ t
