-- What the tests before each act say, for a table of 16 slots.
-- Assumes nothing.
use mathlib.Core.List.{List, Memᴰ}
use Rattle.std.specs.Prelude.{ℕ, ◌<◌}
use Rattle.crc.specs.Home.{home_of}
use Rattle.model.specs.Codes.{Distinct}
use Rattle.table.specs.Sound.{Sound}
use Rattle.table.specs.Links.{Listed}

-- slots below 16, none twice
pub record Proper (order : List ℕ) : Type 0 where
  pub below : (s : ℕ) → Memᴰ s order → s < 16
  pub once : Distinct order

-- the links list an order, and the cells describe it
pub record Ready (cells codes next order : List ℕ) : Type 0 where
  pub listed : Listed 16 cells codes next order
  pub sound : Sound (home_of 16) 32 cells codes order
