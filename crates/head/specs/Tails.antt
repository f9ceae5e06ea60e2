-- What a call leaves alone: the part of a lent list that lies past what it needs.
-- Assumes nothing.
use Rattle.std.specs.Prelude.{ℕ, List, ◌≡◌, length, drop}

-- past the first n places nothing changed
pub record Tail (n : ℕ) (before after : List ℕ) : Type 0 where
  pub size : length after ≡ length before
  pub tail : drop n after ≡ drop n before
