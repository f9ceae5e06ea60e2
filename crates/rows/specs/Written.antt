-- Rows in four lent lists, one list a field.
-- Assumes nothing.
use Rattle.std.specs.Prelude.{ℕ, List, [], ◌∷◌, ◌++◌, ◌≡◌, length, drop}
use Rattle.head.specs.declared.Row.{Row}
use Rattle.head.specs.Fields.{Fields}

-- one number of each row
abbrev pub column : (Row → ℕ) → List Row → List ℕ
column g [] = []
column g (e ∷ es) = g e ∷ column g es

-- the numbers stand at the beginning of a list now, and past them nothing changed
pub record Overlaid (xs before after : List ℕ) : Type 0 where
  pub size : length after ≡ length before
  pub same : after ≡ xs ++ drop (length xs) before

-- the rows stand at the beginning of the four lists now, in order, and past them nothing changed
pub record Written (rows : List Row) (before after : Fields) : Type 0 where
  pub codes : Overlaid (column (λ e. e.code.0) rows) before.codes after.codes
  pub stamps : Overlaid (column (λ e. e.stamp) rows) before.stamps after.stamps
  pub values : Overlaid (column (λ e. e.value) rows) before.values after.values
  pub weights : Overlaid (column (λ e. e.weight) rows) before.weights after.weights
