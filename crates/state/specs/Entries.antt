-- The entry at a place of four lists.
-- Assumes nothing.
use Rattle.std.specs.Prelude.{ℕ, min, ◌<◌, ◌≡◌, length, get_or, set}
use Rattle.head.specs.declared.Row.{Row}
use Rattle.head.specs.Fields.{Fields}
use Rattle.model.specs.Desk.{entry}

-- how many rows four lists hold: as many as the shortest
abbrev pub shortest : Fields → ℕ
shortest rows = min (length rows.codes) (min (length rows.stamps) (min (length rows.values) (length rows.weights)))

-- what slot s holds
abbrev pub entry_in : Fields → ℕ → Row
entry_in f s = entry (get_or f.codes s 0) (get_or f.stamps s 0) (get_or f.values s 0) (get_or f.weights s 0)

-- all four lists have a place s
pub record Writable (s : ℕ) (f : Fields) : Type 0 where
  pub codes : s < length f.codes
  pub stamps : s < length f.stamps
  pub values : s < length f.values
  pub weights : s < length f.weights

-- the four numbers at place s are those of an entry now
pub record Wrote (s : ℕ) (e : Row) (f g : Fields) : Type 0 where
  pub codes : g.codes ≡ set f.codes s e.code.0
  pub stamps : g.stamps ≡ set f.stamps s e.stamp
  pub values : g.values ≡ set f.values s e.value
  pub weights : g.weights ≡ set f.weights s e.weight
