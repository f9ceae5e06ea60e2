-- No row written: the lists stay as they were.
-- Assumes nothing.
use mathlib.Core.List.{[]}
use mathlib.Core.Path.{◌≡◌, refl}
use Rattle.head.specs.Fields.{Fields}
use Rattle.rows.specs.Written.{Written}

pub none_written : (rows : Fields) → Written [] rows rows
none_written rows = record {
  codes = record { size = refl; same = refl };
  stamps = record { size = refl; same = refl };
  values = record { size = refl; same = refl };
  weights = record { size = refl; same = refl };
}

pub written_none : {f g : Fields} → Written [] f g → g ≡ f
written_none w = λ i. record { codes = w.codes.same i; stamps = w.stamps.same i; values = w.values.same i; weights = w.weights.same i }
