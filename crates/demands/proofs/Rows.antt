-- As many codes at the beginning of the row lists as rows were written are the rows' codes.
-- Assumes nothing.
use Prim.Native.Nat.{ℕ, suc}
use mathlib.Core.List.{List, [], ◌∷◌}
use mathlib.Core.Path.{◌≡◌, refl, ap}
use lib.ListN.{length, take, drop}
use lib.Seq.{take_at}
use Rattle.head.specs.declared.Row.{Row}
use Rattle.head.specs.Fields.{Fields}
use Rattle.model.specs.Codes.{codes_of}
use Rattle.rows.specs.Written.{column, Written}

columned : (es : List Row) → column (λ e. e.code.0) es ≡ codes_of es
columned [] = refl
columned (e ∷ es) = ap (λ (l : List ℕ). e.code.0 ∷ l) (columned es)

coded_length : (es : List Row) → length (codes_of es) ≡ length es
coded_length [] = refl
coded_length (e ∷ es) = ap suc (coded_length es)

-- so many codes at the beginning of the row lists are the rows' codes
pub written_codes : (n : ℕ) (es : List Row) (before after : Fields) → n ≡ length es → Written es before after → take n after.codes ≡ codes_of es
written_codes n es before after q w =
    rw (w.codes.same, columned es, q, ← coded_length es) (take_at (codes_of es) (drop (length (codes_of es)) before.codes) (length (codes_of es)) refl)
