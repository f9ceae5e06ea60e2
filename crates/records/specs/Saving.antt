-- Rows of four lists, copied into a list of records.
-- Assumes nothing.
use Rattle.std.specs.Prelude.{ℕ, zero, suc, Bool, cond, ◌&&◌, List, ◌≡◌, leb, length, set}
use Rattle.head.specs.declared.Row.{Row}
use Rattle.head.specs.Fields.{Fields}
use Rattle.store.specs.State.{entry_in}

-- whether the records and each of the four lists hold n rows
abbrev pub holds : ℕ → Fields → List Row → Bool
holds n f rs = leb n (length rs) && leb n (length f.codes) && leb n (length f.stamps) && leb n (length f.values) && leb n (length f.weights)

-- the first n records replaced by the rows of the four lists, in order
unfoldable pub copied : ℕ → Fields → List Row → List Row
copied zero f rs = rs
copied (suc n) f rs = set (copied n f rs) n (entry_in f n)

-- n rows are saved and the answer is true, or the records stay and the answer is false
pub record Saved (n : ℕ) (f : Fields) (before after : List Row) (r : Bool) : Type 0 where
  pub answer : r ≡ holds n f before
  pub records : after ≡ cond (holds n f before) (copied n f before) before
