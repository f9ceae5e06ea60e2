-- What is written for an answer and its rows.
-- Assumes nothing.
use Rattle.std.specs.Prelude.{ℕ, suc, ◌*◌, ◌≤◌, min, Bool, true, false, List, Option, Some, None, length}
use Rattle.head.specs.declared.Row.{Row}
use Rattle.head.specs.declared.Answer.{Answer}
use Rattle.head.specs.declared.Form.{Form}
use Rattle.head.specs.declared.Form.TheVariants.{Reading, Listing, Acting, Handing}
use Rattle.head.specs.Answers.{row_count}
use Rattle.head.specs.Fields.{Fields, Reach}
use Rattle.head.specs.Forms.{form_of}
use Rattle.model.specs.Slots.{up_from}
use Rattle.store.specs.State.{gather}
use Rattle.script_write.specs.Lines.{most_line, row_word, lines}
use Rattle.script_read.specs.declared.Line.{Line}
use Rattle.script_read.specs.declared.Line.TheVariants.{Open, Call}

-- a listing's rows stay in the cache; those of every other call have left it
abbrev pub is_listing : Form → Bool
is_listing Reading = false
is_listing Listing = true
is_listing Acting = false
is_listing Handing = false

-- the same of a line
abbrev pub listed : Option Line → Bool
listed (Some (Open kind c n)) = false
listed (Some (Call m)) = is_listing (form_of m)
listed None = false

-- the first n rows of four lists
abbrev pub rows_from : ℕ → Fields → List Row
rows_from n f = gather f (up_from 0 n)

-- the lists have n rows, and the buffer room for their lines and one more
pub record Roomy (n : ℕ) (rows : Fields) (buffer : List ℕ) : Type 0 where
  pub reach : Reach n rows
  pub room : suc n * most_line ≤ length buffer

-- how many rows are written: those that the answer counts, which are never more than the lists hold
abbrev pub shown : Answer → Fields → ℕ
shown a rows = min (min (min (min (row_count a) (length rows.codes)) (length rows.stamps)) (length rows.values)) (length rows.weights)

-- the whole text of an answer with its rows in four lists
abbrev pub replied : Bool → Fields → Answer → List ℕ
replied stay rows a = lines (row_word stay) (rows_from (shown a rows) rows) a
