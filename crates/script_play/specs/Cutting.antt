-- The input as lines.
-- Assumes nothing.
use Rattle.std.specs.Prelude.{ℕ, suc, ◌+◌, Bool, cond, List, [], ◌∷◌, ◌++◌, eqb}
use Rattle.std.proofs.Math.Seq.{slice}
use Rattle.script_read.specs.Words.{in_front}

-- the byte that ends a line
abbrev pub newline : ℕ
newline = 10

-- bytes as lines: each is ended by a newline, which the last may lack
unfoldable pub lines_of : List ℕ → List (List ℕ)
lines_of [] = []
lines_of (b ∷ bs) = cond (eqb b newline) ([] ∷ lines_of bs) (in_front b (lines_of bs))

-- lines as bytes: each with the newline that ends it
unfoldable pub ended : List (List ℕ) → List ℕ
ended [] = []
ended (l ∷ ls) = l ++ (newline ∷ ended ls)

-- how many bytes stand before the first newline; all of them where there is none
unfoldable pub line_length : List ℕ → ℕ
line_length [] = 0
line_length (b ∷ bs) = cond (eqb b newline) 0 (suc (line_length bs))

-- where the line that begins at `from` ends: at the first newline before n, or at n
abbrev pub line_end : List ℕ → ℕ → ℕ → ℕ
line_end input from n = from + line_length (slice from n input)

-- where to go on past a line that ends at `to`: behind its newline, or at n where its answer could not be written
abbrev pub next_line : Bool → ℕ → ℕ → ℕ
next_line written to n = cond written (to + 1) n
