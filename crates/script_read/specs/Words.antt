-- A line as words.
-- Assumes nothing.
use Rattle.std.specs.Prelude.{ℕ, cond, List, [], ◌∷◌, eqb}

-- the byte that separates words
abbrev pub space : ℕ
space = 32

-- a byte in front of the first word
abbrev pub in_front : ℕ → List (List ℕ) → List (List ℕ)
in_front b [] = (b ∷ []) ∷ []
in_front b (w ∷ ws) = (b ∷ w) ∷ ws

-- a line cut at every space: two in a row, or one at either end, leave an empty word
unfoldable pub words_of : List ℕ → List (List ℕ)
words_of [] = [] ∷ []
words_of (b ∷ bs) = cond (eqb b space) ([] ∷ words_of bs) (in_front b (words_of bs))

-- the words past the space at which a word ended; none where it ended with the line
abbrev pub words_past : List ℕ → List (List ℕ)
words_past [] = []
words_past (b ∷ bs) = words_of bs
