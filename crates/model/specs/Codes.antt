-- Codes counted: what "distinct" and "a rearrangement" mean.
-- Assumes nothing.
use Rattle.std.specs.Prelude.{ℕ, ◌+◌, ◌≤◌, Bool, true, false, ◌||◌, List, [], ◌∷◌, ◌≡◌, eqb}
use Rattle.head.specs.declared.Row.{Row}

-- the codes of a list of entries
abbrev pub codes_of : List Row → List ℕ
codes_of [] = []
codes_of (e ∷ es) = e.code.0 ∷ codes_of es

-- 1 for true, 0 for false
abbrev pub one : Bool → ℕ
one true = 1
one false = 0

-- how often a code stands in a list
abbrev pub count : ℕ → List ℕ → ℕ
count x [] = 0
count x (y ∷ ys) = one (eqb x y) + count x ys

-- whether a code stands in a list
abbrev pub has : ℕ → List ℕ → Bool
has x [] = false
has x (y ∷ ys) = eqb x y || has x ys

-- no code stands in the list twice
abbrev pub Distinct : List ℕ → Type 0
Distinct xs = (x : ℕ) → count x xs ≤ 1

-- each code stands in one list as often as in the other
abbrev pub Rearranged : List ℕ → List ℕ → Type 0
Rearranged xs ys = (x : ℕ) → count x xs ≡ count x ys
