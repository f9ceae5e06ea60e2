-- The meaning of a cache, slots apart: its kind, its capacity C, its N slots, and the recency list, most recent first.
-- Assumes nothing.
use Rattle.std.specs.Prelude.{ℕ, zero, suc, ◌+◌, ◌-◌, Bool, cond, not, ◌&&◌, List, [], ◌∷◌, eqb, leb, length}
use Rattle.head.specs.declared.Row.{Row}
use Rattle.head.specs.declared.Rule.{Rule}
use Rattle.head.specs.Bounds.{plain_kind, weighed_kind}
use Rattle.head.specs.Rules.{code_rule, value_rule, stamp_rule, weight_rule}

-- a cache is plain, so that every weight is 0, or weighed
pub data Kind : Type 0 where
  plain : Kind
  weighed : Kind

-- the kind's number in the head
abbrev pub kind_number : Kind → ℕ
kind_number plain = plain_kind
kind_number weighed = weighed_kind

-- the kind of a number that opening allows
abbrev pub kind_of : ℕ → Kind
kind_of n = cond (eqb n plain_kind) plain weighed

-- the cache without its slots
pub record Desk : Type 0 where
  pub kind : Kind
  pub capacity : ℕ
  pub room : ℕ
  pub entries : List Row

-- an entry of these four numbers
abbrev pub entry : ℕ → ℕ → ℕ → ℕ → Row
entry code stamp value weight = record { code = record { 0 = code }; stamp = stamp; value = value; weight = weight }

-- the entry with another value
abbrev pub valued : ℕ → Row → Row
valued v e = entry e.code.0 e.stamp v e.weight

-- the list with another value at place i
abbrev pub revalued : ℕ → ℕ → List Row → List Row
revalued i v [] = []
revalued zero v (e ∷ es) = valued v e ∷ es
revalued (suc i) v (e ∷ es) = e ∷ revalued i v es

-- what looking for an entry finds: none, or its place and itself
pub data Found : Type 0 where
  absent : Found
  present : ℕ → Row → Found

-- the same, one place further back
abbrev pub further : Found → Found
further absent = absent
further (present i e) = present (suc i) e

-- the entry of a code: two keys are equal when their codes are
abbrev pub find : ℕ → List Row → Found
find c [] = absent
find c (e ∷ es) = cond (eqb e.code.0 c) (present 0 e) (further (find c es))

-- the entry in front
abbrev pub first : List Row → Found
first [] = absent
first (e ∷ es) = present 0 e

-- the entry at the back
abbrev pub last : List Row → Found
last [] = absent
last (e ∷ []) = present 0 e
last (e ∷ f ∷ es) = further (last (f ∷ es))

-- what is said where no entry was found, and where one was
abbrev pub on_found : {A : Type 0} → Found → A → (ℕ → Row → A) → A
on_found absent a f = a
on_found (present i e) a f = f i e

-- how many entries there are
abbrev pub live : Desk → ℕ
live d = length d.entries

-- what the entries weigh together
abbrev pub weighs : List Row → ℕ
weighs [] = 0
weighs (e ∷ es) = e.weight + weighs es

-- what an entry takes of the capacity: one, and its weight
abbrev pub cost : Row → ℕ
cost e = suc e.weight

-- how many entries, from the front on, take at most b of the capacity together
abbrev pub fitting : ℕ → List Row → ℕ
fitting b [] = 0
fitting b (e ∷ es) = cond (leb (cost e) b) (suc (fitting (b - cost e) es)) 0

-- how many leave from the back until the rest takes at most b
abbrev pub leaving : ℕ → List Row → ℕ
leaving b es = length es - fitting b es

-- from low to high, both ends included
abbrev pub in_range : ℕ → ℕ → ℕ → Bool
in_range low high x = leb low x && leb x high

-- whether an entry passes a rule, its "not" apart
abbrev pub passes : Rule → Row → Bool
passes q e =
    cond (eqb q.number code_rule) (in_range q.low q.high e.code.0)
    (cond (eqb q.number value_rule) (in_range q.low q.high e.value)
    (cond (eqb q.number stamp_rule) (leb q.low e.stamp)
    (leb e.weight q.high)))

-- whether `retain` keeps an entry
abbrev pub keeps : Rule → Row → Bool
keeps q e = cond q.not (not (passes q e)) (passes q e)

-- whether there is such a rule
abbrev pub is_rule : Rule → Bool
is_rule q = leb q.number weight_rule

-- a mark for each entry: whether it is kept
abbrev pub marks : Rule → List Row → List Bool
marks q [] = []
marks q (e ∷ es) = keeps q e ∷ marks q es
