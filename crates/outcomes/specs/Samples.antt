-- Small caches with a state for each, to say wrong answers of.
-- Assumes nothing.
use Rattle.std.specs.Prelude.{ℕ, List, [], ◌∷◌, ◌≡◌}
use Rattle.head.specs.declared.Code.{Code}
use Rattle.head.specs.declared.Row.{Row}
use Rattle.head.specs.Bounds.{none_mark, unused_mark}
use Rattle.head.specs.Fields.{Fields}
use Rattle.model.specs.Desk.{Kind, plain, weighed, entry}
use Rattle.model.specs.Perform.{Cache, fresh}
use Rattle.store.specs.State.{fields}
use Rattle.plan.specs.States.{State, Means}

-- the state describes a cache with these entries, front to back
pub record Shows (s : State) (es : List Row) : Type 0 where
  pub cache : Cache
  pub means : Means s cache
  pub entries : cache.desk.entries ≡ es

-- a number as a code
abbrev pub code : ℕ → Code
code n = record { 0 = n }

-- code 20 in front, stamp 8 and value 200
abbrev pub row20 : Row
row20 = entry 20 8 200 0

-- code 10 at the back, stamp 7 and value 100
abbrev pub row10 : Row
row10 = entry 10 7 100 0

-- code 20 with weight 4
abbrev pub heavy20 : Row
heavy20 = entry 20 8 200 4

-- code 10 with weight 3
abbrev pub heavy10 : Row
heavy10 = entry 10 7 100 3

-- a cache of four slots, of which two entries take slots 1 and 0
abbrev pub pair : Kind → ℕ → Row → Row → Cache
pair k c e f = record {
  desk = record { kind = k; capacity = c; room = 4; entries = e ∷ f ∷ [] };
  slots = record { order = 1 ∷ 0 ∷ []; free = []; top = 2 };
}

-- plain, with room for one entry more
abbrev pub roomy : Cache
roomy = pair plain 3 row20 row10

-- plain and full
abbrev pub full : Cache
full = pair plain 2 row20 row10

-- weighed: 2 entries of weight 7 together in a capacity of 10
abbrev pub laden : Cache
laden = pair weighed 10 heavy20 heavy10

-- weighed and full: 2 entries of weight 7 together in a capacity of 9
abbrev pub packed : Cache
packed = pair weighed 9 heavy20 heavy10

-- plain, with no entry
abbrev pub bare : Cache
bare = fresh plain 3 4

-- four lists for rows, four zeros each
abbrev pub lists : Fields
lists = fields (0 ∷ 0 ∷ 0 ∷ 0 ∷ []) (0 ∷ 0 ∷ 0 ∷ 0 ∷ []) (0 ∷ 0 ∷ 0 ∷ 0 ∷ []) (0 ∷ 0 ∷ 0 ∷ 0 ∷ [])

-- the numbers of such a pair: kind, capacity and the two weights, back first
abbrev pub pair_state : ℕ → ℕ → ℕ → ℕ → ℕ → State
pair_state k c w v total = record {
  head = record {
    kind = k;
    capacity = c;
    slots = 4;
    live = 2;
    weight = total;
    front = record { 0 = 1 };
    back = record { 0 = 0 };
    top = record { 0 = 2 };
    depth = record { 0 = 0 };
  };
  fields = fields (10 ∷ 20 ∷ 0 ∷ 0 ∷ []) (7 ∷ 8 ∷ 0 ∷ 0 ∷ []) (100 ∷ 200 ∷ 0 ∷ 0 ∷ []) (w ∷ v ∷ 0 ∷ 0 ∷ []);
  nexts = none_mark ∷ 0 ∷ unused_mark ∷ unused_mark ∷ [];
  prevs = 1 ∷ none_mark ∷ none_mark ∷ none_mark ∷ [];
  stack = none_mark ∷ none_mark ∷ none_mark ∷ none_mark ∷ [];
  cells = 1 ∷ 0 ∷ none_mark ∷ none_mark ∷ none_mark ∷ none_mark ∷ none_mark ∷ none_mark ∷ [];
}

-- the numbers of a cache just opened
abbrev pub bare_state : State
bare_state = record {
  head = record {
    kind = 0;
    capacity = 3;
    slots = 4;
    live = 0;
    weight = 0;
    front = record { 0 = none_mark };
    back = record { 0 = none_mark };
    top = record { 0 = 0 };
    depth = record { 0 = 0 };
  };
  fields = lists;
  nexts = unused_mark ∷ unused_mark ∷ unused_mark ∷ unused_mark ∷ [];
  prevs = none_mark ∷ none_mark ∷ none_mark ∷ none_mark ∷ [];
  stack = none_mark ∷ none_mark ∷ none_mark ∷ none_mark ∷ [];
  cells = none_mark ∷ none_mark ∷ none_mark ∷ none_mark ∷ none_mark ∷ none_mark ∷ none_mark ∷ none_mark ∷ [];
}
