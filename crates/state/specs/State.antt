-- What a call is lent, as values: a head with eight lists is a state, and four row lists are fields.
-- Assumes nothing.
use Rattle.std.specs.Prelude.{ℕ, List, ◌≡◌, length}
use Rattle.head.specs.declared.Head.{Head}
use Rattle.head.specs.Fields.{Fields}
use Rattle.state.specs.declared.Fields.{Fields as LentFields}
use Rattle.state.specs.declared.FieldsView.{FieldsView}
use Rattle.state.specs.declared.Links.{Links}
use Rattle.state.specs.declared.State.{State as LentState}
use Rattle.state.specs.declared.View.{View}

-- all that a call is handed of a cache
pub record State : Type 0 where
  pub head : Head
  pub fields : Fields
  pub nexts : List ℕ
  pub prevs : List ℕ
  pub stack : List ℕ
  pub cells : List ℕ

-- four lists as fields
abbrev pub fields : List ℕ → List ℕ → List ℕ → List ℕ → Fields
fields codes stamps values weights = record { codes = codes; stamps = stamps; values = values; weights = weights }

-- a head, fields, links and cells as a state
abbrev pub state_of : Head → Fields → List ℕ → List ℕ → List ℕ → List ℕ → State
state_of h f nexts prevs stack cells = record { head = h; fields = f; nexts = nexts; prevs = prevs; stack = stack; cells = cells }

-- a head and eight lists as a state
abbrev pub state : Head → List ℕ → List ℕ → List ℕ → List ℕ → List ℕ → List ℕ → List ℕ → List ℕ → State
state h codes stamps values weights nexts prevs stack cells = record {
  head = h;
  fields = fields codes stamps values weights;
  nexts = nexts;
  prevs = prevs;
  stack = stack;
  cells = cells;
}

-- what four lists hold that are lent to be changed
abbrev pub held : LentFields → Fields
held f = fields f.codes.now f.stamps.now f.values.now f.weights.now

-- what four lists hold that are lent to be read
abbrev pub viewed : FieldsView → Fields
viewed f = fields f.codes.now f.stamps.now f.values.now f.weights.now

-- the state that is lent to be changed
abbrev pub lent : LentState → State
lent s = record { head = s.head; fields = held s.fields; nexts = s.links.next.now; prevs = s.links.prev.now; stack = s.links.stack.now; cells = s.cells.now }

-- the state that is lent to be read
abbrev pub seen : View → State
seen v = record { head = v.head; fields = viewed v.fields; nexts = v.links.next.now; prevs = v.links.prev.now; stack = v.links.stack.now; cells = v.cells.now }

-- the four lists of the second are those of the first: other numbers may stand in them
pub record SameFields (f g : LentFields) : Type 0 where
  pub codes : g.codes.ghost_name ≡ f.codes.ghost_name
  pub stamps : g.stamps.ghost_name ≡ f.stamps.ghost_name
  pub values : g.values.ghost_name ≡ f.values.ghost_name
  pub weights : g.weights.ghost_name ≡ f.weights.ghost_name

-- the same of lists that take rows, which are as long as they were besides
pub record SameRows (f g : LentFields) : Type 0 where
  pub lists : SameFields f g
  pub codes : length g.codes.now ≡ length f.codes.now
  pub stamps : length g.stamps.now ≡ length f.stamps.now
  pub values : length g.values.now ≡ length f.values.now
  pub weights : length g.weights.now ≡ length f.weights.now

-- the same of the three lists of links
pub record SameLinks (k l : Links) : Type 0 where
  pub next : l.next.ghost_name ≡ k.next.ghost_name
  pub prev : l.prev.ghost_name ≡ k.prev.ghost_name
  pub stack : l.stack.ghost_name ≡ k.stack.ghost_name

-- the same of all eight
pub record SameLists (s t : LentState) : Type 0 where
  pub fields : SameFields s.fields t.fields
  pub links : SameLinks s.links t.links
  pub cells : t.cells.ghost_name ≡ s.cells.ghost_name
