-- Lists that stay the same over two calls.
-- Assumes nothing.
use Prim.Native.Nat.{ℕ}
use mathlib.Core.Path.{refl, ap, ◌∙◌}
use lib.ListN.{length, length-set}
use Rattle.head.specs.declared.Row.{Row}
use Rattle.state.specs.declared.Fields.{Fields}
use Rattle.state.specs.declared.Links.{Links}
use Rattle.state.specs.declared.State.{State}
use Rattle.state.specs.State.{held, SameFields, SameRows, SameLinks, SameLists}
use Rattle.state.specs.Entries.{Wrote}

pub fields_stay : {f : Fields} → SameFields f f
fields_stay = record { codes = refl; stamps = refl; values = refl; weights = refl }

pub fields_then : {f g h : Fields} → SameFields f g → SameFields g h → SameFields f h
fields_then a b = record { codes = b.codes ∙ a.codes; stamps = b.stamps ∙ a.stamps; values = b.values ∙ a.values; weights = b.weights ∙ a.weights }

pub rows_stay : {f : Fields} → SameRows f f
rows_stay = record { lists = fields_stay; codes = refl; stamps = refl; values = refl; weights = refl }

pub rows_then : {f g h : Fields} → SameRows f g → SameRows g h → SameRows f h
rows_then a b = record {
  lists = fields_then a.lists b.lists;
  codes = b.codes ∙ a.codes;
  stamps = b.stamps ∙ a.stamps;
  values = b.values ∙ a.values;
  weights = b.weights ∙ a.weights;
}

-- one row written
pub rows_wrote : {s : ℕ} {e : Row} {f g : Fields} → SameFields f g → Wrote s e (held f) (held g) → SameRows f g
rows_wrote {s} {e} {f} k w = record {
  lists = k;
  codes = ap length w.codes ∙ length-set f.codes.now s e.code.0;
  stamps = ap length w.stamps ∙ length-set f.stamps.now s e.stamp;
  values = ap length w.values ∙ length-set f.values.now s e.value;
  weights = ap length w.weights ∙ length-set f.weights.now s e.weight;
}

pub links_stay : {k : Links} → SameLinks k k
links_stay = record { next = refl; prev = refl; stack = refl }

pub links_then : {k l m : Links} → SameLinks k l → SameLinks l m → SameLinks k m
links_then a b = record { next = b.next ∙ a.next; prev = b.prev ∙ a.prev; stack = b.stack ∙ a.stack }

pub lists_stay : {s : State} → SameLists s s
lists_stay = record { fields = fields_stay; links = links_stay; cells = refl }

pub lists_then : {s t u : State} → SameLists s t → SameLists t u → SameLists s u
lists_then a b = record { fields = fields_then a.fields b.fields; links = links_then a.links b.links; cells = b.cells ∙ a.cells }
