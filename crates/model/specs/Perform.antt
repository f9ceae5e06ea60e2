-- The cache as a whole, and the calls gathered over `Command`.
-- Assumes nothing.
use Rattle.std.specs.Prelude.{ℕ, Bool, cond, ◌&&◌, List, [], reverse, leb, length}
use Rattle.head.specs.declared.Row.{Row}
use Rattle.head.specs.declared.Refusal.{Refusal}
use Rattle.head.specs.declared.Refusal.TheVariants.{NotOpened, TooFewRows}
use Rattle.head.specs.declared.Answer.{Answer}
use Rattle.head.specs.declared.Command.{Command}
use Rattle.head.specs.declared.Command.TheVariants.{Len, Capacity, Weight, IsEmpty, IsFull, Front, Back, Peek, Contains, List as ListFront, ListBack, Get, Pop, PopFront, PopBack, Put, PutWithWeight, Clear, Retain, Resize, PutOrModify, TryPutOrModify, GetMut, PeekMut, FrontMut, BackMut}
use Rattle.head.specs.Bounds.{allowed}
use Rattle.model.specs.Desk.{Kind, kind_of, Desk, find, first, last}
use Rattle.model.specs.Slots.{Slots, unused}
use Rattle.model.specs.Moves.{on_desk, on_slots}
use Rattle.model.specs.Calls.{Verdict, refuse, len_call, capacity_call, weight_call, is_empty_call, is_full_call, showing, peek_call, contains_call, listing, get_call, pop_call, popping, clear_call, retain_call, resize_call, put_call, put_with_weight_call, put_or_modify_call, try_put_or_modify_call, get_mut_call, setting}

-- a cache: its meaning, and where its entries stand
pub record Cache : Type 0 where
  pub desk : Desk
  pub slots : Slots

-- what a call answers, the rows it hands out, and the cache that it leaves
pub record Outcome : Type 0 where
  pub answer : Answer
  pub rows : List Row
  pub left : Cache

-- a cache just opened
abbrev pub fresh : Kind → ℕ → ℕ → Cache
fresh k c n = record { desk = record { kind = k; capacity = c; room = n; entries = [] }; slots = unused }

-- what opening gives: a refusal, or a cache
pub data Opening : Type 0 where
  refused : Refusal → Opening
  opened : Cache → Opening

-- `open`: 1 where the numbers are not allowed or the lent lists not long enough
unfoldable pub opening : ℕ → ℕ → ℕ → Bool → Opening
opening kind c n long = cond (allowed kind c n && long) (opened (fresh (kind_of kind) c n)) (refused NotOpened)

-- the call of each command
unfoldable pub verdict : Command → Desk → Verdict
verdict Len d = len_call d
verdict Capacity d = capacity_call d
verdict Weight d = weight_call d
verdict IsEmpty d = is_empty_call d
verdict IsFull d = is_full_call d
verdict Front d = showing (first d.entries)
verdict Back d = showing (last d.entries)
verdict (Peek c) d = peek_call c.0 d
verdict (Contains c) d = contains_call c.0 d
verdict ListFront d = listing d.entries
verdict ListBack d = listing (reverse d.entries)
verdict (Get c) d = get_call c.0 d
verdict (Pop c) d = pop_call c.0 d
verdict PopFront d = popping (first d.entries)
verdict PopBack d = popping (last d.entries)
verdict (Put c s v) d = put_call c.0 s v d
verdict (PutWithWeight c s v w) d = put_with_weight_call c.0 s v w d
verdict Clear d = clear_call d
verdict (Retain q) d = retain_call q d
verdict (Resize c) d = resize_call c d
verdict (PutOrModify c s n) d = put_or_modify_call c.0 s n d
verdict (TryPutOrModify c s n most) d = try_put_or_modify_call c.0 s n most d
verdict (GetMut c v) d = get_mut_call c.0 v d
verdict (PeekMut c v) d = setting (find c.0 d.entries) v d
verdict (FrontMut v) d = setting (first d.entries) v d
verdict (BackMut v) d = setting (last d.entries) v d

-- 6 where there are more rows than the list lent for them holds
abbrev pub handed : ℕ → Verdict → Verdict
handed lent v = cond (leb (length v.rows) lent) v (refuse TooFewRows)

-- a verdict carried out
abbrev pub carried : Verdict → Cache → Outcome
carried v c = record {
  answer = v.answer;
  rows = v.rows;
  left = record { desk = on_desk v.move c.desk; slots = on_slots v.move c.desk c.slots };
}

-- what a command answers, hands out and leaves, with so many rows lent
unfoldable pub perform : Command → ℕ → Cache → Outcome
perform m lent c = carried (handed lent (verdict m c.desk)) c
