-- The promises of specs/Promises, said of links that are lent as one value.
-- Assumes nothing.
use Rattle.std.specs.Prelude.{ℕ}
use Rattle.head.specs.declared.Head.{Head}
use Rattle.state.specs.declared.Links.{Links}
use Rattle.list.specs.declared.Taken.{Taken}
use Rattle.list.specs.Links as links
use Rattle.list.specs.Promises as lists

-- before a call
abbrev pub Long : Head → Links → Type 0
Long h k = links.Long h k.next.now k.prev.now k.stack.now

abbrev pub Room : Head → Links → ℕ → Type 0
Room h k s = lists.Room h k.next.now k.prev.now s

abbrev pub Stackable : Head → Links → ℕ → Type 0
Stackable h k s = lists.Stackable h k.next.now k.prev.now k.stack.now s

abbrev pub Held : Head → Links → ℕ → Type 0
Held h k s = lists.Held h k.next.now k.prev.now k.stack.now s

abbrev pub Spare : Head → Links → Type 0
Spare h k = lists.Spare h k.next.now k.prev.now k.stack.now

abbrev pub Enough : Head → Links → ℕ → Type 0
Enough h k n = lists.Enough h k.next.now k.prev.now k.stack.now n

-- over a call, from h and k to r and l
abbrev pub Unlinked : Head → Links → Head → Links → ℕ → Type 0
Unlinked h k r l s = lists.Unlinked h r k.next.now k.prev.now l.next.now l.prev.now s

abbrev pub Fronted : Head → Links → Head → Links → ℕ → Type 0
Fronted h k r l s = lists.Fronted h r k.next.now k.prev.now l.next.now l.prev.now s

abbrev pub Moved : Head → Links → Head → Links → ℕ → Type 0
Moved h k r l s = lists.Moved h r k.next.now k.prev.now l.next.now l.prev.now s

abbrev pub Released : Head → Links → Head → Links → ℕ → Type 0
Released h k r l s = lists.Released h r k.next.now k.prev.now k.stack.now l.next.now l.prev.now l.stack.now s

abbrev pub Removed : Head → Links → Head → Links → ℕ → Type 0
Removed h k r l s = lists.Removed h r k.next.now k.prev.now k.stack.now l.next.now l.prev.now l.stack.now s

abbrev pub Pushed : Head → Links → Taken → Links → Type 0
Pushed h k t l = lists.Pushed h t k.next.now k.prev.now k.stack.now l.next.now l.prev.now l.stack.now

abbrev pub Evicted : Head → Links → Head → Links → ℕ → Type 0
Evicted h k r l n = lists.Evicted h r k.next.now k.prev.now k.stack.now l.next.now l.prev.now l.stack.now n

abbrev pub Cleared : Head → Links → Head → Links → Type 0
Cleared h k r l = lists.Cleared h r k.next.now k.prev.now k.stack.now l.next.now l.prev.now l.stack.now
