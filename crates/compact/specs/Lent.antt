-- What specs/Compact says, of links and of a state that are lent as one value.
-- Assumes nothing.
use Rattle.std.specs.Prelude.{ℕ, List}
use Rattle.state.specs.declared.Links.{Links}
use Rattle.state.specs.State.{State}
use Rattle.compact.specs.Compact as lists

abbrev pub Walkable : ℕ → ℕ → ℕ → Links → Type 0
Walkable n live front k = lists.Walkable n live front k.next.now k.prev.now k.stack.now

abbrev pub Numbered : ℕ → List ℕ → Links → Links → Type 0
Numbered n order k l = lists.Numbered n order k.prev.now k.stack.now l.prev.now l.stack.now

abbrev pub Plannable : ℕ → ℕ → Links → Type 0
Plannable n live k = lists.Plannable n live k.prev.now k.stack.now

abbrev pub Planned : ℕ → List ℕ → Links → Links → Type 0
Planned n order k l = lists.Planned n order k.prev.now k.stack.now l.prev.now l.stack.now

abbrev pub Writable : ℕ → ℕ → ℕ → Links → Type 0
Writable n live t k = lists.Writable n live t k.next.now k.prev.now k.stack.now

abbrev pub LinksWritten : ℕ → ℕ → ℕ → Links → Links → Type 0
LinksWritten n live t k l = lists.LinksWritten n live t k.next.now k.prev.now k.stack.now l.next.now l.prev.now l.stack.now

-- a state whose entries can come to the slots below a number
abbrev pub Compactable : State → ℕ → Type 0
Compactable s t = lists.Compactable s.head s.nexts s.prevs s.stack s.fields t

abbrev pub Reordered : State → State → ℕ → Type 0
Reordered s u t = lists.Reordered s.head u.head s.nexts s.prevs s.stack u.nexts u.prevs u.stack s.fields u.fields t

-- a state that a capacity still holds
abbrev pub Resizable : State → ℕ → Type 0
Resizable s d = lists.Resizable s.head s.nexts s.prevs s.stack s.fields d

abbrev pub Resized : State → State → ℕ → Type 0
Resized s u d = lists.Resized s.head u.head s.nexts s.prevs s.stack u.nexts u.prevs u.stack s.fields u.fields d
