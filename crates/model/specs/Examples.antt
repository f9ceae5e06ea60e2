-- The shed's examples that document 01 marks with *, computed over the definitions: one table, a line for each.
-- Assumes nothing.
use Rattle.std.specs.Prelude.{ℕ, ◌*◌, ◌≡◌, refl, true, List, [], ◌∷◌, ◌++◌}
use Rattle.head.specs.declared.Row.{Row}
use Rattle.head.specs.declared.Answer.{Answer}
use Rattle.head.specs.declared.Answer.TheVariants.{No, New, Was, Is, Entry, Done, Count, Flag}
use Rattle.head.specs.declared.Refusal.TheVariants.{TooHeavy, NoSlot, OverCeiling}
use Rattle.head.specs.declared.Command.{Command}
use Rattle.head.specs.declared.Command.TheVariants.{Len, Weight, IsFull, Front, Peek, Get, Pop, Put, PutWithWeight, Resize, TryPutOrModify}
use Rattle.model.specs.Desk.{Kind, plain, weighed, entry}
use Rattle.model.specs.Perform.{Cache, Outcome, fresh, verdict, perform}

-- what a run shows: its answers, the rows it handed out, and the order, slots, stack, `top` and capacity that it leaves
pub record Shown : Type 0 where
  pub answers : List Answer
  pub rows : List Row
  pub order : List Row
  pub slots : List ℕ
  pub stack : List ℕ
  pub top : ℕ
  pub capacity : ℕ

-- what is left, before any call
abbrev resting : Cache → Shown
resting c = record { answers = []; rows = []; order = c.desk.entries; slots = c.slots.order; stack = c.slots.free; top = c.slots.top; capacity = c.desk.capacity }

-- a call's answer and rows in front of what the rest of the run shows
abbrev then : Outcome → Shown → Shown
then o s = record {
  answers = o.answer ∷ s.answers;
  rows = o.rows ++ s.rows;
  order = s.order;
  slots = s.slots;
  stack = s.stack;
  top = s.top;
  capacity = s.capacity;
}

-- a run on a cache, each call with 8 rows lent
abbrev play : Cache → List Command → Shown
play c [] = resting c
play c (m ∷ ms) = then (perform m 8 c) (play (perform m 8 c).left ms)

-- a run from opening
abbrev day : Kind → ℕ → ℕ → List Command → Shown
day k c n ms = play (fresh k c n) ms

-- put of a code: its value is ten times the code, its stamp 0
abbrev put : ℕ → Command
put c = Put (record { 0 = c }) 0 (10 * c)

-- put with a stamp and a value
abbrev put_stamped : ℕ → ℕ → ℕ → Command
put_stamped c s v = Put (record { 0 = c }) s v

-- put with a weight
abbrev putw : ℕ → ℕ → ℕ → ℕ → Command
putw c s v w = PutWithWeight (record { 0 = c }) s v w

-- `get` of a code
abbrev get : ℕ → Command
get c = Get (record { 0 = c })

-- `peek` of a code
abbrev peek : ℕ → Command
peek c = Peek (record { 0 = c })

-- `pop` of a code
abbrev pop : ℕ → Command
pop c = Pop (record { 0 = c })

-- the entry that `put` of a code makes
abbrev row : ℕ → Row
row c = entry c 0 (10 * c) 0

-- the third put pushes out 1
A : day plain 2 2 (put 1 ∷ put 2 ∷ put 3 ∷ []) ≡ record {
  answers = New 0 ∷ New 0 ∷ New 1 ∷ [];
  rows = row 1 ∷ [];
  order = row 3 ∷ row 2 ∷ [];
  slots = 0 ∷ 1 ∷ [];
  stack = [];
  top = 2;
  capacity = 2;
}
unfolding perform verdict
A = refl

-- with `get` 1 before it, it pushes out 2
B : day plain 2 2 (put 1 ∷ put 2 ∷ get 1 ∷ put 3 ∷ []) ≡ record {
  answers = New 0 ∷ New 0 ∷ Is 10 ∷ New 1 ∷ [];
  rows = row 2 ∷ [];
  order = row 3 ∷ row 1 ∷ [];
  slots = 1 ∷ 0 ∷ [];
  stack = [];
  top = 2;
  capacity = 2;
}
unfolding perform verdict
B = refl

-- with `peek` 1 before it, it pushes out 1
C : day plain 2 2 (put 1 ∷ put 2 ∷ peek 1 ∷ put 3 ∷ []) ≡ record {
  answers = New 0 ∷ New 0 ∷ Is 10 ∷ New 1 ∷ [];
  rows = row 1 ∷ [];
  order = row 3 ∷ row 2 ∷ [];
  slots = 0 ∷ 1 ∷ [];
  stack = [];
  top = 2;
  capacity = 2;
}
unfolding perform verdict
C = refl

-- `put` keeps the stamp, `put_with_weight` takes the new one
D : day plain 2 2 (put_stamped 1 7 10 ∷ put_stamped 1 8 11 ∷ Front ∷ putw 1 8 12 0 ∷ Front ∷ []) ≡ record {
  answers = New 0 ∷ Was 10 0 ∷ Entry (entry 1 7 11 0) ∷ Was 11 0 ∷ Entry (entry 1 8 12 0) ∷ [];
  rows = [];
  order = entry 1 8 12 0 ∷ [];
  slots = 0 ∷ [];
  stack = [];
  top = 1;
  capacity = 2;
}
unfolding perform verdict
D = refl

-- codes 1 and 2 of E, F and H
abbrev loads : List Command → List Command
loads ms = putw 1 7 100 3 ∷ putw 2 7 200 4 ∷ ms

-- the third pushes out 1; live 2, weight 5
E : day weighed 10 4 (loads (putw 3 7 300 1 ∷ Len ∷ Weight ∷ [])) ≡ record {
  answers = New 0 ∷ New 0 ∷ New 1 ∷ Count 2 ∷ Count 5 ∷ [];
  rows = entry 1 7 100 3 ∷ [];
  order = entry 3 7 300 1 ∷ entry 2 7 200 4 ∷ [];
  slots = 0 ∷ 1 ∷ [];
  stack = [];
  top = 2;
  capacity = 10;
}
unfolding perform verdict
E = refl

-- 1 again with weight 5 pushes out 2 and answers the old value
F : day weighed 10 4 (loads (putw 1 8 101 5 ∷ [])) ≡ record {
  answers = New 0 ∷ New 0 ∷ Was 100 1 ∷ [];
  rows = entry 2 7 200 4 ∷ [];
  order = entry 1 8 101 5 ∷ [];
  slots = 1 ∷ [];
  stack = 0 ∷ [];
  top = 2;
  capacity = 10;
}
unfolding perform verdict
F = refl

-- weight 10 is refused, weight 9 leaves only itself, and the cache is full
G : day weighed 10 4 (putw 1 0 10 10 ∷ putw 2 0 20 0 ∷ putw 3 0 30 9 ∷ IsFull ∷ []) ≡ record {
  answers = No TooHeavy ∷ New 0 ∷ New 1 ∷ Flag true ∷ [];
  rows = row 2 ∷ [];
  order = entry 3 0 30 9 ∷ [];
  slots = 0 ∷ [];
  stack = [];
  top = 1;
  capacity = 10;
}
unfolding perform verdict
G = refl

-- with C = 1 weight 1 is refused, weight 0 is not
G-one : day weighed 1 4 (putw 1 0 10 1 ∷ putw 1 0 10 0 ∷ []) ≡ record {
  answers = No TooHeavy ∷ New 0 ∷ [];
  rows = [];
  order = row 1 ∷ [];
  slots = 0 ∷ [];
  stack = [];
  top = 1;
  capacity = 1;
}
unfolding perform verdict
G-one = refl

-- resize to 9 pushes out none, to 8 pushes out 1
H : day weighed 10 4 (loads (Resize 9 ∷ Resize 8 ∷ [])) ≡ record {
  answers = New 0 ∷ New 0 ∷ Done 0 ∷ Done 1 ∷ [];
  rows = entry 1 7 100 3 ∷ [];
  order = entry 2 7 200 4 ∷ [];
  slots = 0 ∷ [];
  stack = 1 ∷ [];
  top = 2;
  capacity = 8;
}
unfolding perform verdict
H = refl

-- a growing resize over a hole: slots 1 and 2 stay, the stack holds 0
I : day plain 3 8 (put 10 ∷ put 20 ∷ put 30 ∷ pop 10 ∷ Resize 5 ∷ []) ≡ record {
  answers = New 0 ∷ New 0 ∷ New 0 ∷ Was 100 0 ∷ Done 0 ∷ [];
  rows = [];
  order = row 30 ∷ row 20 ∷ [];
  slots = 2 ∷ 1 ∷ [];
  stack = 0 ∷ [];
  top = 3;
  capacity = 5;
}
unfolding perform verdict
I = refl

-- a shrink: 30 in slot 0, 10 in slot 1, the stack holds 2
J : day plain 4 4 (put 10 ∷ put 20 ∷ put 30 ∷ pop 20 ∷ Resize 3 ∷ []) ≡ record {
  answers = New 0 ∷ New 0 ∷ New 0 ∷ Was 200 0 ∷ Done 0 ∷ [];
  rows = [];
  order = row 30 ∷ row 10 ∷ [];
  slots = 0 ∷ 1 ∷ [];
  stack = 2 ∷ [];
  top = 3;
  capacity = 3;
}
unfolding perform verdict
J = refl

-- over the ceiling: refused, the entry in front, its value kept
K : day plain 2 2 (put_stamped 1 0 40 ∷ put 2 ∷ TryPutOrModify (record { 0 = 1 }) 0 20 50 ∷ []) ≡ record {
  answers = New 0 ∷ New 0 ∷ No OverCeiling ∷ [];
  rows = [];
  order = entry 1 0 40 0 ∷ row 2 ∷ [];
  slots = 0 ∷ 1 ∷ [];
  stack = [];
  top = 2;
  capacity = 2;
}
unfolding perform verdict
K = refl

-- every slot taken: 3 is refused, 2 answers its old value
L : day plain 5 2 (put 1 ∷ put 2 ∷ put 3 ∷ put 2 ∷ []) ≡ record {
  answers = New 0 ∷ New 0 ∷ No NoSlot ∷ Was 20 0 ∷ [];
  rows = [];
  order = row 2 ∷ row 1 ∷ [];
  slots = 1 ∷ 0 ∷ [];
  stack = [];
  top = 2;
  capacity = 5;
}
unfolding perform verdict
L = refl
