-- Runs of calls, and what the claims about them say: the tally, and another keeper beside the cache.
-- Assumes nothing.
use Rattle.std.specs.Prelude.{ℕ, ◌+◌, ◌≤◌, Bool, true, false, cond, not, List, [], ◌∷◌, ◌++◌, ◌≡◌, length}
use Rattle.head.specs.declared.Answer.{Answer}
use Rattle.head.specs.declared.Answer.TheVariants.{No, New, Was, Is, Now, Absent, Entry, Done, Count, Flag}
use Rattle.head.specs.declared.Command.{Command}
use Rattle.head.specs.declared.Command.TheVariants.{Len, Capacity, Weight, IsEmpty, IsFull, Front, Back, Peek, Contains, List as ListFront, ListBack, Get, Pop, PopFront, PopBack, Put, PutWithWeight, Clear, Retain, Resize, PutOrModify, TryPutOrModify, GetMut, PeekMut, FrontMut, BackMut}
use Rattle.model.specs.Codes.{codes_of, one, has, Distinct}
use Rattle.model.specs.Perform.{Cache, Outcome, perform}

-- a call in a run: the command, and how many rows were lent
pub record Call : Type 0 where
  pub command : Command
  pub lent : ℕ

-- a call carried out
abbrev pub step : Call → Cache → Outcome
step a c = perform a.command a.lent c

-- the cache after a run, each call on the cache that the call before left
abbrev pub after : Cache → List Call → Cache
after c [] = c
after c (a ∷ as') = after (step a c).left as'

-- what the claims tell calls apart by
pub data Sort : Type 0 where
  -- `put` of a code, and the other putting calls
  plain_put : ℕ → Sort
  other_put : ℕ → Sort
  -- `get` of a code
  getting : ℕ → Sort
  -- `peek` and `contains`
  looking : Sort
  -- `pop` of a code, and the pops at either end
  pop_code : ℕ → Sort
  pop_end : Sort
  -- `resize` and `retain`
  trimming : Sort
  clearing : Sort
  -- every other call
  another : Sort

-- the sort of a command
abbrev pub sort_of : Command → Sort
sort_of (Put c s v) = plain_put c.0
sort_of (PutWithWeight c s v w) = other_put c.0
sort_of (PutOrModify c s n) = other_put c.0
sort_of (TryPutOrModify c s n most) = other_put c.0
sort_of (Get c) = getting c.0
sort_of (Peek c) = looking
sort_of (Contains c) = looking
sort_of (Pop c) = pop_code c.0
sort_of PopFront = pop_end
sort_of PopBack = pop_end
sort_of (Resize c) = trimming
sort_of (Retain q) = trimming
sort_of Clear = clearing
sort_of Len = another
sort_of Capacity = another
sort_of Weight = another
sort_of IsEmpty = another
sort_of IsFull = another
sort_of Front = another
sort_of Back = another
sort_of ListFront = another
sort_of ListBack = another
sort_of (GetMut c v) = another
sort_of (PeekMut c v) = another
sort_of (FrontMut v) = another
sort_of (BackMut v) = another

-- what the claims tell answers apart by: "new", a value found or given back, an entry shown, anything else
pub data Word : Type 0 where
  new : Word
  value : Word
  shown : ℕ → Word
  other : Word

-- the word of an answer
abbrev pub word_of : Answer → Word
word_of (No r) = other
word_of (New k) = new
word_of (Was v k) = value
word_of (Is v) = value
word_of (Now v b k) = cond b new other
word_of Absent = other
word_of (Entry e) = shown e.code.0
word_of (Done k) = other
word_of (Count n) = other
word_of (Flag b) = other

-- whether it is "new"
abbrev pub is_new : Word → Bool
is_new new = true
is_new value = false
is_new (shown c) = false
is_new other = false

-- whether it is a value
abbrev pub is_value : Word → Bool
is_value new = false
is_value value = true
is_value (shown c) = false
is_value other = false

-- the code of an entry shown
abbrev pub shown_code : Word → List ℕ
shown_code new = []
shown_code value = []
shown_code (shown c) = c ∷ []
shown_code other = []

-- ---- the tally

-- the code that a putting call is asked to take in
abbrev pub offered : Sort → List ℕ
offered (plain_put c) = c ∷ []
offered (other_put c) = c ∷ []
offered (getting c) = []
offered looking = []
offered (pop_code c) = []
offered pop_end = []
offered trimming = []
offered clearing = []
offered another = []

-- the codes that a call on a cache lets go: pushed out or swept, popped, cleared
abbrev pub departing : Sort → Cache → Outcome → List ℕ
departing (plain_put c) before o = codes_of o.rows
departing (other_put c) before o = codes_of o.rows
departing (getting c) before o = []
departing looking before o = []
departing (pop_code c) before o = cond (is_value (word_of o.answer)) (c ∷ []) []
departing pop_end before o = shown_code (word_of o.answer)
departing trimming before o = codes_of o.rows
departing clearing before o = codes_of before.desk.entries
departing another before o = []

-- the codes accepted as "new" in a run, with repeats
abbrev pub accepted : Cache → List Call → List ℕ
accepted c [] = []
accepted c (a ∷ as') =
    cond (is_new (word_of (step a c).answer)) (offered (sort_of a.command)) [] ++ accepted (step a c).left as'

-- the codes pushed out, popped, swept and cleared in a run, with repeats
abbrev pub departed : Cache → List Call → List ℕ
departed c [] = []
departed c (a ∷ as') = departing (sort_of a.command) c (step a c) ++ departed (step a c).left as'

-- ---- another keeper

-- what demand 3 reads: a `put` with at least one row lent, `get`, `peek`, `contains`
abbrev pub Request : Sort → ℕ → Type 0
Request (plain_put c) lent = 1 ≤ lent
Request (other_put c) lent = ⊥
Request (getting c) lent = Unit {0}
Request looking lent = Unit {0}
Request (pop_code c) lent = ⊥
Request pop_end lent = ⊥
Request trimming lent = ⊥
Request clearing lent = ⊥
Request another lent = ⊥

-- every call of a run is such a request
abbrev pub Requests : List Call → Type 0
Requests [] = Unit {0}
Requests (a ∷ as') = Request (sort_of a.command) a.lent × Requests as'

-- how many calls of a run were answered "new"
abbrev pub new_answers : Cache → List Call → ℕ
new_answers c [] = 0
new_answers c (a ∷ as') = one (is_new (word_of (step a c).answer)) + new_answers (step a c).left as'

-- the holding has the asked code after a `put`, and after a `get` that finds it
abbrev pub Serves : Sort → Word → List ℕ → Type 0
Serves (plain_put c) w o = has c o ≡ true
Serves (other_put c) w o = has c o ≡ true
Serves (getting c) w o = is_value w ≡ true → has c o ≡ true
Serves looking w o = Unit {0}
Serves (pop_code c) w o = Unit {0}
Serves pop_end w o = Unit {0}
Serves trimming w o = Unit {0}
Serves clearing w o = Unit {0}
Serves another w o = Unit {0}

-- a keeper with H places beside the cache: after each call a holding of distinct codes, at most H, that serves the call
abbrev pub Keeps : ℕ → Cache → List Call → List (List ℕ) → Type 0
Keeps H c [] [] = Unit {0}
Keeps H c [] (o ∷ os) = ⊥
Keeps H c (a ∷ as') [] = ⊥
Keeps H c (a ∷ as') (o ∷ os) =
    Distinct o × (length o ≤ H) × Serves (sort_of a.command) (word_of (step a c).answer) o × Keeps H (step a c).left as' os

-- how many codes of a holding were not in the one before
abbrev pub arrivals : List ℕ → List ℕ → ℕ
arrivals before [] = 0
arrivals before (x ∷ o) = one (not (has x before)) + arrivals before o

-- the codes that the keeper brought in from a holding on, repeats counted
abbrev pub brought : List ℕ → List (List ℕ) → ℕ
brought before [] = 0
brought before (o ∷ os) = arrivals before o + brought o os
