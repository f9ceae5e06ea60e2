-- The causes of document 01's table "When the desk says no", in its words: what opening is refused for, and any other call on a sound state.
-- Assumes nothing.
use Rattle.std.specs.Prelude.{ℕ, ◌+◌, Bool, true, false, cond, not, ◌&&◌, ◌||◌, List, [], ◌∷◌, ◌≡◌, eqb, leb, ltb, length}
use Rattle.std.proofs.Math.Option.{Option, none, some}
use Rattle.head.specs.declared.Row.{Row}
use Rattle.head.specs.declared.Rule.{Rule}
use Rattle.head.specs.declared.Refusal.{Refusal}
use Rattle.head.specs.declared.Refusal.TheVariants.{NotOpened, Unsound, WrongKind, TooHeavy, NoSlot, TooFewRows, OverCeiling, NotUnderstood}
use Rattle.head.specs.declared.Answer.{Answer}
use Rattle.head.specs.declared.Answer.TheVariants.{No, New, Was, Is, Now, Absent, Entry, Done, Count, Flag}
use Rattle.head.specs.declared.Command.{Command}
use Rattle.head.specs.declared.Command.TheVariants.{Len, Capacity, Weight, IsEmpty, IsFull, Front, Back, Peek, Contains, List as ListFront, ListBack, Get, Pop, PopFront, PopBack, Put, PutWithWeight, Clear, Retain, Resize, PutOrModify, TryPutOrModify, GetMut, PeekMut, FrontMut, BackMut}
use Rattle.head.specs.Bounds.{plain_kind, weighed_kind, most_capacity, most_slots}
use Rattle.head.specs.Refusals.{number_of}
use Rattle.head.specs.Rules.{code_rule, value_rule, stamp_rule, weight_rule}
use Rattle.model.specs.Lists.{without}
use Rattle.model.specs.Desk.{Kind, plain, weighed, Desk, find, on_found, live, weighs, keeps}
use Rattle.model.specs.Codes.{one}
use Rattle.model.specs.Claims.{dropped}

-- what the causes tell calls apart by
pub data Wish : Type 0 where
  -- `resize` to a capacity
  resizing : ℕ → Wish
  -- `retain` by a rule
  retaining : Rule → Wish
  -- `put` and `put_or_modify` of a code
  putting : ℕ → Wish
  -- `try_put_or_modify` of a code and an amount, under a ceiling
  trying : ℕ → ℕ → ℕ → Wish
  -- `put_with_weight` of a code and a weight
  weighing : ℕ → ℕ → Wish
  -- any value setting
  assigning : Wish
  -- listing in either direction
  telling : Wish
  -- every other call
  another : Wish

-- what a command asks
abbrev pub wish_of : Command → Wish
wish_of (Resize c) = resizing c
wish_of (Retain q) = retaining q
wish_of (Put c s v) = putting c.0
wish_of (PutOrModify c s n) = putting c.0
wish_of (TryPutOrModify c s n most) = trying c.0 n most
wish_of (PutWithWeight c s v w) = weighing c.0 w
wish_of (GetMut c v) = assigning
wish_of (PeekMut c v) = assigning
wish_of (FrontMut v) = assigning
wish_of (BackMut v) = assigning
wish_of ListFront = telling
wish_of ListBack = telling
wish_of Len = another
wish_of Capacity = another
wish_of Weight = another
wish_of IsEmpty = another
wish_of IsFull = another
wish_of Front = another
wish_of Back = another
wish_of (Peek c) = another
wish_of (Contains c) = another
wish_of (Get c) = another
wish_of (Pop c) = another
wish_of PopFront = another
wish_of PopBack = another
wish_of Clear = another

-- ---- the causes

-- a capacity of 0 or above 2^63 - 1
abbrev pub no_capacity : ℕ → Bool
no_capacity c = eqb c 0 || ltb most_capacity c

-- a rule that does not exist: its number is none of the four
abbrev pub no_rule : ℕ → Bool
no_rule n = not (eqb n code_rule || eqb n value_rule || eqb n stamp_rule || eqb n weight_rule)

-- 8: `resize` to 0 or above 2^63 - 1; a rule that does not exist
abbrev pub not_understood : Wish → Bool
not_understood (resizing c) = no_capacity c
not_understood (retaining q) = no_rule q.number
not_understood (putting c) = false
not_understood (trying c n most) = false
not_understood (weighing c w) = false
not_understood assigning = false
not_understood telling = false
not_understood another = false

-- whether a cache is weighed
abbrev pub is_weighed : Kind → Bool
is_weighed plain = false
is_weighed weighed = true

-- 3: weighed cache: `put`, `put_or_modify`, `try_put_or_modify`, any value setting; plain cache: non-zero weight
abbrev pub wrong_kind : Wish → Desk → Bool
wrong_kind (putting c) d = is_weighed d.kind
wrong_kind (trying c n most) d = is_weighed d.kind
wrong_kind assigning d = is_weighed d.kind
wrong_kind (weighing c w) d = not (is_weighed d.kind) && not (eqb w 0)
wrong_kind (resizing c) d = false
wrong_kind (retaining q) d = false
wrong_kind telling d = false
wrong_kind another d = false

-- 4: new weight >= C
abbrev pub too_heavy : Wish → Desk → Bool
too_heavy (weighing c w) d = leb d.capacity w
too_heavy (resizing c) d = false
too_heavy (retaining q) d = false
too_heavy (putting c) d = false
too_heavy (trying c n most) d = false
too_heavy assigning d = false
too_heavy telling d = false
too_heavy another d = false

-- 7: `try_put_or_modify` over its ceiling: absent, with the amount; present, with the exact sum
abbrev pub over_ceiling : Wish → Desk → Bool
over_ceiling (trying c n most) d = on_found (find c d.entries) (ltb most n) (λ i e. ltb most (e.value + n))
over_ceiling (resizing c) d = false
over_ceiling (retaining q) d = false
over_ceiling (putting c) d = false
over_ceiling (weighing c w) d = false
over_ceiling assigning d = false
over_ceiling telling d = false
over_ceiling another d = false

-- when entries call for eviction: `put` and its kin, live = C; `put_with_weight`, live + weight + new weight >= C; `resize` to D, D < live + weight
abbrev pub evicts : Wish → Desk → List Row → Bool
evicts (putting c) d es = eqb (length es) d.capacity
evicts (trying c n most) d es = eqb (length es) d.capacity
evicts (weighing c w) d es = leb d.capacity (length es + weighs es + w)
evicts (resizing c) d es = ltb c (length es + weighs es)
evicts (retaining q) d es = false
evicts assigning d es = false
evicts telling d es = false
evicts another d es = false

-- whether a code is absent
abbrev pub is_absent : ℕ → Desk → Bool
is_absent c d = on_found (find c d.entries) true (λ i e. false)

-- code absent, live = N, no eviction called for
abbrev pub no_place : ℕ → Wish → Desk → Bool
no_place c w d = is_absent c d && eqb (live d) d.room && not (evicts w d d.entries)

-- 5: a putting call that has no place for its code
abbrev pub no_slot : Wish → Desk → Bool
no_slot (putting c) d = no_place c (putting c) d
no_slot (trying c n most) d = no_place c (trying c n most) d
no_slot (weighing c w) d = no_place c (weighing c w) d
no_slot (resizing c) d = false
no_slot (retaining q) d = false
no_slot assigning d = false
no_slot telling d = false
no_slot another d = false

-- how many leave: the back is dropped while eviction is called for
abbrev pub gone : Wish → Desk → List Row → ℕ
gone w d es = length (dropped (evicts w d) (length es) es)

-- how many entries a rule does not keep
abbrev pub unkept : Rule → List Row → ℕ
unkept q [] = 0
unkept q (e ∷ es) = one (not (keeps q e)) + unkept q es

-- how many rows there are to hand out: those pushed out, where `put_with_weight` removes a present code first; those swept; those listed
abbrev pub to_hand_out : Wish → Desk → ℕ
to_hand_out (putting c) d = on_found (find c d.entries) (gone (putting c) d d.entries) (λ i e. 0)
to_hand_out (trying c n most) d = on_found (find c d.entries) (gone (trying c n most) d d.entries) (λ i e. 0)
to_hand_out (weighing c w) d =
    on_found (find c d.entries) (gone (weighing c w) d d.entries) (λ i e. gone (weighing c w) d (without i d.entries))
to_hand_out (resizing c) d = gone (resizing c) d d.entries
to_hand_out (retaining q) d = unkept q d.entries
to_hand_out telling d = live d
to_hand_out assigning d = 0
to_hand_out another d = 0

-- 6: more rows to hand out than the row list holds
abbrev pub too_few_rows : Wish → ℕ → Desk → Bool
too_few_rows w lent d = ltb lent (to_hand_out w d)

-- ---- the table

-- the cause of each number; 1 is opening's, and 2 has none where the state is sound
abbrev pub cause : Command → ℕ → Desk → Refusal → Bool
cause m lent d NotOpened = false
cause m lent d Unsound = false
cause m lent d NotUnderstood = not_understood (wish_of m)
cause m lent d WrongKind = wrong_kind (wish_of m) d
cause m lent d TooHeavy = too_heavy (wish_of m) d
cause m lent d OverCeiling = over_ceiling (wish_of m) d
cause m lent d NoSlot = no_slot (wish_of m) d
cause m lent d TooFewRows = too_few_rows (wish_of m) lent d

-- the order in which they are checked
abbrev pub in_order : List Refusal
in_order = NotUnderstood ∷ WrongKind ∷ TooHeavy ∷ OverCeiling ∷ NoSlot ∷ TooFewRows ∷ []

-- the first of a list whose cause holds
abbrev pub first_of : (Refusal → Bool) → List Refusal → Option Refusal
first_of holds [] = none
first_of holds (r ∷ rs) = cond (holds r) (some r) (first_of holds rs)

-- those of a list that stand before r
abbrev pub before : Refusal → List Refusal → List Refusal
before r [] = []
before r (q ∷ qs) = cond (eqb (number_of q) (number_of r)) [] (q ∷ before r qs)

-- none of these causes holds
abbrev pub NoneHolds : (Refusal → Bool) → List Refusal → Type 0
NoneHolds holds [] = Unit {0}
NoneHolds holds (r ∷ rs) = (holds r ≡ false) × NoneHolds holds rs

-- a refusal is given: its cause holds, and none that is checked before it
pub record Given (holds : Refusal → Bool) (r : Refusal) : Type 0 where
  pub itself : holds r ≡ true
  pub earlier : NoneHolds holds (before r in_order)

-- the refusal that an answer is
abbrev pub refusal_in : Answer → Option Refusal
refusal_in (No r) = some r
refusal_in (New k) = none
refusal_in (Was v k) = none
refusal_in (Is v) = none
refusal_in (Now v b k) = none
refusal_in Absent = none
refusal_in (Entry e) = none
refusal_in (Done k) = none
refusal_in (Count k) = none
refusal_in (Flag b) = none

-- ---- opening

-- 1: bad kind, C or N out of bounds, a lent list too short
abbrev pub not_opened : ℕ → ℕ → ℕ → Bool → Bool
not_opened kind c n long =
    not (eqb kind plain_kind || eqb kind weighed_kind) || no_capacity c || (eqb n 0 || ltb most_slots n) || not long
