-- Wrong answers that the contracts of the calls that only read rule out. The samples stand in specs/Samples.antt.
-- Assumes nothing.
use Prim.Native.Nat.{ℕ}
use mathlib.Core.Path.{◌≡◌, refl}
use mathlib.Core.Bool.{true, false}
use mathlib.Core.List.{[], ◌∷◌}
use Rattle.head.specs.declared.Answer.{Answer}
use Rattle.head.specs.declared.Answer.TheVariants.{Is, Absent, Entry, Done, Count, Flag}
use Rattle.head.specs.declared.Command.TheVariants.{Len, Capacity, Weight, IsEmpty, IsFull, Front, Back, Peek, Contains, List as ListFront, ListBack}
use Rattle.head.specs.Fields.{Fields}
use Rattle.model.specs.Perform.{verdict, perform}
use Rattle.plan.specs.States.{State, Means}
use Rattle.door.specs.Served.{Tells, Reads}
use Rattle.outcomes.specs.Samples.{code, row20, row10, roomy, laden, packed, bare, lists}
use Rattle.outcomes.proofs.Ruled.{read_says, tell_hands, tell_says}

-- ---- `len`

-- the capacity counted instead of the entries
pub len_capacity : {s : State} {a : Answer} → Reads Len s a → Means s roomy → a ≡ Count 3 → ⊥
unfolding perform verdict
len_capacity x d = read_says x d refl

-- the slots counted instead of the entries
pub len_slots : {s : State} {a : Answer} → Reads Len s a → Means s roomy → a ≡ Count 4 → ⊥
unfolding perform verdict
len_slots x d = read_says x d refl

-- ---- `capacity`

-- the entries counted instead of the capacity
pub capacity_live : {s : State} {a : Answer} → Reads Capacity s a → Means s roomy → a ≡ Count 2 → ⊥
unfolding perform verdict
capacity_live x d = read_says x d refl

-- the slots counted instead of the capacity
pub capacity_slots : {s : State} {a : Answer} → Reads Capacity s a → Means s roomy → a ≡ Count 4 → ⊥
unfolding perform verdict
capacity_slots x d = read_says x d refl

-- ---- `weight`

-- the entries counted, not their weights
pub weight_live : {s : State} {a : Answer} → Reads Weight s a → Means s laden → a ≡ Count 2 → ⊥
unfolding perform verdict
weight_live x d = read_says x d refl

-- live + weight instead of the weight
pub weight_spent : {s : State} {a : Answer} → Reads Weight s a → Means s laden → a ≡ Count 9 → ⊥
unfolding perform verdict
weight_spent x d = read_says x d refl

-- ---- `is_empty`

-- yes on a cache with entries
pub is_empty_yes : {s : State} {a : Answer} → Reads IsEmpty s a → Means s roomy → a ≡ Flag true → ⊥
unfolding perform verdict
is_empty_yes x d = read_says x d refl

-- no on a cache just opened
pub is_empty_no : {s : State} {a : Answer} → Reads IsEmpty s a → Means s bare → a ≡ Flag false → ⊥
unfolding perform verdict
is_empty_no x d = read_says x d refl

-- ---- `is_full`

-- yes while there is room for one more
pub is_full_early : {s : State} {a : Answer} → Reads IsFull s a → Means s roomy → a ≡ Flag true → ⊥
unfolding perform verdict
is_full_early x d = read_says x d refl

-- no where live + weight is the capacity, as by the entries alone
pub is_full_live : {s : State} {a : Answer} → Reads IsFull s a → Means s packed → a ≡ Flag false → ⊥
unfolding perform verdict
is_full_live x d = read_says x d refl

-- ---- `front`

-- the entry at the back
pub front_back : {s : State} {a : Answer} → Reads Front s a → Means s roomy → a ≡ Entry row10 → ⊥
unfolding perform verdict
front_back x d = read_says x d refl

-- absent on a cache with entries
pub front_absent : {s : State} {a : Answer} → Reads Front s a → Means s roomy → a ≡ Absent → ⊥
unfolding perform verdict
front_absent x d = read_says x d refl

-- ---- `back`

-- the entry in front
pub back_front : {s : State} {a : Answer} → Reads Back s a → Means s roomy → a ≡ Entry row20 → ⊥
unfolding perform verdict
back_front x d = read_says x d refl

-- absent on a cache with entries
pub back_absent : {s : State} {a : Answer} → Reads Back s a → Means s roomy → a ≡ Absent → ⊥
unfolding perform verdict
back_absent x d = read_says x d refl

-- ---- `peek`

-- absent for a code that is there
pub peek_absent : {s : State} {a : Answer} → Reads (Peek (code 10)) s a → Means s roomy → a ≡ Absent → ⊥
unfolding perform verdict
peek_absent x d = read_says x d refl

-- a value for a code that is not there
pub peek_found : {s : State} {a : Answer} {n : ℕ} → Reads (Peek (code 30)) s a → Means s roomy → a ≡ Is n → ⊥
unfolding perform verdict
peek_found x d = read_says x d refl

-- ---- `contains`

-- no for a code that is there
pub contains_no : {s : State} {a : Answer} → Reads (Contains (code 10)) s a → Means s roomy → a ≡ Flag false → ⊥
unfolding perform verdict
contains_no x d = read_says x d refl

-- yes for a code that is not there
pub contains_yes : {s : State} {a : Answer} → Reads (Contains (code 30)) s a → Means s roomy → a ≡ Flag true → ⊥
unfolding perform verdict
contains_yes x d = read_says x d refl

-- ---- `list`

-- back to front
pub list_backwards : {s : State} {out : Fields} {a : Answer} → Tells ListFront s lists out a → Means s roomy → out.codes ≡ 10 ∷ 20 ∷ 0 ∷ 0 ∷ [] → ⊥
unfolding perform verdict
list_backwards x d = tell_hands x d refl

-- no row written
pub list_none : {s : State} {out : Fields} {a : Answer} → Tells ListFront s lists out a → Means s roomy → out.codes ≡ 0 ∷ 0 ∷ 0 ∷ 0 ∷ [] → ⊥
unfolding perform verdict
list_none x d = tell_hands x d refl

-- two rows written and none counted
pub list_silent : {s : State} {out : Fields} {a : Answer} → Tells ListFront s lists out a → Means s roomy → a ≡ Done 0 → ⊥
unfolding perform verdict
list_silent x d = tell_says x d refl

-- ---- `list_back`

-- front to back
pub list_back_forwards : {s : State} {out : Fields} {a : Answer} → Tells ListBack s lists out a → Means s roomy → out.codes ≡ 20 ∷ 10 ∷ 0 ∷ 0 ∷ [] → ⊥
unfolding perform verdict
list_back_forwards x d = tell_hands x d refl

-- the last row left out of the count
pub list_back_short : {s : State} {out : Fields} {a : Answer} → Tells ListBack s lists out a → Means s roomy → a ≡ Done 1 → ⊥
unfolding perform verdict
list_back_short x d = tell_says x d refl
