-- Wrong answers that the contracts of the calls that hand out no rows rule out. The samples stand in specs/Samples.antt.
-- Assumes nothing.
use mathlib.Core.Path.{◌≡◌, refl}
use mathlib.Core.List.{[], ◌∷◌}
use Rattle.head.specs.declared.Answer.{Answer}
use Rattle.head.specs.declared.Answer.TheVariants.{Was, Absent, Entry, Count}
use Rattle.head.specs.declared.Command.TheVariants.{Get, Pop, PopFront, PopBack, Clear, GetMut, PeekMut, FrontMut, BackMut}
use Rattle.model.specs.Desk.{entry}
use Rattle.model.specs.Perform.{verdict, perform}
use Rattle.plan.specs.States.{State, Means}
use Rattle.door.specs.Served.{Serves}
use Rattle.outcomes.specs.Samples.{Shows, code, row20, row10, roomy}
use Rattle.outcomes.proofs.Ruled.{serve_says, serve_leaves}

-- ---- `get`

-- absent for a code that is there
pub get_absent : {s t : State} {a : Answer} → Serves (Get (code 10)) 0 s t a → Means s roomy → a ≡ Absent → ⊥
unfolding perform verdict
get_absent x d = serve_says x d refl

-- the entry found and not moved to the front
pub get_still : {s t : State} {a : Answer} → Serves (Get (code 10)) 0 s t a → Means s roomy → Shows t (row20 ∷ row10 ∷ []) → ⊥
unfolding perform verdict
get_still x d = serve_leaves x d refl

-- ---- `pop`

-- absent for a code that is there
pub pop_absent : {s t : State} {a : Answer} → Serves (Pop (code 10)) 0 s t a → Means s roomy → a ≡ Absent → ⊥
unfolding perform verdict
pop_absent x d = serve_says x d refl

-- the value answered and the entry left where it is
pub pop_keeps : {s t : State} {a : Answer} → Serves (Pop (code 10)) 0 s t a → Means s roomy → Shows t (row20 ∷ row10 ∷ []) → ⊥
unfolding perform verdict
pop_keeps x d = serve_leaves x d refl

-- ---- `pop_front`

-- the entry at the back shown
pub pop_front_back : {s t : State} {a : Answer} → Serves PopFront 0 s t a → Means s roomy → a ≡ Entry row10 → ⊥
unfolding perform verdict
pop_front_back x d = serve_says x d refl

-- the entry shown and not removed
pub pop_front_keeps : {s t : State} {a : Answer} → Serves PopFront 0 s t a → Means s roomy → Shows t (row20 ∷ row10 ∷ []) → ⊥
unfolding perform verdict
pop_front_keeps x d = serve_leaves x d refl

-- ---- `pop_back`

-- the entry in front shown
pub pop_back_front : {s t : State} {a : Answer} → Serves PopBack 0 s t a → Means s roomy → a ≡ Entry row20 → ⊥
unfolding perform verdict
pop_back_front x d = serve_says x d refl

-- the entry in front removed
pub pop_back_other : {s t : State} {a : Answer} → Serves PopBack 0 s t a → Means s roomy → Shows t (row10 ∷ []) → ⊥
unfolding perform verdict
pop_back_other x d = serve_leaves x d refl

-- ---- `clear`

-- none counted
pub clear_none : {s t : State} {a : Answer} → Serves Clear 0 s t a → Means s roomy → a ≡ Count 0 → ⊥
unfolding perform verdict
clear_none x d = serve_says x d refl

-- all counted and none removed
pub clear_keeps : {s t : State} {a : Answer} → Serves Clear 0 s t a → Means s roomy → Shows t (row20 ∷ row10 ∷ []) → ⊥
unfolding perform verdict
clear_keeps x d = serve_leaves x d refl

-- ---- `get_mut`

-- the new value answered instead of the one it replaced
pub get_mut_new : {s t : State} {a : Answer} → Serves (GetMut (code 10) 5) 0 s t a → Means s roomy → a ≡ Was 5 0 → ⊥
unfolding perform verdict
get_mut_new x d = serve_says x d refl

-- the value set and the entry not moved
pub get_mut_still : {s t : State} {a : Answer} → Serves (GetMut (code 10) 5) 0 s t a → Means s roomy → Shows t (row20 ∷ entry 10 7 5 0 ∷ []) → ⊥
unfolding perform verdict
get_mut_still x d = serve_leaves x d refl

-- ---- `peek_mut`

-- the entry moved to the front
pub peek_mut_moves : {s t : State} {a : Answer} → Serves (PeekMut (code 10) 5) 0 s t a → Means s roomy → Shows t (entry 10 7 5 0 ∷ row20 ∷ []) → ⊥
unfolding perform verdict
peek_mut_moves x d = serve_leaves x d refl

-- nothing set
pub peek_mut_none : {s t : State} {a : Answer} → Serves (PeekMut (code 10) 5) 0 s t a → Means s roomy → Shows t (row20 ∷ row10 ∷ []) → ⊥
unfolding perform verdict
peek_mut_none x d = serve_leaves x d refl

-- ---- `front_mut`

-- the value at the back set
pub front_mut_back : {s t : State} {a : Answer} → Serves (FrontMut 5) 0 s t a → Means s roomy → Shows t (row20 ∷ entry 10 7 5 0 ∷ []) → ⊥
unfolding perform verdict
front_mut_back x d = serve_leaves x d refl

-- the new value answered instead of the one it replaced
pub front_mut_new : {s t : State} {a : Answer} → Serves (FrontMut 5) 0 s t a → Means s roomy → a ≡ Was 5 0 → ⊥
unfolding perform verdict
front_mut_new x d = serve_says x d refl

-- ---- `back_mut`

-- the value in front set
pub back_mut_front : {s t : State} {a : Answer} → Serves (BackMut 5) 0 s t a → Means s roomy → Shows t (entry 20 8 5 0 ∷ row10 ∷ []) → ⊥
unfolding perform verdict
back_mut_front x d = serve_leaves x d refl

-- the entry moved to the front
pub back_mut_moves : {s t : State} {a : Answer} → Serves (BackMut 5) 0 s t a → Means s roomy → Shows t (entry 10 7 5 0 ∷ row20 ∷ []) → ⊥
unfolding perform verdict
back_mut_moves x d = serve_leaves x d refl
