-- Wrong answers that the contracts of the calls that put, sweep and resize rule out. The samples stand in specs/Samples.antt.
-- Assumes nothing.
use Prim.Native.Nat.{ℕ}
use mathlib.Core.Path.{◌≡◌, refl}
use mathlib.Core.Bool.{true, false}
use mathlib.Core.List.{[], ◌∷◌}
use Rattle.head.specs.declared.Answer.{Answer}
use Rattle.head.specs.declared.Answer.TheVariants.{No, New, Now, Done}
use Rattle.head.specs.declared.Refusal.{Refusal}
use Rattle.head.specs.declared.Command.TheVariants.{Put, PutWithWeight, Retain, Resize, PutOrModify, TryPutOrModify}
use Rattle.head.specs.Fields.{Fields}
use Rattle.head.specs.Rules.{code_rule, rule_of}
use Rattle.model.specs.Desk.{entry}
use Rattle.model.specs.Perform.{verdict, perform}
use Rattle.plan.specs.States.{State, Means}
use Rattle.door.specs.Served.{Calls}
use Rattle.outcomes.specs.Samples.{Shows, code, row20, row10, heavy20, roomy, full, laden, lists}
use Rattle.outcomes.proofs.Ruled.{call_leaves, call_says, call_hands, call_caps}

-- ---- `put`

-- "new" said and nothing stored
pub put_nothing : {s t : State} {out : Fields} {a : Answer} → Calls (Put (code 30) 9 300) s t lists out a → Means s roomy → Shows t (row20 ∷ row10 ∷ []) → ⊥
unfolding perform verdict
put_nothing x d = call_leaves x d refl

-- "new" for a code that is there
pub put_new : {s t : State} {out : Fields} {a : Answer} {n : ℕ} → Calls (Put (code 10) 9 101) s t lists out a → Means s roomy → a ≡ New n → ⊥
unfolding perform verdict
put_new x d = call_says x d refl

-- the stamp of a present code changed
pub put_stamp : {s t : State} {out : Fields} {a : Answer} → Calls (Put (code 10) 9 101) s t lists out a → Means s roomy → Shows t (entry 10 9 101 0 ∷ row20 ∷ []) → ⊥
unfolding perform verdict
put_stamp x d = call_leaves x d refl

-- the cache emptied where one is to be pushed out
pub put_empties : {s t : State} {out : Fields} {a : Answer} → Calls (Put (code 30) 9 300) s t lists out a → Means s full → Shows t (entry 30 9 300 0 ∷ []) → ⊥
unfolding perform verdict
put_empties x d = call_leaves x d refl

-- the entry pushed out and not handed out
pub put_silent : {s t : State} {out : Fields} {a : Answer} → Calls (Put (code 30) 9 300) s t lists out a → Means s full → out.codes ≡ 0 ∷ 0 ∷ 0 ∷ 0 ∷ [] → ⊥
unfolding perform verdict
put_silent x d = call_hands x d refl

-- a refusal, whatever its number, where there is room
pub put_refuses : {s t : State} {out : Fields} {a : Answer} {r : Refusal} → Calls (Put (code 30) 9 300) s t lists out a → Means s roomy → a ≡ No r → ⊥
unfolding perform verdict
put_refuses x d = call_says x d refl

-- ---- `put_with_weight`

-- none pushed out where live + weight + new weight is the capacity: > for >=
pub putw_late : {s t : State} {out : Fields} {a : Answer} → Calls (PutWithWeight (code 30) 9 300 1) s t lists out a → Means s laden → a ≡ New 0 → ⊥
unfolding perform verdict
putw_late x d = call_says x d refl

-- the present code pushed out before it is looked for
pub putw_early : {s t : State} {out : Fields} {a : Answer} → Calls (PutWithWeight (code 10) 9 101 4) s t lists out a → Means s laden → a ≡ New 1 → ⊥
unfolding perform verdict
putw_early x d = call_says x d refl

-- the stamp of a present code kept
pub putw_stamp : {s t : State} {out : Fields} {a : Answer} → Calls (PutWithWeight (code 10) 9 101 4) s t lists out a → Means s laden → Shows t (entry 10 7 101 4 ∷ heavy20 ∷ []) → ⊥
unfolding perform verdict
putw_stamp x d = call_leaves x d refl

-- ---- `retain`

-- rows listed and none removed
pub retain_keeps : {s t : State} {out : Fields} {a : Answer} → Calls (Retain (rule_of code_rule 15 30)) s t lists out a → Means s roomy → Shows t (row20 ∷ row10 ∷ []) → ⊥
unfolding perform verdict
retain_keeps x d = call_leaves x d refl

-- removed what the rule keeps
pub retain_turned : {s t : State} {out : Fields} {a : Answer} → Calls (Retain (rule_of code_rule 15 30)) s t lists out a → Means s roomy → Shows t (row10 ∷ []) → ⊥
unfolding perform verdict
retain_turned x d = call_leaves x d refl

-- the entry removed and not handed out
pub retain_silent : {s t : State} {out : Fields} {a : Answer} → Calls (Retain (rule_of code_rule 15 30)) s t lists out a → Means s roomy → out.codes ≡ 0 ∷ 0 ∷ 0 ∷ 0 ∷ [] → ⊥
unfolding perform verdict
retain_silent x d = call_hands x d refl

-- ---- `resize`

-- one more pushed out than need be
pub resize_more : {s t : State} {out : Fields} {a : Answer} → Calls (Resize 1) s t lists out a → Means s roomy → Shows t [] → ⊥
unfolding perform verdict
resize_more x d = call_leaves x d refl

-- one pushed out where live + weight is the new capacity
pub resize_equal : {s t : State} {out : Fields} {a : Answer} → Calls (Resize 9) s t lists out a → Means s laden → a ≡ Done 1 → ⊥
unfolding perform verdict
resize_equal x d = call_says x d refl

-- the capacity not set
pub resize_keeps : {s t : State} {out : Fields} {a : Answer} → Calls (Resize 1) s t lists out a → Means s roomy → t.head.capacity ≡ 3 → ⊥
unfolding perform verdict
resize_keeps x d = call_caps x d refl

-- ---- `put_or_modify`

-- a present code said to be new
pub modify_new : {s t : State} {out : Fields} {a : Answer} → Calls (PutOrModify (code 10) 9 5) s t lists out a → Means s roomy → a ≡ Now 5 true 0 → ⊥
unfolding perform verdict
modify_new x d = call_says x d refl

-- the amount stored instead of added
pub modify_replaces : {s t : State} {out : Fields} {a : Answer} → Calls (PutOrModify (code 10) 9 5) s t lists out a → Means s roomy → Shows t (entry 10 7 5 0 ∷ row20 ∷ []) → ⊥
unfolding perform verdict
modify_replaces x d = call_leaves x d refl

-- the amount added and the entry not moved
pub modify_still : {s t : State} {out : Fields} {a : Answer} → Calls (PutOrModify (code 10) 9 5) s t lists out a → Means s roomy → Shows t (row20 ∷ entry 10 7 105 0 ∷ []) → ⊥
unfolding perform verdict
modify_still x d = call_leaves x d refl

-- ---- `try_put_or_modify`

-- the move undone over the ceiling
pub try_undoes : {s t : State} {out : Fields} {a : Answer} → Calls (TryPutOrModify (code 10) 9 20 50) s t lists out a → Means s roomy → Shows t (row20 ∷ row10 ∷ []) → ⊥
unfolding perform verdict
try_undoes x d = call_leaves x d refl

-- the amount added over the ceiling
pub try_adds : {s t : State} {out : Fields} {a : Answer} → Calls (TryPutOrModify (code 10) 9 20 50) s t lists out a → Means s roomy → Shows t (entry 10 7 120 0 ∷ row20 ∷ []) → ⊥
unfolding perform verdict
try_adds x d = call_leaves x d refl

-- the sum answered over the ceiling
pub try_accepts : {s t : State} {out : Fields} {a : Answer} → Calls (TryPutOrModify (code 10) 9 20 50) s t lists out a → Means s roomy → a ≡ Now 120 false 0 → ⊥
unfolding perform verdict
try_accepts x d = call_says x d refl
