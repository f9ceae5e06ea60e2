-- Wrong answers that the contracts of `open` and of the door's `call` rule out. The samples stand in specs/Samples.antt.
-- Assumes nothing.
use Rattle.std.specs.Prelude.{Result, Ok, Err}
use mathlib.Core.Bool.{Bool, true, false, true≢false}
use mathlib.Core.List.{List, [], ◌∷◌}
use mathlib.Core.Path.{◌≡◌, refl, sym, ap, ◌∙◌}
use lib.ListN.{length}
use native.Mathlib.Omega.{arith}
use Rattle.head.specs.declared.Head.{Head}
use Rattle.head.specs.declared.Row.{Row}
use Rattle.head.specs.declared.Answer.{Answer}
use Rattle.head.specs.declared.Answer.TheVariants.{No as Refused, Absent}
use Rattle.head.specs.declared.Refusal.{Refusal}
use Rattle.head.specs.declared.Refusal.TheVariants.{NotOpened}
use Rattle.head.specs.declared.Command.{Command}
use Rattle.head.specs.declared.Command.TheVariants.{Get}
use Rattle.head.specs.Fields.{Fields}
use Rattle.model.specs.Perform.{Cache, opening, verdict, perform}
use Rattle.store.proofs.Settled.{one_cache}
use Rattle.plan.specs.States.{State, Means, Sound}
use Rattle.door.specs.Served.{Calls}
use Rattle.opening.specs.Begun.{spacious, Opens}
use Rattle.outcomes.specs.Samples.{Shows, code, row10, roomy, bare, lists}
use Rattle.outcomes.proofs.Ruled.{answer_not, call_says}

-- whether it was opened
began : Result Head Refusal → Bool
began (Ok h) = true
began (Err e) = false

-- ---- `open`

-- refused where kind, capacity, slots and lists are as they should be
pub open_refuses : {s t : State} {r : Result Head Refusal} → Opens 0 3 4 s t r → spacious 4 s ≡ true → r ≡ Err NotOpened → ⊥
unfolding opening began
open_refuses x l e = true≢false (sym (ap began (x.opens bare (ap (opening 0 3 4) l)).0) ∙ ap began e)

-- an entry left over from what the lists held before
pub open_keeps : {s t : State} {r : Result Head Refusal} → Opens 0 3 4 s t r → spacious 4 s ≡ true → Shows t (row10 ∷ []) → ⊥
unfolding opening
open_keeps x l w =
    let e = ap (λ (y : Cache). length y.desk.entries) (one_cache (x.opens bare (ap (opening 0 3 4) l)).1 w.means) ∙ ap (λ (y : List Row). length y) w.entries in
    omega (arith, e)

-- opened with a capacity of 0
pub open_none : {s t : State} {r : Result Head Refusal} {h : Head} → Opens 0 0 4 s t r → r ≡ Ok h → ⊥
unfolding opening began
open_none x e = true≢false (sym (ap began e) ∙ ap began (x.refuses NotOpened refl).0)

-- opened in lists that are too short
pub open_short : {s t : State} {r : Result Head Refusal} {h : Head} → Opens 0 3 4 s t r → spacious 4 s ≡ false → r ≡ Ok h → ⊥
unfolding opening began
open_short x l e = true≢false (sym (ap began e) ∙ ap began (x.refuses NotOpened (ap (opening 0 3 4) l)).0)

-- ---- `call` of any command

-- refused, with whatever number, where the state is sound and the code there
pub call_refuses : {s t : State} {out : Fields} {a : Answer} {r : Refusal} → Calls (Get (code 10)) s t lists out a → Means s roomy → a ≡ Refused r → ⊥
unfolding perform verdict
call_refuses x d = call_says x d refl

-- answered where it is not
pub call_answers : {m : Command} {s t : State} {rows out : Fields} {a : Answer} → Calls m s t rows out a → (Sound s → ⊥) → a ≡ Absent → ⊥
call_answers x n = answer_not (x.serves.unsound n).0 refl
