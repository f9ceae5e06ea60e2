-- Refused with 7: what has changed of an absent code, and of a present one.
-- Assumes nothing.
use Prim.Native.Nat.{ℕ}
use mathlib.Core.Bool.{true}
use mathlib.Core.Path.{◌≡◌, refl, sym, ap, ◌∙◌, subst}
use native.Mathlib.Omega.{arith}
use Rattle.head.specs.declared.Code.{Code}
use Rattle.head.specs.declared.Answer.{Answer}
use Rattle.head.specs.declared.Answer.TheVariants.{No}
use Rattle.head.specs.declared.Refusal.TheVariants.{TooFewRows, OverCeiling}
use Rattle.head.specs.declared.Command.TheVariants.{TryPutOrModify}
use Rattle.model.specs.Desk.{Found, absent, present, find}
use Rattle.model.specs.Moves.{Move}
use Rattle.model.specs.Calls.{try_put_or_modify_call}
use Rattle.model.specs.Perform.{Cache, verdict, handed, perform}
use Rattle.model.proofs.Verdicts.{on_lent}
use Rattle.store.specs.Caches.{after}
use Rattle.plan.specs.States.{State, Means}
use Rattle.plan.specs.Plans.{cells_stay}
use Rattle.door.specs.Served.{Serves}
use Rattle.outcomes.proofs.Untouched.{ceiling_move, Moves, other, seven}

-- refused with 7, an absent code has changed nothing, and a present one has moved to the front; no cell changed
pub refused_ceiling : {code : Code} {stamp n most lent : ℕ} {s t : State} {a : Answer} {c : Cache} → Serves (TryPutOrModify code stamp n most) lent s t a
    → Means s c → a ≡ No OverCeiling
    → Means t (after (ceiling_move (find code.0 c.desk.entries)) c) × (t.cells ≡ s.cells)
unfolding perform verdict
refused_ceiling {code} {stamp} {n} {most} {lent} {s} {t} {a} {c} x d e =
    let f = x.sound c d in
    let m : (handed lent (try_put_or_modify_call code.0 stamp n most c.desk)).move ≡ ceiling_move (find code.0 c.desk.entries) =
    (on_lent (Moves (ceiling_move (find code.0 c.desk.entries))) lent (try_put_or_modify_call code.0 stamp n most c.desk)
    (other _ TooFewRows refl (λ z. absurd (omega arith)))
    (seven code.0 stamp n most c.desk)).goes
    (sym f.answer ∙ e) in
    (subst (λ (v : Move). Means t (after v c)) m f.left, f.cells (ap (λ (v : Move). cells_stay v c.desk) m ∙ stays (find code.0 c.desk.entries)))
  where
    stays : (g : Found) → cells_stay (ceiling_move g) c.desk ≡ true
    stays absent = refl
    stays (present i e) = refl
