-- `act::act` meets its contract: in each arm the plan is known, and the callee's promise is the plan's.
-- Assumes nothing.
use mathlib.Core.Logic.{⊎_elim}
use mathlib.Core.Path.{refl}
use Rattle.act.proofs.Deciding.{needed, acted_as, stayed}
use Rattle.act.proofs.Stepping.{raise_room, raise_acted, set_room, set_acted, renew_value, renew_room, renew_acted, drop_occupied, drop_acted, sweep_whole, sweep_acted, clear_spacious, clear_acted}
use Rattle.act.proofs.act.Goals as goal

pub move_front-state-requires : goal.move_front-state-requires
move_front-state-requires c = raise_room (needed _ c.in-Raise.is c.requires)

pub set_value-requires : goal.set_value-requires
set_value-requires c = set_room (needed _ c.in-Set.is c.requires)

pub set_value-requires-in-Renew : goal.set_value-requires-in-Renew
set_value-requires-in-Renew c = renew_value (needed _ c.in-Renew.is c.requires)

pub move_front-state-requires-in-Renew : goal.move_front-state-requires-in-Renew
move_front-state-requires-in-Renew c = renew_room (needed _ c.in-Renew.is c.requires)

pub remove-requires : goal.remove-requires
remove-requires c = drop_occupied (needed _ c.in-Drop.is c.requires)

pub place-requires : goal.place-requires
place-requires c = needed _ c.in-Place.is c.requires

pub replace-requires : goal.replace-requires
replace-requires c = needed _ c.in-Replace.is c.requires

pub fit-requires : goal.fit-requires
fit-requires c = needed _ c.in-Fit.is c.requires

pub sweep-requires : goal.sweep-requires
sweep-requires c = sweep_whole (needed _ c.in-Sweep.is c.requires)

pub empty-requires : goal.empty-requires
empty-requires c = clear_spacious (needed _ c.in-Clear.is c.requires)

pub returns-in-Stay-clause-acted : goal.returns-in-Stay-clause-acted
returns-in-Stay-clause-acted c =
    ⊎_elim (λ e. acted_as e (stayed _ (λ order. refl)))
    (⊎_elim (λ e. acted_as e (stayed _ (λ order. refl))) (λ e. acted_as e (stayed _ (λ order. refl))))
    c.in-Stay.is

pub returns-in-Raise-clause-acted : goal.returns-in-Raise-clause-acted
returns-in-Raise-clause-acted c = acted_as c.in-Raise.is (raise_acted c.move_front-state.ensures.moved c.move_front-state.ensures.stack)

pub returns-in-Set-clause-acted : goal.returns-in-Set-clause-acted
returns-in-Set-clause-acted c = acted_as c.in-Set.is (set_acted (needed _ c.in-Set.is c.requires) c.set_value.ensures)

pub returns-in-Renew-clause-acted : goal.returns-in-Renew-clause-acted
returns-in-Renew-clause-acted c = acted_as c.in-Renew.is (renew_acted (needed _ c.in-Renew.is c.requires) c.set_value-in-Renew.ensures c.move_front-state-in-Renew.ensures.moved c.move_front-state-in-Renew.ensures.stack)

pub returns-in-Drop-clause-acted : goal.returns-in-Drop-clause-acted
returns-in-Drop-clause-acted c = acted_as c.in-Drop.is (drop_acted c.remove.ensures.dropped)

pub returns-in-Place-clause-acted : goal.returns-in-Place-clause-acted
returns-in-Place-clause-acted c = acted_as c.in-Place.is c.place.ensures.acted

pub returns-in-Replace-clause-acted : goal.returns-in-Replace-clause-acted
returns-in-Replace-clause-acted c = acted_as c.in-Replace.is c.replace.ensures.acted

pub returns-in-Fit-clause-acted : goal.returns-in-Fit-clause-acted
returns-in-Fit-clause-acted c = acted_as c.in-Fit.is c.fit.ensures.acted

pub returns-in-Sweep-clause-acted : goal.returns-in-Sweep-clause-acted
returns-in-Sweep-clause-acted c = acted_as c.in-Sweep.is (sweep_acted c.sweep.ensures.swept)

pub returns-in-Clear-clause-acted : goal.returns-in-Clear-clause-acted
returns-in-Clear-clause-acted c = acted_as c.in-Clear.is (clear_acted c.empty.ensures.emptied)
