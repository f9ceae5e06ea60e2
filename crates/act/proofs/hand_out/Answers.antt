-- `act::hand_out` meets its contract: in each arm the plan is known, and what is written is what it hands out.
-- Assumes nothing.
use mathlib.Core.Logic.{⊎_elim}
use mathlib.Core.Path.{refl}
use Rattle.act.proofs.Handing.{offered, no_rows, all_handed, back_handed, place_handed, replace_handed, fit_handed, sweep_handed, all_offered, back_offered, place_offered, replace_offered, fit_offered, sweep_offered}
use Rattle.act.proofs.hand_out.Goals as goal

pub write_all-requires : goal.write_all-requires
write_all-requires c = all_offered (offered _ c.in-List.is c.requires)

pub write_all_back-requires : goal.write_all_back-requires
write_all_back-requires c = back_offered (offered _ c.in-ListBack.is c.requires)

pub write_oldest-requires : goal.write_oldest-requires
write_oldest-requires c = place_offered (offered _ c.in-Place.is c.requires)

pub write_oldest-requires-in-Replace : goal.write_oldest-requires-in-Replace
write_oldest-requires-in-Replace c = replace_offered (offered _ c.in-Replace.is c.requires)

pub write_oldest-requires-in-Fit : goal.write_oldest-requires-in-Fit
write_oldest-requires-in-Fit c = fit_offered (offered _ c.in-Fit.is c.requires)

pub write_removed-requires : goal.write_removed-requires
write_removed-requires c = sweep_offered (offered _ c.in-Sweep.is c.requires)

pub returns-in-Stay-clause-handed : goal.returns-in-Stay-clause-handed
returns-in-Stay-clause-handed c =
    ⊎_elim (λ e. no_rows _ e (λ k. refl))
    (⊎_elim (λ w. no_rows _ w.1 (λ k. refl))
    (⊎_elim (λ w. no_rows _ w.2 (λ k. refl))
    (⊎_elim (λ w. no_rows _ w.2 (λ k. refl)) (⊎_elim (λ w. no_rows _ w.1 (λ k. refl)) (λ e. no_rows _ e (λ k. refl))))))
    c.in-Stay.is

pub returns-in-List-clause-handed : goal.returns-in-List-clause-handed
returns-in-List-clause-handed c = all_handed c.in-List.is c.write_all.ensures.wrote

pub returns-in-ListBack-clause-handed : goal.returns-in-ListBack-clause-handed
returns-in-ListBack-clause-handed c = back_handed c.in-ListBack.is c.write_all_back.ensures.wrote

pub returns-in-Place-clause-handed : goal.returns-in-Place-clause-handed
returns-in-Place-clause-handed c = place_handed c.in-Place.is c.write_oldest.ensures.wrote

pub returns-in-Replace-clause-handed : goal.returns-in-Replace-clause-handed
returns-in-Replace-clause-handed c = replace_handed c.in-Replace.is c.write_oldest-in-Replace.ensures.wrote

pub returns-in-Fit-clause-handed : goal.returns-in-Fit-clause-handed
returns-in-Fit-clause-handed c = fit_handed c.in-Fit.is c.write_oldest-in-Fit.ensures.wrote

pub returns-in-Sweep-clause-handed : goal.returns-in-Sweep-clause-handed
returns-in-Sweep-clause-handed c = sweep_handed c.in-Sweep.is c.write_removed.ensures.wrote
