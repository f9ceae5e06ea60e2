-- What the demands count over a run, on the answers and rows that the calls gave: the tally, "new" answers, another keeper.
-- Assumes nothing.
use Rattle.std.specs.Prelude.{ℕ, ◌+◌, ◌≤◌, cond, List, [], ◌∷◌, ◌++◌, length}
use Rattle.model.specs.Codes.{one, Distinct}
use Rattle.model.specs.Runs.{Sort, plain_put, other_put, getting, looking, pop_code, pop_end, trimming, clearing, another, sort_of, Word, word_of, is_new, is_value, shown_code, offered, Request, Serves}
use Rattle.plan.specs.States.{State}
use Rattle.demands.specs.Runs.{Made, lent}
use Rattle.demands.specs.Views.{codes_in, row_codes}

-- ---- the tally

-- the codes that leave by a call of a sort: those of its rows, the popped one, all that were live
abbrev pub leaving : Sort → List ℕ → Word → List ℕ → List ℕ
leaving (plain_put c) live w rows = rows
leaving (other_put c) live w rows = rows
leaving (getting c) live w rows = []
leaving looking live w rows = []
leaving (pop_code c) live w rows = cond (is_value w) (c ∷ []) []
leaving pop_end live w rows = shown_code w
leaving trimming live w rows = rows
leaving clearing live w rows = live
leaving another live w rows = []

-- the codes accepted as "new" in a run, with repeats
abbrev pub accepted : List Made → List ℕ
accepted [] = []
accepted (a ∷ as') = cond (is_new (word_of a.answer)) (offered (sort_of a.asked.command)) [] ++ accepted as'

-- the codes pushed out, popped, swept and cleared in a run from the state s on, with repeats
abbrev pub departed : State → List Made → List ℕ
departed s [] = []
departed s (a ∷ as') = leaving (sort_of a.asked.command) (codes_in s) (word_of a.answer) (row_codes a) ++ departed a.left as'

-- ---- another keeper

-- every call of a run is a `put` with at least one row lent, a `get`, a `peek` or a `contains`
abbrev pub Requests : List Made → Type 0
Requests [] = Unit {0}
Requests (a ∷ as') = Request (sort_of a.asked.command) (lent a.asked) × Requests as'

-- how many calls of a run were answered "new"
abbrev pub new_answers : List Made → ℕ
new_answers [] = 0
new_answers (a ∷ as') = one (is_new (word_of a.answer)) + new_answers as'

-- a keeper with H places beside the run: after each call a holding of distinct codes, at most H, with the asked code in it after a `put` and a finding `get`
abbrev pub Keeps : ℕ → List Made → List (List ℕ) → Type 0
Keeps H [] [] = Unit {0}
Keeps H [] (o ∷ os) = ⊥
Keeps H (a ∷ as') [] = ⊥
Keeps H (a ∷ as') (o ∷ os) = Distinct o × (length o ≤ H) × Serves (sort_of a.asked.command) (word_of a.answer) o × Keeps H as' os
