-- Every demand of one day, however its calls were made.
-- Assumes nothing.
use Prim.Native.Nat.{ℕ, ◌+◌, ◌-◌, ◌*◌, ◌≤◌}
use mathlib.Core.List.{List, []}
use mathlib.Core.Path.{sym, subst}
use Rattle.model.specs.Runs.{brought}
use Rattle.demands.specs.Runs.{Day}
use Rattle.demands.specs.Counts.{Requests, new_answers, Keeps}
use Rattle.demands.specs.Demands.{AllTaken, Held}
use Rattle.demands.proofs.Openings.{read_off}
use Rattle.demands.proofs.Carried.{beside, none_refused, tallied}

-- demand 3 of the days of one kind
abbrev Bounded : ℕ → ℕ → ℕ → Type 0
Bounded c n kind =
    (d : Day kind c n) (H : ℕ) → 1 ≤ H → H ≤ c → c ≤ n → Requests d.calls → (os : List (List ℕ)) → Keeps H d.calls os
    → (c - H + 1) * new_answers d.calls ≤ c * brought [] os

-- and that none of their puts is refused
abbrev Accepting : ℕ → ℕ → ℕ → Type 0
Accepting c n kind = (d : Day kind c n) → c ≤ n → Requests d.calls → AllTaken d.calls

-- so it is of every day: of the public calls, of `door::call`, of a script, of the exported functions
pub held : {kind c n : ℕ} (d : Day kind c n) → Held d
held {kind} {c} {n} d = record {
  defined = read_off kind c n d;
  tallied = tallied kind c n d;
  beside = λ e. subst (Bounded c n) (sym e) (λ d H h₁ h₂ h₃ r os k. beside c n H h₁ h₂ h₃ d r os k) d;
  taken = λ e. subst (Accepting c n) (sym e) (λ d h r. none_refused c n h d r) d;
}
