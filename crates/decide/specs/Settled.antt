-- What a decision has to be: the call's verdict on every cache that is seen.
-- Assumes nothing.
use Rattle.std.specs.Prelude.{◌≡◌, ℕ, Bool, cond, Result, Ok, Err}
use Rattle.head.specs.declared.Refusal.{Refusal}
use Rattle.model.specs.Desk.{Desk, find}
use Rattle.model.specs.Calls.{Verdict, setting}
use Rattle.model.specs.Perform.{Cache, handed}
use Rattle.plan.specs.declared.Decision.{Decision}
use Rattle.plan.specs.Plans.{denied, meant, Named}

-- with so many rows lent, the decision is the call's verdict, and its plan names what is there
pub record Settles (P : Cache → Type 0) (call : Desk → Verdict) (lent : ℕ) (r : Decision) : Type 0 where
  pub means : (c : Cache) → P c → handed lent (call c.desk) ≡ meant r c
  pub named : (c : Cache) → P c → Named r.plan c

-- the same however many rows are lent: the call hands out none
abbrev pub Always : (Cache → Type 0) → (Desk → Verdict) → Decision → Type 0
Always P call r = (lent : ℕ) → Settles P call lent r

-- a refusal, as the decision that answers it and leaves all untouched
abbrev pub settled : Result Decision Refusal → Decision
settled (Ok r) = r
settled (Err e) = denied e

-- what is asked for is given, or refused
abbrev pub given : Bool → Refusal → Result (Unit {0}) Refusal
given b e = cond b (Ok tt) (Err e)

-- `peek_mut`: the entry of a code takes a value and stays where it is
abbrev pub peek_mut_call : ℕ → ℕ → Desk → Verdict
peek_mut_call code v d = setting (find code d.entries) v d
