-- Two states that differ in which cell holds which slot at most.
-- Assumes nothing.
use Rattle.model.specs.Perform.{Cache}
use Rattle.plan.specs.States.{State, Means, Alike}

-- head and lists are the same, cells excepted, and both describe one cache
pub record Agree (s t : State) : Type 0 where
  pub alike : Alike s t
  pub cache : (c : Cache) → (Means s c → Means t c) × (Means t c → Means s c)
