-- A run from opening: the first state means the fresh cache, and every call gives what the definitions say.
-- Assumes nothing.
use Rattle.std.specs.Prelude.{Result, Ok}
use Rattle.head.specs.declared.Refusal.{Refusal}
use Rattle.head.specs.declared.Head.{Head}
use Prim.Native.Nat.{ℕ}
use mathlib.Core.Bool.{true, ◌&&◌}
use mathlib.Core.Path.{◌≡◌}
use native.Mathlib.Omega.{arith}
use Rattle.head.specs.declared.Refusal.TheVariants.{NotOpened}
use Rattle.head.specs.Bounds.{allowed}
use Rattle.model.specs.Desk.{kind_of}
use Rattle.model.specs.Perform.{fresh, opening}
use Rattle.model.proofs.Cases.{split, both}
use Rattle.plan.specs.States.{State, Means, TailsKept}
use Rattle.opening.specs.Begun.{spacious, Opens}
use Rattle.demands.specs.Runs.{Day}
use Rattle.demands.specs.Demands.{ReadOff}
use Rattle.demands.proofs.Steps.{as_defined}

-- what opening gave
pub record Fresh (kind c n : ℕ) (s t : State) : Type 0 where
  pub allows : allowed kind c n ≡ true
  pub means : Means t (fresh (kind_of kind) c n)
  pub tails : TailsKept s t

pub opened_fresh : (kind c n : ℕ) (s t : State) (r : Result Head Refusal) → Opens kind c n s t r → r ≡ Ok t.head → Fresh kind c n s t
unfolding opening
opened_fresh kind c n s t r o g =
    split (allowed kind c n && spacious n s)
    (λ e. let q = o.opens (fresh (kind_of kind) c n) (rw e) in record { allows = (both (allowed kind c n) (spacious n s) e).0; means = q.1; tails = q.2 })
    (λ e. let q = o.refuses NotOpened (rw e) in let f = q.0 in let z : ◌≡◌ {A = ℕ} 0 1 = cc in absurd (omega arith))

pub day_fresh : (kind c n : ℕ) (d : Day kind c n) → Fresh kind c n d.lists d.begun
day_fresh kind c n d = opened_fresh kind c n d.lists d.begun d.said d.opens d.gave

-- demand 2, read off
pub read_off : ReadOff
read_off kind c n d = as_defined d.begun (fresh (kind_of kind) c n) d.calls d.run (day_fresh kind c n d).means
