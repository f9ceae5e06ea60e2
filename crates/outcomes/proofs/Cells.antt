-- An equal or growing `resize`, and a sweep that removes nothing, leave every cell as it was.
-- Assumes nothing.
use Prim.Native.Nat.{ℕ, ◌≤◌}
use mathlib.Core.Bool.{true}
use mathlib.Core.List.{List, []}
use mathlib.Core.Path.{◌≡◌, refl, ap}
use native.Mathlib.Omega.{arith}
use lib.Dec.{eqb}
use lib.ListN.{length}
use borrow.Author.Tests.{le-leb}
use Rattle.head.specs.declared.Answer.{Answer}
use Rattle.head.specs.declared.Command.TheVariants.{Retain, Resize}
use Rattle.head.specs.declared.Row.{Row}
use Rattle.head.specs.declared.Rule.{Rule}
use Rattle.head.specs.Bounds.{capacity_ok}
use Rattle.model.specs.Lists.{marked, others}
use Rattle.model.specs.Desk.{Desk, marks, leaving, is_rule}
use Rattle.model.specs.Calls.{Verdict, resize_call, retain_call}
use Rattle.model.specs.Perform.{Cache, verdict}
use Rattle.model.proofs.Eviction.{none_leave}
use Rattle.model.proofs.Verdicts.{on_test, on_lent}
use Rattle.plan.specs.States.{State, Means}
use Rattle.plan.specs.Plans.{cells_stay}
use Rattle.door.specs.Served.{Serves}

-- a verdict whose move leaves the cells of this desk
abbrev Still : Desk → Verdict → Type 0
Still d v = cells_stay v.move d ≡ true

module _ {lent : ℕ} {s t : State} {a : Answer} {c : Cache} where
  -- to the same capacity or a larger one, whether it is accepted or not
  pub resize_keeps_cells : {n : ℕ} → Serves (Resize n) lent s t a → Means s c → c.desk.capacity ≤ n → t.cells ≡ s.cells
  unfolding verdict
  resize_keeps_cells {n} x d h =
      let none : leaving n c.desk.entries ≡ 0 = none_leave n c.desk.entries (omega (arith, d.lawful.within, h)) in
      (x.sound c d).cells
      (on_lent (Still c.desk) lent (resize_call n c.desk) refl
      (on_test (Still c.desk) (capacity_ok n) (λ t. rw (none, le-leb c.desk.capacity n h) refl) (λ t. refl)))

  -- a rule that every entry passes
  pub sweep_keeps_cells : {q : Rule} → Serves (Retain q) lent s t a → Means s c → marked (others (marks q c.desk.entries)) c.desk.entries ≡ []
      → t.cells ≡ s.cells
  unfolding verdict
  sweep_keeps_cells {q} x d h =
      (x.sound c d).cells
      (on_lent (Still c.desk) lent (retain_call q c.desk) refl
      (on_test (Still c.desk) (is_rule q) (λ t. ap (λ (l : List Row). eqb (length l) 0) h) (λ t. refl)))
