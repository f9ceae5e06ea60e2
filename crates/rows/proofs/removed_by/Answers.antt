-- `rows::removed_by` meets its contract: the counting loop of `proofs/Sweeping.antt`.
-- Assumes nothing.
use Prim.Native.Nat.{ℕ, ◌+◌, ◌-◌}
use mathlib.Core.Bool.{Bool, true, false, not}
use mathlib.Core.Path.{◌≡◌, refl, ap, ◌∙◌}
use mir.Val.{bool_byte}
use Rattle.model.specs.Codes.{one}
use native.Mathlib.Omega.{arith}
use Rattle.rows.proofs.Sweeping.{count_start, count_step, count_end, count_fits, ahead_readable, ahead_linked}
use Rattle.rows.proofs.removed_by.Goals as goal

-- 1 for an entry that the rule removes
gone : {b r : Bool} {n : ℕ} → b ≡ r → n ≡ bool_byte (not b) → n ≡ one (not r)
gone {b} {r} p q = q ∙ byte (not b) ∙ ap (λ (x : Bool). one (not x)) p
  where
    byte : (b : Bool) → bool_byte b ≡ one b
    byte true = refl
    byte false = refl

pub loop-init : goal.loop-init
loop-init c = let z : c.args.view.now.head.live - 0 ≡ c.args.view.now.head.live = omega arith in rw z (count_start _ c.requires)

pub read-row-requires : goal.read-row-requires
read-row-requires c = ahead_readable c.loop.invariant.ahead (omega arith)

pub overflow_add-n : goal.overflow_add-n
overflow_add-n c = omega (arith, count_fits c.read-row.result c.loop.invariant (omega arith), gone c.keeps.ensures c.from-n.ensures)

pub after-slot-requires : goal.after-slot-requires
after-slot-requires c = ahead_linked c.loop.invariant.ahead (omega arith)

pub loop-preserved : goal.loop-preserved
loop-preserved c =
    let live = c.args.view.now.head.live in
    let z : live - (c.loop.counter + 1) ≡ live - c.loop.counter - 1 = omega arith in
    rw z (count_step _ _ _ c.loop.invariant (omega arith) c.read-row.ensures (gone c.keeps.ensures c.from-n.ensures) c.after-slot.ensures)

pub returns : goal.returns
returns c = count_end c.loop.invariant (omega arith)
