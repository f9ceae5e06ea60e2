-- The lines so far were carried out in turn. The measure is how many bytes are left.
-- Assumes nothing.
use Prim.Native.Nat.{◌-◌}
use Rattle.state.specs.State.{held, lent}
use Rattle.script_play.specs.Playing.{handed}
use Rattle.script_play.proofs.Playing.{Going}
use Rattle.script_play.proofs.play.Given as goal

abbrev pub invariant-loop-from : goal.invariant-loop-from
invariant-loop-from g l =
    let x = handed (lent l.initial.state) (held l.initial.rows) l.initial.out in
    Going l.input l.n x (handed (lent l.state) (held l.rows) l.out) l.from l.written

abbrev pub decreases-loop-from : goal.decreases-loop-from
decreases-loop-from g l = l.n - l.from
