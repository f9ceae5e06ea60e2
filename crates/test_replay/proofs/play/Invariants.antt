-- The buffer keeps its room, and what is left is no more than the lines. The measure is how many bytes are left.
use Rattle.std.proofs.Common.{suc, ◌*◌, ◌≤◌, length}
use Rattle.state.specs.State.{held}
use Rattle.door.specs.Served.{shortest}
use Rattle.script_write.specs.Lines.{most_line}
use Rattle.test_replay.proofs.play.Given as goal

abbrev pub invariant-loop-rest : goal.invariant-loop-rest
invariant-loop-rest l = record { room : suc (shortest (held l.rows)) * most_line ≤ length l.out; left : length l.rest ≤ l.n }

abbrev pub decreases-loop-rest : goal.decreases-loop-rest
decreases-loop-rest l = length l.rest
