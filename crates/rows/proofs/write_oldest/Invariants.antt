-- `rows::write_oldest` meets its contract: the loop of `proofs/Ageing.antt`.
-- Assumes nothing.
use Rattle.state.specs.State.{held, seen, SameRows}
use Rattle.rows.proofs.Ageing.{Ageing}
use Rattle.rows.proofs.write_oldest.Given as goal

abbrev pub invariant-loop-j : goal.invariant-loop-j
invariant-loop-j l =
    let s = seen l.view in
    SameRows l.initial.rows l.rows
    × Ageing s.fields s.prevs l.k l.skip.0 (held l.initial.rows) (held l.rows) l.initial.oldest.0 l.oldest.0 l.j
