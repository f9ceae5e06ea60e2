-- `script_play::play` meets its contract.
-- Assumes nothing.
use mathlib.Core.Path.{sym}
use lib.Seq.{length-take-le}
use Rattle.script_play.proofs.Room.{text_fits}
use Rattle.script_play.proofs.Playing.{going_first, going_cuts, going_inside, going_further, going_less, going_on, going_last}
use Rattle.script_play.proofs.play.Goals as goal

pub loop-from-init : goal.loop-from-init
loop-from-init g c = going_first c.requires.plays

pub line_end-to-requires : goal.line_end-to-requires
line_end-to-requires g c = going_cuts c.loop-from.invariant c.loop-from-test.true

pub slice_bounds-take-end : goal.slice_bounds-take-end
slice_bounds-take-end g c = going_inside c.loop-from.invariant c.loop-from-test.true c.line_end-to.ensures

pub take-done-requires : goal.take-done-requires
take-done-requires g c = record { room = c.loop-from.invariant.room }

pub slice_bounds-write_all-end : goal.slice_bounds-write_all-end
slice_bounds-write_all-end g c = text_fits c.take-done.ensures.took.text

pub slice_bounds-write_all-end-in-loop-from : goal.slice_bounds-write_all-end-in-loop-from
slice_bounds-write_all-end-in-loop-from g c = sym (length-take-le _ _ (text_fits c.take-done.ensures.took.text))

pub next_line-from-requires : goal.next_line-from-requires
next_line-from-requires g c = going_further c.loop-from.invariant c.loop-from-test.true c.line_end-to.ensures

pub loop-from-smaller : goal.loop-from-smaller
loop-from-smaller g c = going_less c.loop-from.invariant c.loop-from-test.true c.line_end-to.ensures c.is_ok-written.result c.next_line-from.ensures

pub loop-from-preserved : goal.loop-from-preserved
loop-from-preserved g c =
    let k = c.take-done.ensures.row_lists in
    going_on c.loop-from.invariant c.loop-from-test.true c.line_end-to.ensures c.is_ok-written.result c.next_line-from.ensures c.take-done.ensures.took
    k.codes k.stamps k.values k.weights

pub returns : goal.returns
returns g c = going_last c.loop-from.invariant c.loop-from-test.false
