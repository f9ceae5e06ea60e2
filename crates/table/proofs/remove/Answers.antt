-- `table::remove` meets its contract. The invariant and the steps are those of `proofs/Shift.antt`. The measure: how far an empty cell is.
-- Assumes nothing.
use mathlib.Core.Path.{sym, ◌∙◌}
use Prim.Native.Nat.{ℕ, ◌*◌, ◌<◌}
use native.Mathlib.Omega.{arith}
use Rattle.crc.specs.Home.{home_of}
use Rattle.crc.proofs.Homes.{home_lt}
use Rattle.table.proofs.Shift.{shift_start, has_code, test_is, shift_less, shift_stay, shift_move, shift_end}
use Rattle.table.proofs.remove.Goals as goal
use Rattle.table.proofs.remove.Goals.{At-loop-cells}

hb : (c : At-loop-cells) (k : ℕ) → home_of c.args.n k < 2 * c.args.n
hb c k =
    home_lt (omega (arith, c.loop-cells.invariant.1.at_in)) k

pub loop-cells-init : goal.loop-cells-init
loop-cells-init c =
    let p = c.requires in
    (c.after-at.ensures, shift_start p.table p.tidy p.cell_in p.full c.after-at.ensures)

pub bounds-codes-slot : goal.bounds-codes-slot
bounds-codes-slot c = has_code c.loop-cells.invariant.1 (hb (goal.at.bounds-codes-slot c).At-loop-cells) c.loop-cells-test.true

pub loop-cells-smaller-then-not-on_way : goal.loop-cells-smaller-then-not-on_way
loop-cells-smaller-then-not-on_way c = shift_less c.loop-cells.invariant.1 (hb (goal.at.loop-cells-smaller-then-not-on_way c).At-loop-cells) c.loop-cells-test.true c.after-next.ensures

pub loop-cells-preserved-then-not-on_way : goal.loop-cells-preserved-then-not-on_way
loop-cells-preserved-then-not-on_way c =
    let v = c.loop-cells.invariant in
    let b = hb (goal.at.loop-cells-preserved-then-not-on_way c).At-loop-cells in
    let f = c.loop-cells-test.true in (
      c.after-next.ensures,
      shift_move v.1 b f (sym (test_is v.1 b f v.0 c.home-home.ensures) ∙ sym c.on_way.ensures ∙ c.if-not-on_way.true) c.after-next.ensures,
    )

pub loop-cells-smaller : goal.loop-cells-smaller
loop-cells-smaller c = shift_less c.loop-cells.invariant.1 (hb (goal.at.loop-cells-smaller c).At-loop-cells) c.loop-cells-test.true c.after-next.ensures

pub loop-cells-preserved : goal.loop-cells-preserved
loop-cells-preserved c =
    let v = c.loop-cells.invariant in
    let b = hb (goal.at.loop-cells-preserved c).At-loop-cells in
    let f = c.loop-cells-test.true in (
      v.0,
      shift_stay v.1 b f (sym (test_is v.1 b f v.0 c.home-home.ensures) ∙ sym c.on_way.ensures ∙ c.if-not-on_way.false) c.after-next.ensures,
    )

pub returns : goal.returns
returns c = shift_end c.loop-cells.invariant.1 (hb (goal.at.returns c).At-loop-cells) c.loop-cells-test.false
