-- `table::look` meets its contract. The invariant: the table is open, and `cell` is read as number `count`. The measure: cells not read yet.
-- Assumes nothing.
use mathlib.Core.Path.{sym, subst}
use Prim.Native.Nat.{ℕ, ◌*◌, ◌<◌}
use native.Mathlib.Omega.{arith}
use Rattle.crc.proofs.Homes.{home_lt}
use Rattle.table.proofs.Seek.{seek_start, seek_le, seek_in, seek_none, seek_some, seek_on}
use Rattle.table.proofs.look.Goals as goal

pub overflow_mul-m : goal.overflow_mul-m
overflow_mul-m c = omega (arith, c.requires.wide)

pub home-cell-requires : goal.home-cell-requires
home-cell-requires c = record { some = omega (arith, c.requires.gap_in); fits = omega (arith, c.requires.wide) }

pub loop-code-init : goal.loop-code-init
loop-code-init c = (c.home-cell.ensures, seek_start _ _ _ _ _ c.requires (subst (λ (h : ℕ). h < 2 * c.args.n) (sym c.home-cell.ensures) (home_lt (omega (arith, c.requires.gap_in)) _)))

pub offset_bounds-cells-cell : goal.offset_bounds-cells-cell
offset_bounds-cells-cell c = omega (arith, seek_in c.loop-code.invariant.1, c.loop-code.invariant.1.table.wide)

pub bounds-cells-cell : goal.bounds-cells-cell
bounds-cells-cell c = omega (arith, seek_in c.loop-code.invariant.1, c.loop-code.invariant.1.table.wide)

-- the slot that was read has a code
pub bounds-codes-slot : goal.bounds-codes-slot
bounds-codes-slot c =
    let l = c.loop-code in
    l.invariant.1.table.slots l.cell (seek_in l.invariant.1) c.if-slot.false

pub after-cell-requires : goal.after-cell-requires
after-cell-requires c = seek_in c.loop-code.invariant.1

pub overflow_add-count : goal.overflow_add-count
overflow_add-count c = omega (arith, seek_le c.loop-code.invariant.1, c.loop-code.invariant.1.table.wide)

pub loop-code-smaller : goal.loop-code-smaller
loop-code-smaller c = omega (arith, seek_le c.loop-code.invariant.1)

pub loop-code-preserved : goal.loop-code-preserved
loop-code-preserved c =
    let l = c.loop-code in
    (l.invariant.0, seek_on l.invariant.1 c.after-cell.ensures c.if-slot.false c.if-codes-slot.false)

pub returns-then-slot : goal.returns-then-slot
returns-then-slot c =
    let l = c.loop-code in
    seek_none l.invariant.1 l.invariant.0 c.if-slot.true

pub returns-then-codes-slot : goal.returns-then-codes-slot
returns-then-codes-slot c =
    let l = c.loop-code in
    seek_some l.invariant.1 l.invariant.0 c.if-slot.false c.if-codes-slot.true
