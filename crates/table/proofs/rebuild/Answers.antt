-- `table::rebuild` meets its contract: the invariant and the steps are those of `proofs/Renewal.antt`.
-- Assumes nothing.
use Prim.Native.Nat.{ℕ, ◌*◌, ◌<◌}
use native.Mathlib.Omega.{arith}
use Rattle.crc.specs.Home.{home_of}
use Rattle.crc.proofs.Homes.{home_lt}
use Rattle.table.proofs.Renewal.{renew_start, renew_end, renew_slotted, renew_linked, renew_on, renew_whole}
use Rattle.table.proofs.rebuild.Goals as goal
use Rattle.table.proofs.rebuild.Goals.{At-loop}

hb : (c : At-loop) (k : ℕ) → home_of c.args.n k < 2 * c.args.n
hb c k =
    home_lt (omega (arith, c.loop.invariant.keyed.listed.room)) k

pub loop-init : goal.loop-init
loop-init c = renew_start _ _ c.requires c.clear.ensures

pub insert-requires : goal.insert-requires
insert-requires c = renew_slotted (hb (goal.at.insert-requires c).At-loop) c.loop.invariant c.loop-test.true

pub bounds-next-slot : goal.bounds-next-slot
bounds-next-slot c = renew_linked (hb (goal.at.bounds-next-slot c).At-loop) c.loop.invariant c.loop-test.true

pub loop-preserved : goal.loop-preserved
loop-preserved c = renew_on (hb (goal.at.loop-preserved c).At-loop) c.loop.invariant c.loop-test.true c.insert.ensures

pub returns : goal.returns
returns c = renew_whole c.requires c.clear.ensures (renew_end (hb (goal.at.returns c).At-loop) c.loop.invariant c.loop-test.false)
