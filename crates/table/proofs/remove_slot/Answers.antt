-- `table::remove_slot` meets its contract: the search for a live slot's code ends at the slot.
-- Assumes nothing.
use mathlib.Core.Path.{◌≡◌, sym, subst}
use Prim.Native.Nat.{ℕ, ◌*◌, ◌<◌}
use native.Mathlib.Omega.{arith}
use lib.ListN.{get_or}
use Rattle.crc.specs.Home.{home_of}
use Rattle.crc.proofs.Homes.{home_lt}
use Rattle.table.specs.Acts.{Holding, TakenOut}
use Rattle.table.proofs.Found.{sound_open}
use Rattle.table.proofs.Answers.{live_full, live_holding}
use Rattle.table.proofs.remove_slot.Goals as goal
use Rattle.table.proofs.remove_slot.Goals.{In-Found, Start}

hb : (c : Start) (k : ℕ) → home_of c.args.n k < 2 * c.args.n
hb c k =
    home_lt (omega (arith, c.requires.sound.room)) k

-- the cell that the search found holds the slot
held : (c : In-Found)
    → Holding (home_of c.args.n) (2 * c.args.n) c.args.cells.now c.args.codes.now c.in-Found.cell
    × (get_or c.args.cells.now c.in-Found.cell 0 ≡ c.args.slot.0)
held c =
    live_holding (home_lt (omega (arith, c.requires.sound.room))) c.requires.sound c.requires.live (sym c.in-Found.ensures)

pub look-requires : goal.look-requires
look-requires c = sound_open c.requires.sound

pub returns-in_default : goal.returns-in_default
returns-in_default c = absurd (live_full (hb (goal.at.returns-in_default c).Start) c.requires.sound c.requires.live (sym c.in_default.ensures))

pub remove-requires : goal.remove-requires
remove-requires c = (held (goal.at.remove-requires c).In-Found).0

pub returns : goal.returns
returns c = subst (λ (s : ℕ). TakenOut (home_of c.args.n) (2 * c.args.n) c.args.codes.now s c.args.cells.now c.remove.new.cells) (held (goal.at.returns c).In-Found).1 c.remove.ensures
