-- The table is sound, and the search found a live slot in its cell.
use Prim.Native.Nat.{ℕ, ◌<◌}
use mathlib.Core.Path.{sym, ◌∙◌}
use native.Mathlib.Omega.{arith}
use Rattle.crc.specs.Home.{home_of}
use Rattle.crc.proofs.Homes.{home_lt}
use Rattle.table.proofs.Answers.{found_holding, found_answer}
use Rattle.test_table.proofs.Table.take.Goals as goal

hb : (k : ℕ) → home_of 16 k < 32
hb k = home_lt (omega arith) k

pub remove-requires : goal.remove-requires
remove-requires c = (found_holding hb (c.is_sound.ensures.ready c.if-not-is_sound.false).sound _ (sym c.look.ensures ∙ c.in-Found.is)).0

pub remove_slot-requires : goal.remove_slot-requires
remove_slot-requires c =
    let r = c.is_sound.ensures.ready c.if-not-is_sound.false in record { order = _; sound = r.sound; live = (found_answer hb r.sound (sym c.look.ensures ∙ c.in-Found.is)).0 }
