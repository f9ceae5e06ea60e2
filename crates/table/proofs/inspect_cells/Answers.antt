-- `table::inspect_cells` meets its contract: as many cells are filled as slots are live, and each live slot stands.
-- Assumes nothing.
use mathlib.Core.Path.{◌≡◌, sym, ◌∙◌}
use Prim.Native.Nat.{ℕ, ◌*◌, ◌<◌}
use native.Mathlib.Omega.{arith}
use lib.ListN.{length, take}
use Rattle.std.specs.Prelude.{Some}
use Rattle.crc.specs.Home.{home_of}
use Rattle.crc.proofs.Homes.{home_lt}
use Rattle.head.specs.Walks.{walk}
use Rattle.head.proofs.Walking.{walk_length}
use Rattle.table.specs.Acts.{tallied}
use Rattle.table.proofs.Checked.{tallied_open, inspect_count, inspect_passed, inspect_rest}
use Rattle.table.proofs.inspect_cells.Goals as goal
use Rattle.table.proofs.inspect_cells.Goals.{Start, Then-as_many}

hb : (c : Start) (k : ℕ) → home_of c.args.n k < 2 * c.args.n
hb c k =
    home_lt (omega (arith, c.requires.room)) k

-- as many cells are full as slots are live
many : (c : Then-as_many) → tallied (length c.args.codes.now) (take (2 * c.args.n) c.args.cells.now) ≡ Some (length (walk c.args.next.now c.args.front.0 c.args.live))
many c =
    inspect_passed (home_lt (omega (arith, c.requires.room))) c.requires (walk_length _ _ _) (sym c.as_many.ensures ∙ c.if-as_many.true)

pub all_stand-requires-clause-search_ends : goal.all_stand-requires-clause-search_ends
all_stand-requires-clause-search_ends c = tallied_open (hb (goal.at.all_stand-requires-clause-search_ends c).Start) c.requires (many (goal.at.all_stand-requires-clause-search_ends c).Then-as_many)

pub returns-then-as_many : goal.returns-then-as_many
returns-then-as_many c = inspect_rest (hb (goal.at.returns-then-as_many c).Start) c.requires (many (goal.at.returns-then-as_many c).Then-as_many) c.all_stand.ensures

pub returns-else-as_many : goal.returns-else-as_many
returns-else-as_many c = inspect_count (hb (goal.at.returns-else-as_many c).Start) c.requires (walk_length _ _ _) c.as_many.ensures c.if-as_many.false
