-- `crc::home` meets its contract.
-- Assumes nothing.
use mathlib.Core.Path.{ap}
use Prim.Native.Nat.{ℕ, ◌*◌, ◌%◌}
use Rattle.crc.specs.Home.{home_of}
use Rattle.crc.proofs.home.Goals as goal

pub returns : goal.returns
unfolding home_of
returns c = ap (λ (k : ℕ). k % (2 * c.args.n)) c.crc32.ensures
