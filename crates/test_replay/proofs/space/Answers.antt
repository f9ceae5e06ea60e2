-- The length of a repetition, without counting it out.
use Prim.Native.Nat.{ℕ}
use mathlib.Core.Path.{◌≡◌, sym}
use lib.ListN.{length, replicate, length-replicate}
use Rattle.test_replay.proofs.space.Goals as goal

repeated : (n a : ℕ) → n ≡ length (replicate n a)
repeated n a = sym (length-replicate n a)

pub returns : goal.returns
returns c = repeated 1400000 0
