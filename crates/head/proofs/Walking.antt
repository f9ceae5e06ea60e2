-- How long a walk is.
-- Assumes nothing.
use Prim.Native.Nat.{ℕ, zero, suc}
use mathlib.Core.List.{List}
use mathlib.Core.Path.{◌≡◌, refl, ap}
use lib.ListN.{length, get_or}
use Rattle.head.specs.Walks.{walk}

pub walk_length : (next : List ℕ) (cur k : ℕ) → length (walk next cur k) ≡ k
unfolding walk
walk_length next cur zero = refl
walk_length next cur (suc k) = ap suc (walk_length next (get_or next cur 0) k)
