-- Runs of cells that are not empty.
-- Assumes nothing.
use mathlib.Core.Path.{◌≡◌, sym, ap, ◌∙◌}
use mathlib.Core.Logic.{◌≢◌}
use mathlib.Core.List.{List}
use Prim.Native.Nat.{ℕ}
use lib.ListN.{get_or}
use Rattle.head.specs.Bounds.{none_mark}
use Rattle.table.specs.Cells.{cell_after}
use Rattle.table.specs.Sound.{Run, here, over}

-- a run goes on over its last cell, if that one is not empty
pub run_more : {cells : List ℕ} {m j i : ℕ} → Run cells m j i → get_or cells j 0 ≢ none_mark → Run cells m (cell_after m j) i
run_more {cells} {m} {j} (here {i = i} e) n = over (λ z. n (ap (λ (x : ℕ). get_or cells x 0) (sym e) ∙ z)) (here (ap (cell_after m) e))
run_more (over k r) n = over k (run_more r n)

-- a run that is not at its end goes by the next cell
pub run_tail : {cells : List ℕ} {m j i : ℕ} → Run cells m j i → i ≢ j → Run cells m j (cell_after m i)
run_tail (here e) n = absurd (n e)
run_tail (over k r) n = r

-- a run from an empty cell is at its end
pub run_stop : {cells : List ℕ} {m j i : ℕ} → Run cells m j i → get_or cells i 0 ≡ none_mark → i ≡ j
run_stop (here e) z = e
run_stop (over k r) z = absurd (k z)

-- a run stays a run in a table that has no more empty cells
pub run_keep : {cells cells' : List ℕ} {m j i : ℕ} → ((p : ℕ) → get_or cells p 0 ≢ none_mark → get_or cells' p 0 ≢ none_mark) → Run cells m j i → Run cells' m j i
run_keep h (here e) = here e
run_keep h (over {i = i} k r) = over (h i k) (run_keep h r)
