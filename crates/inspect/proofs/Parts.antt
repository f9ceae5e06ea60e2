-- The stack tested in two parts, up to its depth and past it: the same test as place by place.
-- Assumes nothing.
use Prim.Native.Nat.{ℕ, ◌-◌, ◌≤◌, ◌<◌}
use mathlib.Core.Bool.{Bool, true, false}
use mathlib.Core.List.{List}
use mathlib.Core.Logic.{⊎_elim}
use mathlib.Core.Path.{◌≡◌, sym, ◌∙◌}
use native.Mathlib.Omega.{arith}
use borrow.Author.Tests.{le-ltb}
use Rattle.head.specs.Bounds.{none_mark}
use Rattle.model.proofs.Cases.{split}
use Rattle.list.specs.Inspect.{all_from, cell_ok}
use Rattle.list.proofs.Marks.{under?}
use Rattle.list.proofs.Walked.{all_at, all_of}
use Rattle.inspect.specs.Tests.{is_at}

module _ (nx pv st : List ℕ) (depth top n : ℕ) (le : depth ≤ n) where
  abbrev cell : ℕ → Bool
  cell = cell_ok nx pv st depth top

  -- past the depth a place must hold none
  high : (k : ℕ) → depth ≤ k → cell k ≡ is_at none_mark st k
  unfolding cell_ok is_at
  high k h = rw (le-ltb k depth h)

  -- the first part fails
  pub low_fails : {b : Bool} → b ≡ all_from depth 0 cell → b ≡ false → false ≡ all_from n 0 cell
  low_fails {b} q e =
      split (all_from n 0 cell)
      (λ t. sym e ∙ q ∙ all_of depth 0 cell (λ j lo hi. all_at n 0 cell t j lo (omega arith)) ∙ sym t)
      (λ t. sym t)

  -- it passes, and the second decides
  pub high_decides : {b r : Bool} → b ≡ all_from depth 0 cell → b ≡ true → r ≡ all_from (n - depth) depth (is_at none_mark st) → r ≡ all_from n 0 cell
  high_decides {b} {r} q e p =
      let low : all_from depth 0 cell ≡ true = sym q ∙ e in
      split r
      (λ t.
      t ∙ sym (all_of n 0 cell (λ j lo hi.
      ⊎_elim
      (λ (l : j < depth). all_at depth 0 cell low j lo (omega arith))
      (λ (g : depth ≤ j). high j g ∙ all_at (n - depth) depth (is_at none_mark st) (sym p ∙ t) j g (omega arith))
      (under? j depth))))
      (λ t.
      split (all_from n 0 cell)
      (λ y. p ∙ all_of (n - depth) depth (is_at none_mark st) (λ j lo hi. sym (high j lo) ∙ all_at n 0 cell y j (omega arith) (omega arith)) ∙ sym y)
      (λ y. t ∙ sym y))
