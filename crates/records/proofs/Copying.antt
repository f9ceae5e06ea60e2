-- How long the records stay, and what the test of the lengths says.
-- Assumes nothing.
use Prim.Native.Nat.{ℕ, zero, suc, ◌≤◌}
use mathlib.Core.Bool.{true}
use mathlib.Core.List.{List}
use mathlib.Core.Path.{◌≡◌, refl, ◌∙◌}
use borrow.Author.Tests.{leb-true}
use lib.ListN.{length, length-set}
use Rattle.head.specs.declared.Row.{Row}
use Rattle.head.specs.Fields.{Fields}
use Rattle.model.proofs.Cases.{both}
use Rattle.store.specs.State.{entry_in}
use Rattle.records.specs.Saving.{holds, copied}

-- copying writes over records, and adds none
pub copied_length : (n : ℕ) (f : Fields) (rs : List Row) → length (copied n f rs) ≡ length rs
unfolding copied
copied_length zero f rs = refl
copied_length (suc n) f rs = length-set (copied n f rs) n (entry_in f n) ∙ copied_length n f rs

module _ (n : ℕ) (f : Fields) (rs : List Row) where
  -- the records and each list hold n rows
  pub record Enough : Type 0 where
    pub records : n ≤ length rs
    pub codes : n ≤ length f.codes
    pub stamps : n ≤ length f.stamps
    pub values : n ≤ length f.values
    pub weights : n ≤ length f.weights

  -- where the test says so
  pub enough : holds n f rs ≡ true → Enough
  enough e =
      let p = both _ _ e in
      let q = both _ _ p.0 in
      let r = both _ _ q.0 in
      let s = both _ _ r.0 in
      record {
        records = leb-true _ _ s.0;
        codes = leb-true _ _ s.1;
        stamps = leb-true _ _ r.1;
        values = leb-true _ _ q.1;
        weights = leb-true _ _ p.1;
      }
