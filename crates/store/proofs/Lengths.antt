-- The test of the lists' lengths, as facts.
-- Assumes nothing.
use Prim.Native.Nat.{ℕ, ◌*◌}
use mathlib.Core.Bool.{true}
use mathlib.Core.List.{List}
use mathlib.Core.Path.{◌≡◌}
use lib.Dec.{leb}
use lib.ListN.{length}
use borrow.Author.Tests.{leb-true, le-leb}
use Rattle.head.specs.Fields.{Fields}
use Rattle.model.proofs.Cases.{both}
use Rattle.list.proofs.Walked.{and_in}
use Rattle.store.specs.Lengths.{all_long, AllReach}

module _ (n : ℕ) (f : Fields) (nx pv st cells : List ℕ) where
  pub all_reach : all_long n f nx pv st cells ≡ true → AllReach n f nx pv st cells
  all_reach t =
      let a = both (leb n (length f.codes)) _ t in
      let b = both (leb n (length f.stamps)) _ a.1 in
      let c = both (leb n (length f.values)) _ b.1 in
      let d = both (leb n (length f.weights)) _ c.1 in
      let e = both (leb n (length nx)) _ d.1 in
      let g = both (leb n (length pv)) _ e.1 in
      let h = both (leb n (length st)) _ g.1 in
      record {
        reach = record {
          codes = leb-true n (length f.codes) a.0;
          stamps = leb-true n (length f.stamps) b.0;
          values = leb-true n (length f.values) c.0;
          weights = leb-true n (length f.weights) d.0;
        };
        nexts = leb-true n (length nx) e.0;
        prevs = leb-true n (length pv) g.0;
        stacks = leb-true n (length st) h.0;
        table = leb-true (2 * n) (length cells) h.1;
      }

  pub reach_all : AllReach n f nx pv st cells → all_long n f nx pv st cells ≡ true
  reach_all r =
      and_in _ _ (le-leb n (length f.codes) r.reach.codes)
      (and_in _ _ (le-leb n (length f.stamps) r.reach.stamps)
      (and_in _ _ (le-leb n (length f.values) r.reach.values)
      (and_in _ _ (le-leb n (length f.weights) r.reach.weights)
      (and_in _ _ (le-leb n (length nx) r.nexts)
      (and_in _ _ (le-leb n (length pv) r.prevs)
      (and_in _ _ (le-leb n (length st) r.stacks) (le-leb (2 * n) (length cells) r.table)))))))
