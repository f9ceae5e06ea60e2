-- Full cells counted without a branch: those that are full, and those whose number is a slot's. Where the two counts differ a number is no slot's.
-- Assumes nothing.
use Prim.Native.Nat.{ℕ, ◌+◌, ◌≤◌, ◌<◌}
use mathlib.Core.Bool.{true, not}
use mathlib.Core.List.{List}
use mathlib.Core.Logic.{◌≢◌, ⊎_elim}
use mathlib.Core.Path.{◌≡◌, sym, ap, ◌∙◌}
use native.Mathlib.Omega.{arith}
use Rattle.std.proofs.Common.{add-zero}
use borrow.Author.Tests.{eq-eqb, ne_eqb, lt-ltb, le-ltb}
use lib.Dec.{eqb, ltb}
use mir.Val.{bool_byte}
use lib.ListN.{length, get_or, take}
use Rattle.head.specs.Bounds.{none_mark}
use Rattle.list.proofs.Marks.{same?, under?}
use Rattle.std.specs.Prelude.{Some, None}
use Rattle.table.specs.Acts.{tallied, counts}
use Rattle.table.proofs.Tallies.{Counting, count_start, count_none, count_some, counted_all, counted_stray, tallied_here, tallied_below, counts_all, all_counts}

-- ---- the loop

-- i numbers of a list are counted, `full` of them not none, `known` of them below n: where these agree each number that is not none is known, else one is
-- no slot's
pub record Tallying (xs : List ℕ) (n full known i : ℕ) : Type 0 where
  pub full_le : full ≤ i
  pub known_le : known ≤ full
  right : known ≡ full → Counting xs n full i
  wrong : known < full → None ≡ tallied n xs

pub tally_start : (xs : List ℕ) (n : ℕ) → Tallying xs n 0 0 0
tally_start xs n = record {
  full_le = omega arith;
  known_le = omega arith;
  right = λ e. count_start xs n;
  wrong = λ l. absurd (omega arith);
}

module _ {xs : List ℕ} {n full known i : ℕ} (v : Tallying xs n full known i) where
  -- each count grows by one or by nothing, as the two tests of the number say
  pub tally_more : {a b : ℕ} → a ≡ bool_byte (not (eqb (get_or xs i 0) none_mark)) → b ≡ bool_byte (ltb (get_or xs i 0) n) → n ≤ none_mark → i < length xs → Tallying xs n (full + a) (known + b) (i + 1)
  tally_more {a} {b} p q small l =
      let x : ℕ = get_or xs i 0 in
      ⊎_elim
      (λ (e : x ≡ none_mark).
      rw (p, q, eq-eqb x none_mark e, le-ltb x n (omega arith), add-zero full, add-zero known) (record {
        full_le = omega (arith, v.full_le);
        known_le = v.known_le;
        right = λ t. count_none l (v.right t) e;
        wrong = v.wrong;
      }))
      (λ d.
      ⊎_elim
      (λ (h : x < n).
      rw (p, q, ne_eqb x none_mark d, lt-ltb x n h) (record {
        full_le = omega (arith, v.full_le);
        known_le = omega (arith, v.known_le);
        right = λ t. count_some l (v.right (omega arith)) d h;
        wrong = λ t. v.wrong (omega arith);
      }))
      (λ (h : n ≤ x).
      rw (p, q, ne_eqb x none_mark d, le-ltb x n h, add-zero known) (record {
        full_le = omega (arith, v.full_le);
        known_le = omega (arith, v.known_le);
        right = λ t. absurd (omega (arith, v.known_le));
        wrong = λ t. counted_stray xs l d h;
      }))
      (under? x n))
      (same? x none_mark)

  -- all are counted
  module _ (live : ℕ) (end : i ≡ length xs) where
    pub tally_stray : (full ≡ known → ⊥) → eqb full known ≡ counts live (tallied n xs)
    unfolding counts
    tally_stray d = ne_eqb full known d ∙ ap (counts live) (v.wrong (omega (arith, v.known_le)))

    pub tally_all : full ≡ known → eqb full live ≡ counts live (tallied n xs)
    unfolding counts
    tally_all e = ap (counts live) (counted_all end (v.right (sym e)))

-- ---- another bound

-- a count of cells with numbers below one bound is one with numbers below another, if they are below that too
pub counts_below : (m : ℕ) (cells : List ℕ) (live top n : ℕ) → m ≤ length cells → ((p : ℕ) → p < m → get_or cells p 0 ≢ none_mark → get_or cells p 0 < n)
    → counts live (tallied top (take m cells)) ≡ true → counts live (tallied n (take m cells)) ≡ true
counts_below m cells live top n wide h e =
    let b = tallied_below top m cells wide (counts_all live (tallied top (take m cells)) e) in
    all_counts live (tallied n (take m cells)) (tallied_here n m cells wide h ∙ ap (λ (k : ℕ). Some k) (sym b.0))

-- a larger bound
pub counts_wider : (m : ℕ) (cells : List ℕ) (live top n : ℕ) → m ≤ length cells → top ≤ n
    → counts live (tallied top (take m cells)) ≡ true → counts live (tallied n (take m cells)) ≡ true
counts_wider m cells live top n wide le e =
    let b = tallied_below top m cells wide (counts_all live (tallied top (take m cells)) e) in
    counts_below m cells live top n wide (λ p l d. omega (arith, b.1 p l d)) e
