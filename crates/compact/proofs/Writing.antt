-- The loop that writes the links anew: what holds at its head.
-- Assumes nothing.
use Prim.Native.Nat.{ℕ, ◌+◌, ◌≤◌, ◌<◌}
use native.Mathlib.Omega.{arith}
use mathlib.Core.Path.{refl, sym, subst}
use mathlib.Core.List.{List}
use lib.ListN.{length, get_or, set, length-set}
use lib.Seq.{get_or-set_same, get_or-set_other, drop-set-lt}
use borrow.Author.Count.{below_more}
use Rattle.head.specs.Tails.{Tail}
use Rattle.list.proofs.Stores.{tail_trans}
use Rattle.compact.specs.Anew.{NextOf, PrevOf, StackOf, Filled}
use Rattle.compact.specs.Compact.{Writable, LinksWritten}

-- the first i of n numbers are as R says
pub record Begun (n : ℕ) (R : ℕ → ℕ → Type 0) (l m : List ℕ) (i : ℕ) : Type 0 where
  pub at : (j : ℕ) → j < i → R j (get_or m j 0)
  pub tail : Tail n l m

pub begun_none : (n : ℕ) (R : ℕ → ℕ → Type 0) (l : List ℕ) → Begun n R l l 0
begun_none n R l = record { at = λ j h. absurd (omega arith); tail = record { size = refl; tail = refl } }

pub begun_more : (n : ℕ) (R : ℕ → ℕ → Type 0) (l m : List ℕ) (i x : ℕ) → n ≤ length l → i < n → Begun n R l m i → R i x → Begun n R l (set m i x) (i + 1)
begun_more n R l m i x h lt b ex = record {
  at = below_more _ i
      (λ j hj. subst (R j) (sym (get_or-set_other m i j x 0 (λ e. omega arith))) (b.at j hj))
      (subst (R i) (sym (get_or-set_same m i x 0 (omega (arith, b.tail.size)))) ex);
  tail = tail_trans b.tail (record { size = length-set m i x; tail = drop-set-lt n m i x lt });
}

pub begun_all : (n : ℕ) (R : ℕ → ℕ → Type 0) (l m : List ℕ) (i : ℕ) → Begun n R l m i → n ≤ i → Filled n R l m
begun_all n R l m i b ge = record { at = λ j h. b.at j (omega arith); tail = b.tail }

-- all three lists, as far as place i
pub record Writing (n live t : ℕ) (nx₀ pv₀ st₀ nx pv st : List ℕ) (i : ℕ) : Type 0 where
  pub nexts : Begun n (NextOf live) nx₀ nx i
  pub prevs : Begun n (PrevOf live t) pv₀ pv i
  pub stacks : Begun n (StackOf live t) st₀ st i

module _ (n live t : ℕ) (nx₀ pv₀ st₀ : List ℕ) where
  pub writing_first : Writing n live t nx₀ pv₀ st₀ nx₀ pv₀ st₀ 0
  writing_first = record { nexts = begun_none n (NextOf live) nx₀; prevs = begun_none n (PrevOf live t) pv₀; stacks = begun_none n (StackOf live t) st₀ }

  pub writing_step : (nx pv st : List ℕ) (i a b c : ℕ) → Writable n live t nx₀ pv₀ st₀ → Writing n live t nx₀ pv₀ st₀ nx pv st i → i < n
      → NextOf live i a → PrevOf live t i b → StackOf live t i c → Writing n live t nx₀ pv₀ st₀ (set nx i a) (set pv i b) (set st i c) (i + 1)
  writing_step nx pv st i a b c h w lt ea eb ec = record {
    nexts = begun_more n (NextOf live) nx₀ nx i a h.nexts lt w.nexts ea;
    prevs = begun_more n (PrevOf live t) pv₀ pv i b h.prevs lt w.prevs eb;
    stacks = begun_more n (StackOf live t) st₀ st i c h.stacks lt w.stacks ec;
  }

  pub writing_last : (nx pv st : List ℕ) (i : ℕ) → Writing n live t nx₀ pv₀ st₀ nx pv st i → n ≤ i → LinksWritten n live t nx₀ pv₀ st₀ nx pv st
  writing_last nx pv st i w ge = record {
    nexts = begun_all n (NextOf live) nx₀ nx i w.nexts ge;
    prevs = begun_all n (PrevOf live t) pv₀ pv i w.prevs ge;
    stacks = begun_all n (StackOf live t) st₀ st i w.stacks ge;
  }
