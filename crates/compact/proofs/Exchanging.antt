-- A row of exchanges brings the number of each slot of an order to that slot's place.
-- Assumes nothing.
use Prim.Native.Nat.{ℕ, zero, suc, ◌+◌, ◌≤◌, ◌<◌}
use native.Mathlib.Omega.{arith}
use native.Mathlib.Nat.{zero-add}
use mathlib.Core.Path.{◌≡◌, refl, sym, ap, ◌∙◌, subst}
use mathlib.Core.Logic.{⊎_elim}
use mathlib.Core.List.{List, [], ◌∷◌}
use lib.ListN.{length, get_or, set, drop, length-set}
use lib.Seq.{get_or-set_same, get_or-set_other, drop-set-lt}
use Rattle.std.specs.List.{swap}
use Rattle.std.proofs.lemmas.List.Edits.{swap_is, length-swap}
use Rattle.model.specs.Codes.{count}
use Rattle.list.specs.Order.{ifeq}
use Rattle.head.specs.Tails.{Tail}
use Rattle.list.proofs.Marks.{same?, ifeq_same, ifeq_other, miss}
use Rattle.compact.specs.Plan.{renamed, partners, exchanges, Fit}
use Rattle.compact.specs.Compact.{Carried}
use Rattle.compact.proofs.Renaming.{length_renamed, get_or_renamed, renamed_self, count_get_or, count_new, count_else, first_fresh, first_high, first_low, fit_renamed}

-- ---- one exchange

module _ (a b : ℕ) (l : List ℕ) (ha : a < length l) (hb : b < length l) where
  as_sets : swap l a b ≡ set (set l a (get_or l b 0)) b (get_or l a 0)
  as_sets = sym (swap_is l a b 0 ha hb)

  pub swap_tail : (n : ℕ) → a < n → b < n → Tail n l (swap l a b)
  swap_tail n na nb = record {
    size = length-swap l a b;
    tail = ap (drop n) as_sets ∙ drop-set-lt n (set l a (get_or l b 0)) b (get_or l a 0) nb ∙ drop-set-lt n l a (get_or l b 0) na;
  }

  pub at_second : get_or (swap l a b) b 0 ≡ get_or l a 0
  at_second = rw as_sets (get_or-set_same (set l a (get_or l b 0)) b (get_or l a 0) 0 (simp length-set hb))

  pub at_first : get_or (swap l a b) a 0 ≡ get_or l b 0
  at_first =
      ⊎_elim
      (λ e. ap (λ (x : ℕ). get_or (swap l a b) x 0) e ∙ at_second ∙ ap (λ (x : ℕ). get_or l x 0) e)
      (λ d. rw as_sets (get_or-set_other (set l a (get_or l b 0)) b a (get_or l a 0) 0 d ∙ get_or-set_same l a (get_or l b 0) 0 ha))
      (same? a b)

  pub at_else : (u : ℕ) → (u ≡ a → ⊥) → (u ≡ b → ⊥) → get_or (swap l a b) u 0 ≡ get_or l u 0
  at_else u p q =
      rw as_sets (get_or-set_other (set l a (get_or l b 0)) b u (get_or l a 0) 0 q ∙ get_or-set_other l a u (get_or l b 0) 0 p)

  -- what stood in a slot stands in the one that took its part
  pub at_renamed : (x : ℕ) → (x ≡ b → ⊥) → get_or (swap l a b) (ifeq x a b x) 0 ≡ get_or l x 0
  at_renamed x d =
      ⊎_elim
      (λ e. rw (ifeq_same x a b x e, e) at_second)
      (λ p. rw (ifeq_other x a b x p) (at_else x p d))
      (same? x a)

-- ---- a row of them

-- the rest, from place i on, comes to its places; the slots before them and those past n stay
pub record Brought (i n : ℕ) (rest l m : List ℕ) : Type 0 where
  pub before : (u : ℕ) → u < i → get_or m u 0 ≡ get_or l u 0
  pub places : (j : ℕ) → j < length rest → get_or m (i + j) 0 ≡ get_or l (get_or rest j 0) 0
  pub blanks : ((u : ℕ) → i ≤ u → u < n → count u rest ≡ 0 → get_or l u 0 ≡ 0) → (u : ℕ) → i + length rest ≤ u → u < n → get_or m u 0 ≡ 0
  pub tail : Tail n l m

pub brought_none : (i n : ℕ) (l : List ℕ) → Brought i n [] l l
brought_none i n l = record {
  before = λ u h. refl;
  places = λ j h. absurd (omega arith);
  blanks = λ z u h k. z u (omega arith) k refl;
  tail = record { size = refl; tail = refl };
}

module _ (i n s : ℕ) (r l m : List ℕ) (f : Fit i n (s ∷ r)) (long : n ≤ length l)
    (b : Brought (suc i) n (renamed i s r) (swap l i s) m) where
  hs : s < n
  hs = first_low i n s r f

  hi : i < n
  hi = omega (arith, first_high i n s r f, hs)

  more_places : (j : ℕ) → j < length (s ∷ r) → get_or m (i + j) 0 ≡ get_or l (get_or (s ∷ r) j 0) 0
  more_places zero h =
      let e : i + 0 ≡ i = omega arith in
      rw e (b.before i (omega arith) ∙ at_first i s l (omega (arith, hi)) (omega (arith, hs)))
  more_places (suc j) h =
      let e : i + suc j ≡ suc i + j = omega arith in
      let k : j < length r = omega arith in
      rw e (b.places j (omega (arith, length_renamed i s r)) ∙ rw (get_or_renamed i s r j k)
      (at_renamed i s l (omega (arith, hi)) (omega (arith, hs)) (get_or r j 0)
      (λ q. omega (arith, subst (λ (x : ℕ). 1 ≤ count x r) q (count_get_or r j k), first_fresh i n s r f))))

  -- a slot that is blank and not i stays so, but s, which gets what i had
  still_blank : ((u : ℕ) → i ≤ u → u < n → count u (s ∷ r) ≡ 0 → get_or l u 0 ≡ 0)
      → (u : ℕ) → suc i ≤ u → u < n → count u (renamed i s r) ≡ 0 → get_or (swap l i s) u 0 ≡ 0
  still_blank z u h k c =
      ⊎_elim
      (λ e. let d : i ≡ s → ⊥ = λ q. omega arith in
      let c' : count s (renamed i s r) ≡ 0 = subst (λ (m : ℕ). count m (renamed i s r) ≡ 0) e c in
      rw e (at_second i s l (omega (arith, hi)) (omega (arith, hs))
      ∙ z i (omega arith) hi (omega (arith, miss s i (λ k. d (sym k)), count_new i s d r (first_fresh i n s r f)))))
      (λ e. let p : u ≡ i → ⊥ = λ q. omega arith in
      at_else i s l (omega (arith, hi)) (omega (arith, hs)) u p e
      ∙ z u (omega arith) k (omega (arith, miss s u (λ k. e (sym k)), absent e p)))
      (same? u s)
    where
      absent : (u ≡ s → ⊥) → (u ≡ i → ⊥) → count u r ≡ 0
      absent e p =
          ⊎_elim
          (λ q. rw (renamed_self i s r (first_fresh i n s r f) q) at c)
          (λ q. sym (count_else i s q u e p r) ∙ c)
          (same? i s)

  pub brought_more : Brought i n (s ∷ r) l m
  brought_more = record {
    before = λ u h. b.before u (omega arith)
        ∙ at_else i s l (omega (arith, hi)) (omega (arith, hs)) u (λ e. omega arith) (λ e. omega (arith, first_high i n s r f));
    places = more_places;
    blanks = λ z u h k. b.blanks (still_blank z) u (omega (arith, length_renamed i s r)) k;
    tail = record {
      size = b.tail.size ∙ length-swap l i s;
      tail = b.tail.tail ∙ (swap_tail i s l (omega (arith, hi)) (omega (arith, hs)) n hi hs).tail;
    };
  }

pub brought : (k i n : ℕ) (rest l : List ℕ) → length rest ≡ k → Fit i n rest → n ≤ length l
    → Brought i n rest l (exchanges i (partners k i rest) l)
brought zero i n [] l e f h = brought_none i n l
brought zero i n (s ∷ r) l e f h = absurd (omega arith)
brought (suc k) i n [] l e f h = absurd (omega arith)
brought (suc k) i n (s ∷ r) l e f h =
    brought_more i n s r l _ f h
    (brought k (suc i) n (renamed i s r) (swap l i s) (omega (arith, length_renamed i s r)) (fit_renamed i n s r f)
    (omega (arith, length-swap l i s)))

pub carried : (n : ℕ) (order l : List ℕ) → Fit 0 n order → n ≤ length l
    → Carried n order l (exchanges 0 (partners (length order) 0 order) l)
carried n order l f h =
    let b = brought (length order) 0 n order l refl f h in
    record {
      places = λ j k. rw (zero-add j) at (b.places j k);
      blanks = λ z u h k. b.blanks (λ v p q c. z v q c) u (omega arith) k;
      tail = b.tail;
    }

-- ---- the partners are slots, one for each place

pub partners_length : (k i : ℕ) (rest : List ℕ) → length rest ≡ k → length (partners k i rest) ≡ k
partners_length zero i rest e = refl
partners_length (suc k) i [] e = absurd (omega arith)
partners_length (suc k) i (s ∷ r) e = ap suc (partners_length k (suc i) (renamed i s r) (omega (arith, length_renamed i s r)))

pub partners_low : (k i n : ℕ) (rest : List ℕ) → length rest ≡ k → Fit i n rest → (j : ℕ) → j < k → get_or (partners k i rest) j 0 < n
partners_low zero i n rest e f j h = absurd (omega arith)
partners_low (suc k) i n [] e f j h = absurd (omega arith)
partners_low (suc k) i n (s ∷ r) e f zero h = first_low i n s r f
partners_low (suc k) i n (s ∷ r) e f (suc j) h =
    partners_low k (suc i) n (renamed i s r) (omega (arith, length_renamed i s r)) (fit_renamed i n s r f) j (omega arith)
