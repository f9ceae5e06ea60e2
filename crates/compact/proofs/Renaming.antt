-- A list of slots in which one slot took another's part: its slots, their places, and a store that does it.
-- Assumes nothing.
use Prim.Native.Nat.{ℕ, zero, suc, ◌+◌, ◌≤◌, ◌<◌}
use native.Mathlib.Omega.{arith}
use mathlib.Core.Path.{◌≡◌, refl, sym, ap, ◌∙◌, subst}
use mathlib.Core.Logic.{⊎_elim}
use mathlib.Core.List.{List, [], ◌∷◌, ◌++◌}
use lib.ListN.{length, get_or, length-append}
use lib.Seq.{set_at, append_snoc}
use borrow.Author.Tests.{lt-ltb, le-ltb}
use Rattle.head.specs.Bounds.{none_mark}
use Rattle.model.specs.Codes.{count}
use Rattle.list.specs.Order.{ifeq, place_at}
use Rattle.list.specs.Steps.{put_at}
use Rattle.list.proofs.Marks.{same?, ifeq_same, ifeq_other, ifeq_by, hit, miss}
use Rattle.compact.specs.Plan.{renamed, Fit}

pub length_renamed : (a s : ℕ) (r : List ℕ) → length (renamed a s r) ≡ length r
length_renamed a s [] = refl
length_renamed a s (x ∷ r) = ap suc (length_renamed a s r)

pub get_or_renamed : (a s : ℕ) (r : List ℕ) (k : ℕ) → k < length r → get_or (renamed a s r) k 0 ≡ ifeq (get_or r k 0) a s (get_or r k 0)
get_or_renamed a s [] k h = absurd (omega arith)
get_or_renamed a s (x ∷ r) zero h = refl
get_or_renamed a s (x ∷ r) (suc k) h = get_or_renamed a s r k (omega arith)

pub renamed_absent : (a s : ℕ) (r : List ℕ) → count a r ≡ 0 → renamed a s r ≡ r
renamed_absent a s [] z = refl
renamed_absent a s (x ∷ r) z =
    let n : x ≡ a → ⊥ = λ e. omega (arith, hit x a e) in
    rw (ifeq_other x a s x n, renamed_absent a s r (omega arith)) refl

pub count_get_or : (l : List ℕ) (k : ℕ) → k < length l → 1 ≤ count (get_or l k 0) l
count_get_or [] k h = absurd (omega arith)
count_get_or (x ∷ l) zero h = omega (arith, hit x x refl)
count_get_or (x ∷ l) (suc k) h = omega (arith, count_get_or l k (omega arith))

-- s stands where a stood, a nowhere, any other slot where it stood
module _ (a s : ℕ) (n : a ≡ s → ⊥) where
  pub count_new : (r : List ℕ) → count s r ≡ 0 → count s (renamed a s r) ≡ count a r
  count_new [] z = refl
  count_new (y ∷ r) z =
      ⊎_elim
      (λ e. rw (ifeq_same y a s y e) (omega (arith, count_new r (omega arith), hit s s refl, hit y a e)))
      (λ d. rw (ifeq_other y a s y d) (omega (arith, count_new r (omega arith), miss y a d)))
      (same? y a)

  pub count_old : (r : List ℕ) → count a (renamed a s r) ≡ 0
  count_old [] = refl
  count_old (y ∷ r) =
      ⊎_elim
      (λ e. rw (ifeq_same y a s y e) (omega (arith, count_old r, miss s a (λ k. n (sym k)))))
      (λ d. rw (ifeq_other y a s y d) (omega (arith, count_old r, miss y a d)))
      (same? y a)

  pub count_else : (x : ℕ) → (x ≡ s → ⊥) → (x ≡ a → ⊥) → (r : List ℕ) → count x (renamed a s r) ≡ count x r
  count_else x p q [] = refl
  count_else x p q (y ∷ r) =
      ⊎_elim
      (λ e. rw (ifeq_same y a s y e) (omega (arith, count_else x p q r, miss s x (λ k. p (sym k)), miss y x (λ k. q (sym k ∙ e)))))
      (λ d. rw (ifeq_other y a s y d) (omega (arith, count_else x p q r)))
      (same? y a)

-- where a takes its own part nothing changes
pub renamed_self : (a s : ℕ) (r : List ℕ) → count s r ≡ 0 → a ≡ s → renamed a s r ≡ r
renamed_self a s r z e = renamed_absent a s r (rw e z)

-- once the first slot of the rest stands in i, the rest stands from i + 1 on
module _ (i n s : ℕ) (r : List ℕ) (f : Fit i n (s ∷ r)) where
  pub first_fresh : count s r ≡ 0
  first_fresh = omega (arith, f.once s, hit s s refl)

  pub first_high : i ≤ s
  first_high = f.high s (omega (arith, hit s s refl))

  pub first_low : s < n
  first_low = f.low s (omega (arith, hit s s refl))

  stays : i ≡ s → Fit (suc i) n r
  stays e = record {
    high = λ x c. ⊎_elim
        (λ q. absurd (omega (arith, subst (λ (m : ℕ). count m r ≡ 0) q (rw e first_fresh))))
        (λ q. omega (arith, f.high x (omega arith)))
        (same? i x);
    low = λ x c. f.low x (omega arith);
    once = λ x. omega (arith, f.once x);
  }

  moves : (i ≡ s → ⊥) → Fit (suc i) n (renamed i s r)
  moves d = record {
    high = λ x c. case x
        (λ e. omega (arith, first_high))
        (λ e. absurd (omega (arith, gone x e)))
        (λ p q. omega (arith, f.high x (omega (arith, count_else i s d x p q r))));
    low = λ x c. case x
        (λ e. omega (arith, first_low))
        (λ e. absurd (omega (arith, gone x e)))
        (λ p q. f.low x (omega (arith, count_else i s d x p q r)));
    once = λ x. case x
        (λ e. subst (λ (m : ℕ). count m (renamed i s r) ≤ 1) (sym e) (omega (arith, count_new i s d r first_fresh, f.once i)))
        (λ e. omega (arith, gone x e))
        (λ p q. omega (arith, count_else i s d x p q r, f.once x));
  }
    where
      case : {P : Type 0} (x : ℕ) → (x ≡ s → P) → (x ≡ i → P) → ((x ≡ s → ⊥) → (x ≡ i → ⊥) → P) → P
      case x a b c = ⊎_elim a (λ p. ⊎_elim b (λ q. c p q) (same? x i)) (same? x s)

      gone : (x : ℕ) → x ≡ i → count x (renamed i s r) ≡ 0
      gone x e = subst (λ (m : ℕ). count m (renamed i s r) ≡ 0) (sym e) (count_old i s d r)

  pub fit_renamed : Fit (suc i) n (renamed i s r)
  fit_renamed = ⊎_elim (λ e. rw (renamed_self i s r first_fresh e) (stays e)) (λ d. moves d) (same? i s)

-- ---- places

-- s has the place that a had
pub place_renamed : (k a s x : ℕ) → (x ≡ a → ⊥) → (r : List ℕ) → count s r ≡ 0
    → place_at k (renamed a s r) x ≡ ifeq s x (place_at k r a) (place_at k r x)
place_renamed k a s x n [] z = sym (ifeq_by s x _ _ _ (λ e. refl) (λ d. refl))
place_renamed k a s x n (y ∷ r) z =
    let ih = place_renamed (suc k) a s x n r (omega arith) in
    let not_s : s ≡ y → ⊥ = λ e. omega (arith, hit y s (sym e)) in
    ⊎_elim
    (λ e. rw (ifeq_same y a s y e) (⊎_elim
    (λ q. ifeq_same s x _ _ q ∙ sym (ifeq_same y a _ _ e) ∙ sym (ifeq_same s x _ _ q))
    (λ q. ifeq_other s x _ _ q ∙ ih ∙ ifeq_other s x _ _ q ∙ sym (ifeq_other y x _ _ (λ w. n (sym w ∙ e))) ∙ sym (ifeq_other s x _ _ q))
    (same? s x)))
    (λ d. rw (ifeq_other y a s y d) (⊎_elim
    (λ q. ifeq_other y x _ _ (λ w. not_s (q ∙ sym w)) ∙ ih ∙ ifeq_same s x _ _ q ∙ sym (ifeq_other y a _ _ d) ∙ sym (ifeq_same s x _ _ q))
    (λ q. ap (ifeq y x k) (ih ∙ ifeq_other s x _ _ q) ∙ sym (ifeq_other s x _ _ q))
    (same? s x)))
    (same? y a)

-- a store at a's place puts s there; where a has no place, nothing is stored
pub put_renamed : (n a s : ℕ) → n ≤ none_mark → (r pre post : List ℕ) (k : ℕ) → length pre ≡ k → count a r ≤ 1 → k + length r ≡ n
    → put_at n (pre ++ (r ++ post)) (place_at k r a) s ≡ pre ++ (renamed a s r ++ post)
unfolding put_at
put_renamed n a s h [] pre post k l c e = rw (le-ltb none_mark n h) refl
put_renamed n a s h (x ∷ r) pre post k l c e =
    ⊎_elim
    (λ q. rw (ifeq_same x a k (place_at (suc k) r a) q, ifeq_same x a s x q, renamed_absent a s r (omega (arith, hit x a q)), lt-ltb k n (omega arith)) (set_at pre x (r ++ post) s k l))
    (λ d. rw (ifeq_other x a k (place_at (suc k) r a) d, ifeq_other x a s x d)
    (rw (append_snoc pre x (r ++ post), append_snoc pre x (renamed a s r ++ post)) at
    (put_renamed n a s h r (pre ++ x ∷ []) post (suc k) (omega (arith, length-append pre (x ∷ []))) (omega (arith, miss x a d)) (omega arith))))
    (same? x a)
