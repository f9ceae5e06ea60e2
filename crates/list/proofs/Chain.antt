-- An order's links, slot by slot: where a slot stands, where none does, and when a slot is taken out or put in front.
-- Assumes nothing.
use Prim.Native.Nat.{ℕ, suc, ◌+◌, ◌≤◌}
use native.Mathlib.Omega.{arith}
use mathlib.Core.Path.{◌≡◌, refl, sym, ap, ◌∙◌, subst}
use mathlib.Core.Logic.{⊎_elim}
use mathlib.Core.List.{List, [], ◌∷◌, ◌++◌}
use lib.ListN.{length}
use Rattle.head.specs.Bounds.{none_mark, unused_mark}
use Rattle.model.specs.Codes.{count}
use Rattle.model.proofs.Counting.{count_append}
use Rattle.list.specs.Order.{ifeq, head_or, last_or, next_at, prev_at, place_at}
use Rattle.list.proofs.Marks.{same?, hit, miss, ifeq_same, ifeq_other, ifeq_by}

-- ---- the ends of a list

pub count_last : (x : ℕ) (a : List ℕ) → 1 ≤ count (last_or x a) (x ∷ a)
count_last x [] = omega (arith, hit x x refl)
count_last x (y ∷ a) = omega (arith, count_last y a)

-- neither end of a list is a number that is not in it
pub not_head : (i : ℕ) (b : List ℕ) → (none_mark ≡ i → ⊥) → count i b ≡ 0 → head_or none_mark b ≡ i → ⊥
not_head i [] n z e = n e
not_head i (y ∷ b) n z e = omega (arith, hit y i e)

pub not_last : (i : ℕ) (a : List ℕ) → (none_mark ≡ i → ⊥) → count i a ≡ 0 → last_or none_mark a ≡ i → ⊥
not_last i [] n z e = n e
not_last i (x ∷ a) n z e =
    let k : 1 ≤ count i (x ∷ a) = subst (λ (m : ℕ). 1 ≤ count m (x ∷ a)) e (count_last x a) in
    omega arith

pub last_append : (p : ℕ) (a b : List ℕ) → last_or p (a ++ b) ≡ last_or (last_or p a) b
last_append p [] b = refl
last_append p (x ∷ a) b = last_append x a b

-- ---- what stands at a slot

pub next_at_lem : (a : List ℕ) (s : ℕ) (b : List ℕ) → count s a ≡ 0 → next_at (a ++ s ∷ b) s ≡ head_or none_mark b
next_at_lem [] s b z = ifeq_same s s _ _ refl
next_at_lem (x ∷ a) s b z =
    ifeq_by x s _ _ _ (λ e. absurd (omega (arith, hit x s e))) (λ d. next_at_lem a s b (omega arith))

pub prev_at_lem : (p : ℕ) (a : List ℕ) (s : ℕ) (b : List ℕ) (d : ℕ) → count s a ≡ 0 → prev_at p (a ++ s ∷ b) s d ≡ last_or p a
prev_at_lem p [] s b d z = ifeq_same s s _ _ refl
prev_at_lem p (x ∷ a) s b d z =
    ifeq_by x s _ _ _ (λ e. absurd (omega (arith, hit x s e))) (λ h. prev_at_lem x a s b d (omega arith))

pub place_at_lem : (k : ℕ) (a : List ℕ) (x : ℕ) (b : List ℕ) → count x a ≡ 0 → place_at k (a ++ x ∷ b) x ≡ k + length a
place_at_lem k [] x b z = ifeq_same x x _ _ refl ∙ omega arith
place_at_lem k (y ∷ a) x b z =
    ifeq_by y x _ _ _ (λ e. absurd (omega (arith, hit y x e))) (λ d. omega (arith, place_at_lem (suc k) a x b (omega arith)))

pub next_absent : (l : List ℕ) (i : ℕ) → count i l ≡ 0 → next_at l i ≡ unused_mark
next_absent [] i z = refl
next_absent (x ∷ l) i z =
    ifeq_by x i _ _ _ (λ e. absurd (omega (arith, hit x i e))) (λ h. next_absent l i (omega arith))

pub prev_absent : (p : ℕ) (l : List ℕ) (i d : ℕ) → count i l ≡ 0 → prev_at p l i d ≡ d
prev_absent p [] i d z = refl
prev_absent p (x ∷ l) i d z =
    ifeq_by x i _ _ _ (λ e. absurd (omega (arith, hit x i e))) (λ h. prev_absent x l i d (omega arith))

pub place_absent : (k : ℕ) (f : List ℕ) (i : ℕ) → count i f ≡ 0 → place_at k f i ≡ none_mark
place_absent k [] i z = refl
place_absent k (x ∷ f) i z =
    ifeq_by x i _ _ _ (λ e. absurd (omega (arith, hit x i e))) (λ d. place_absent (suc k) f i (omega arith))

-- ---- a slot is taken out of the order

pub next_unlink : (a : List ℕ) (s : ℕ) (b : List ℕ) (i : ℕ) → (s ≡ i → ⊥) → (none_mark ≡ i → ⊥) → count i (a ++ s ∷ b) ≤ 1
    → ifeq (last_or none_mark a) i (head_or none_mark b) (next_at (a ++ s ∷ b) i) ≡ next_at (a ++ b) i
next_unlink [] s b i hs hn c = ifeq_other none_mark i _ _ hn ∙ ifeq_other s i _ _ hs
next_unlink (x ∷ []) s b i hs hn c =
    ⊎_elim
    (λ e. ifeq_same x i _ _ e ∙ sym (ifeq_same x i _ _ e))
    (λ d. ifeq_other x i _ _ d ∙ ifeq_other x i _ _ d ∙ ifeq_other s i _ _ hs ∙ sym (ifeq_other x i _ _ d))
    (same? x i)
next_unlink (x ∷ y ∷ a) s b i hs hn c =
    ⊎_elim
    (λ e. ifeq_other (last_or y a) i _ _ (λ q. twice e q) ∙ ifeq_same x i _ _ e ∙ sym (ifeq_same x i _ _ e))
    (λ d. ap (ifeq (last_or y a) i (head_or none_mark b)) (ifeq_other x i _ _ d)
    ∙ next_unlink (y ∷ a) s b i hs hn (omega (arith, miss x i d)) ∙ sym (ifeq_other x i _ _ d))
    (same? x i)
  where
    twice : x ≡ i → last_or y a ≡ i → ⊥
    twice e q =
        let k : 1 ≤ count i (y ∷ a) = subst (λ (m : ℕ). 1 ≤ count m (y ∷ a)) q (count_last y a) in
        omega (arith, hit x i e, count_append i (y ∷ a) (s ∷ b))

pub prev_unlink : (p : ℕ) (a : List ℕ) (s : ℕ) (b : List ℕ) (i d : ℕ) → (s ≡ i → ⊥) → (none_mark ≡ i → ⊥) → count i (a ++ s ∷ b) ≤ 1
    → ifeq (head_or none_mark b) i (last_or p a) (prev_at p (a ++ s ∷ b) i d) ≡ prev_at p (a ++ b) i d
prev_unlink p [] s [] i d hs hn c = ifeq_other none_mark i _ _ hn ∙ ifeq_other s i _ _ hs
prev_unlink p [] s (y ∷ b) i d hs hn c =
    ⊎_elim
    (λ e. ifeq_same y i _ _ e ∙ sym (ifeq_same y i _ _ e))
    (λ h. ifeq_other y i _ _ h ∙ ifeq_other s i _ _ hs ∙ ifeq_other y i _ _ h ∙ sym (ifeq_other y i _ _ h))
    (same? y i)
prev_unlink p (x ∷ a) s b i d hs hn c =
    ⊎_elim
    (λ e. ifeq_other (head_or none_mark b) i _ _
    (not_head i b hn (omega (arith, hit x i e, count_append i a (s ∷ b))))
    ∙ ifeq_same x i _ _ e ∙ sym (ifeq_same x i _ _ e))
    (λ h. ap (ifeq (head_or none_mark b) i (last_or x a)) (ifeq_other x i _ _ h)
    ∙ prev_unlink x a s b i d hs hn (omega (arith, miss x i h)) ∙ sym (ifeq_other x i _ _ h))
    (same? x i)

-- ---- a slot is put in front

pub prev_front : (o : List ℕ) (s i d : ℕ) → (none_mark ≡ i → ⊥) → ifeq (head_or none_mark o) i s (prev_at none_mark o i d) ≡ prev_at s o i d
prev_front [] s i d hn = ifeq_other none_mark i _ _ hn
prev_front (y ∷ o) s i d hn =
    ⊎_elim
    (λ e. ifeq_same y i _ _ e ∙ sym (ifeq_same y i _ _ e))
    (λ h. ifeq_other y i _ _ h ∙ ifeq_other y i _ _ h ∙ sym (ifeq_other y i _ _ h))
    (same? y i)
