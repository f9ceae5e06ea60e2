-- Counting the cells that are not empty: no more than the slots that stand there.
-- Assumes nothing.
use mathlib.Core.Path.{◌≡◌, refl, sym, ap, ◌∙◌, subst}
use mathlib.Core.Bool.{Bool, true, true≢false}
use mathlib.Core.Logic.{◌≢◌, ⊎_elim}
use mathlib.Core.List.Memᴰ
use mathlib.Core.List.{List, [], ◌∷◌, ◌++◌, Memᴰ}
use Prim.Native.Nat.{ℕ, suc, ◌+◌, ◌≤◌, ◌<◌, zero-le, suc-le-suc}
use native.Mathlib.Nat.{not-suc-le-zero, le_of_suc-le-suc, suc-ne-zero, suc_inj}
use native.Mathlib.Omega.{arith}
use borrow.Author.Tests.{eq-eqb, ne_eqb}
use lib.ListN.{length, get_or, take, drop, take-append-drop}
use Rattle.head.specs.Bounds.{none_mark}
use Rattle.table.specs.Cells.{ring, past}
use Rattle.table.specs.Acts.{filled}
use Rattle.table.proofs.Ring.{bool, eq_or_ne, hit, miss}

-- one less: a list without one of its members
pub pull : (x : ℕ) (ys : List ℕ) → Memᴰ x ys → (zs : List ℕ) × (length ys ≡ suc (length zs)) × ((y : ℕ) → Memᴰ y ys → y ≢ x → Memᴰ y zs)
pull x ys (Memᴰ.head {x = a} {xs = ws} e) =
    (ws, refl, λ y h n. ⊎_elim (λ (q : y ≡ a). absurd (n (q ∙ sym e))) (λ r. r) (Memᴰ.cases_cons h))
pull x ys (Memᴰ.tail {x = a} {xs = ws} t) =
    let r = pull x ws t in
    (a ∷ r.0, ap suc r.1, λ y h n. ⊎_elim (λ (q : y ≡ a). Memᴰ.head q) (λ s. Memᴰ.tail (r.2 y s n)) (Memᴰ.cases_cons h))

pub filled_none : (x : ℕ) (xs : List ℕ) → x ≡ none_mark → filled (x ∷ xs) ≡ filled xs
unfolding filled
filled_none x xs e = rw (eq-eqb x none_mark e, filled)

pub filled_some : (x : ℕ) (xs : List ℕ) → x ≢ none_mark → filled (x ∷ xs) ≡ suc (filled xs)
unfolding filled
filled_some x xs e = rw (ne_eqb x none_mark e, filled)

pub pigeons : (xs ys : List ℕ)
    → ((p : ℕ) → p < length xs → get_or xs p 0 ≢ none_mark → Memᴰ (get_or xs p 0) ys)
    → ((p q : ℕ) → p < length xs → q < length xs → get_or xs p 0 ≢ none_mark → get_or xs p 0 ≡ get_or xs q 0 → p ≡ q)
    → filled xs ≤ length ys
unfolding filled
pigeons [] ys h o = zero-le
pigeons (x ∷ xs) ys h o =
    ⊎_elim
    (λ e. subst (λ (n : ℕ). n ≤ length ys) (sym (filled_none x xs e))
    (pigeons xs ys (λ p l. h (suc p) (suc-le-suc l)) (λ p q l k n e. suc_inj (o (suc p) (suc q) (suc-le-suc l) (suc-le-suc k) n e))))
    (λ e. let r = pull x ys (h 0 (suc-le-suc zero-le) e) in
    subst (λ (n : ℕ). n ≤ length ys) (sym (filled_some x xs e))
    (subst (λ (n : ℕ). suc (filled xs) ≤ n) (sym r.1)
    (suc-le-suc (pigeons xs r.0
    (λ p l n. r.2 (get_or xs p 0) (h (suc p) (suc-le-suc l) n) (λ q. suc-ne-zero p (o (suc p) 0 (suc-le-suc l) (suc-le-suc zero-le) n q)))
    (λ p q l k n e. suc_inj (o (suc p) (suc q) (suc-le-suc l) (suc-le-suc k) n e))))))
    (eq_or_ne x none_mark)

pub filled_append : (xs ys : List ℕ) → filled (xs ++ ys) ≡ filled xs + filled ys
unfolding filled
filled_append [] ys = omega arith
filled_append (x ∷ xs) ys =
    ⊎_elim
    (λ e. filled_none x (xs ++ ys) e ∙ filled_append xs ys ∙ ap (λ (n : ℕ). n + filled ys) (sym (filled_none x xs e)))
    (λ e. filled_some x (xs ++ ys) e ∙ omega (arith, filled_append xs ys, filled_some x xs e))
    (eq_or_ne x none_mark)

pub filled_ring : (cells : List ℕ) (m h : ℕ) → filled (ring cells m h) ≡ filled (take m cells)
unfolding ring
filled_ring cells m h =
    let c = take m cells in
    omega (arith, filled_append (drop h c) (take h c), filled_append (take h c) (drop h c), ap filled (take-append-drop h c))

-- a search passes only cells that are not empty
pub past_filled : (f : ℕ → Bool) → ((x : ℕ) → x ≡ none_mark → f x ≡ true) → (xs : List ℕ) → past f xs ≤ filled xs
unfolding past
past_filled f h [] = zero-le
past_filled f h (x ∷ xs) =
    ⊎_elim
    (λ t. omega (arith, hit f x xs t))
    (λ t. omega (arith, miss f x xs t, past_filled f h xs, filled_some x xs (λ e. true≢false (sym (h x e) ∙ t))))
    (bool (f x))

-- fewer are filled than there are: one is empty
pub gap : (xs : List ℕ) → filled xs < length xs → (e : ℕ) × (e < length xs) × (get_or xs e 0 ≡ none_mark)
gap [] h = absurd (not-suc-le-zero h)
gap (x ∷ xs) h =
    ⊎_elim
    (λ e. (0, suc-le-suc zero-le, e))
    (λ n. let r = gap xs (le_of_suc-le-suc (subst (λ (k : ℕ). k < suc (length xs)) (filled_some x xs n) h)) in (suc r.0, suc-le-suc r.1, r.2))
    (eq_or_ne x none_mark)
