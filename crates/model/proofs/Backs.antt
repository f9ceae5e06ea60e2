-- The back of a list: what `but_last` and `oldest` do to a list that ends in x, and that each list with anything in it does end so.
-- Assumes nothing.
use Prim.Native.Nat.{ℕ, suc, ◌-◌, ◌≤◌}
use mathlib.Core.List.{List, [], ◌∷◌, ◌++◌, reverse-append}
use mathlib.Core.Path.{◌≡◌, refl, sym, ap, ◌∙◌, subst}
use native.Mathlib.Omega.{arith}
use native.Mathlib.Numerals.{add-one}
use lib.ListN.{length, drop, length-append, length-reverse, length-drop}
use lib.Seq.{take-append-le, drop-append-le, take-length, drop-length, length-take-le}
use Rattle.model.specs.Lists.{without, only, but_last, oldest}

pub length_but_last : {A : Type 0} (k : ℕ) (xs : List A) → length (but_last k xs) ≡ length xs - k
length_but_last k xs = length-take-le (length xs - k) xs (omega arith)

pub length_oldest : {A : Type 0} (k : ℕ) (xs : List A) → length (oldest k xs) ≤ k
length_oldest k xs = omega (arith, length-reverse (drop (length xs - k) xs), length-drop (length xs - k) xs)

length_back : {A : Type 0} (xs : List A) (x : A) → length (xs ++ (x ∷ [])) ≡ suc (length xs)
length_back xs x = length-append xs (x ∷ []) ∙ add-one (length xs)

-- one fewer of a list that ends in x
pub but_last_back : {A : Type 0} (k : ℕ) (xs : List A) (x : A) → but_last (suc k) (xs ++ (x ∷ [])) ≡ but_last k xs
but_last_back k xs x =
    let n : length (xs ++ (x ∷ [])) - suc k ≡ length xs - k = omega (arith, length_back xs x) in
    rw n (take-append-le (length xs - k) xs (x ∷ []) (omega arith))

-- x leaves first
pub oldest_back : {A : Type 0} (k : ℕ) (xs : List A) (x : A) → oldest (suc k) (xs ++ (x ∷ [])) ≡ x ∷ oldest k xs
oldest_back k xs x =
    let n : length (xs ++ (x ∷ [])) - suc k ≡ length xs - k = omega (arith, length_back xs x) in
    rw (n, drop-append-le (length xs - k) xs (x ∷ []) (omega arith)) (reverse-append (drop (length xs - k) xs) (x ∷ []))

-- none leave
pub but_last_none : {A : Type 0} (xs : List A) → but_last 0 xs ≡ xs
but_last_none xs = let n : length xs - 0 ≡ length xs = omega arith in rw n (take-length xs)

pub oldest_none : {A : Type 0} (xs : List A) → oldest 0 xs ≡ []
oldest_none xs = let n : length xs - 0 ≡ length xs = omega arith in rw (n, drop-length xs)

-- x stands at the last place
pub only_back : {A : Type 0} (xs : List A) (x : A) → only (length xs) (xs ++ (x ∷ [])) ≡ x ∷ []
only_back [] x = refl
only_back (y ∷ xs) x = only_back xs x

-- a list with anything in it ends in something
pub record Back {A : Type 0} (es : List A) : Type 0 where
  pub front : List A
  pub back : A
  pub same : es ≡ front ++ (back ∷ [])

pub back_of : {A : Type 0} (es : List A) → 1 ≤ length es → Back es
back_of [] h = absurd (omega arith)
back_of (x ∷ []) h = record { front = []; back = x; same = refl }
back_of (x ∷ y ∷ es) h =
    let r = back_of (y ∷ es) (omega arith) in
    record { front = x ∷ r.front; back = r.back; same = ap (λ (l : List _). x ∷ l) r.same }

-- without its last place
pub without_back : {A : Type 0} (xs : List A) (x : A) → without (length xs) (xs ++ (x ∷ [])) ≡ xs
without_back [] x = refl
without_back (y ∷ xs) x = ap (λ (l : List _). y ∷ l) (without_back xs x)

-- one leaves from the back, then k: as k + 1 at once
pub but_last_more : {A : Type 0} (k : ℕ) (xs : List A) → 1 ≤ length xs → but_last (suc k) xs ≡ but_last k (without (length xs - 1) xs)
but_last_more {A} k xs h = by (back_of xs h)
  where
    by : Back xs → but_last (suc k) xs ≡ but_last k (without (length xs - 1) xs)
    by b =
        subst (λ (l : List A). but_last (suc k) l ≡ but_last k (without (length l - 1) l)) (sym b.same)
        (let n : length (b.front ++ (b.back ∷ [])) - 1 ≡ length b.front = omega (arith, length_back b.front b.back) in
        rw (n, without_back b.front b.back) (but_last_back k b.front b.back))

pub oldest_more : {A : Type 0} (k : ℕ) (xs : List A) → 1 ≤ length xs
    → oldest (suc k) xs ≡ only (length xs - 1) xs ++ oldest k (without (length xs - 1) xs)
oldest_more {A} k xs h = by (back_of xs h)
  where
    by : Back xs → oldest (suc k) xs ≡ only (length xs - 1) xs ++ oldest k (without (length xs - 1) xs)
    by b =
        subst (λ (l : List A). oldest (suc k) l ≡ only (length l - 1) l ++ oldest k (without (length l - 1) l)) (sym b.same)
        (let n : length (b.front ++ (b.back ∷ [])) - 1 ≡ length b.front = omega (arith, length_back b.front b.back) in
        rw (n, without_back b.front b.back, only_back b.front b.back) (oldest_back k b.front b.back))
