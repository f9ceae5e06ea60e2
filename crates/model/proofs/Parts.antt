-- A list cut at a place: what stands before it, at it, and behind it.
-- Assumes nothing.
use Prim.Native.Nat.{ℕ, zero, suc}
use mathlib.Core.List.{List, [], ◌∷◌, ◌++◌}
use mathlib.Core.Path.{◌≡◌, refl, ap}
use lib.ListN.{take, drop}
use Rattle.model.specs.Lists.{without, only}

module _ {A : Type 0} where
  pub take_place : (n : ℕ) (xs : List A) → take (suc n) xs ≡ take n xs ++ only n xs
  take_place zero [] = refl
  take_place (suc n) [] = refl
  take_place zero (x ∷ xs) = refl
  take_place (suc n) (x ∷ xs) = ap (λ (l : List A). x ∷ l) (take_place n xs)

  pub drop_place : (n : ℕ) (xs : List A) → drop n xs ≡ only n xs ++ drop (suc n) xs
  drop_place zero [] = refl
  drop_place (suc n) [] = refl
  drop_place zero (x ∷ xs) = refl
  drop_place (suc n) (x ∷ xs) = drop_place n xs

  pub take_without : (n : ℕ) (xs : List A) → take n (without n xs) ≡ take n xs
  take_without zero [] = refl
  take_without (suc n) [] = refl
  take_without zero (x ∷ xs) = refl
  take_without (suc n) (x ∷ xs) = ap (λ (l : List A). x ∷ l) (take_without n xs)

  pub drop_without : (n : ℕ) (xs : List A) → drop n (without n xs) ≡ drop (suc n) xs
  drop_without zero [] = refl
  drop_without (suc n) [] = refl
  drop_without zero (x ∷ xs) = refl
  drop_without (suc n) (x ∷ xs) = drop_without n xs
