-- A list taken over element by element: what was cut, raised or swept before is so after.
-- Assumes nothing.
use Prim.Native.Nat.{ℕ, zero, suc, ◌-◌}
use mathlib.Core.Bool.{Bool, true, false}
use mathlib.Core.List.{List, [], ◌∷◌, ◌++◌, reverse, reverse-cons}
use mathlib.Core.Path.{◌≡◌, refl, ap, ◌∙◌}
use lib.ListN.{length, take, drop}
use Rattle.head.specs.declared.Row.{Row}
use Rattle.model.specs.Lists.{without, only, to_front, but_last, oldest, marked}
use Rattle.model.specs.Codes.{codes_of}

-- a list of B for each list of A, element by element
pub record Mapping (A B : Type 0) : Type 0 where
  pub of : List A → List B
  pub each : A → B
  pub none : of [] ≡ []
  pub more : (x : A) (xs : List A) → of (x ∷ xs) ≡ each x ∷ of xs

-- the codes of entries
abbrev pub coding : Mapping Row ℕ
coding = record { of = codes_of; each = λ e. e.code.0; none = refl; more = λ e es. refl }

module _ {A B : Type 0} (m : Mapping A B) where
  pub map_length : (xs : List A) → length (m.of xs) ≡ length xs
  map_length [] = rw m.none
  map_length (x ∷ xs) = rw (m.more x xs) (ap suc (map_length xs))

  pub map_append : (xs ys : List A) → m.of (xs ++ ys) ≡ m.of xs ++ m.of ys
  map_append [] ys = rw m.none
  map_append (x ∷ xs) ys = rw (m.more x xs, m.more x (xs ++ ys), map_append xs ys)

  pub map_reverse : (xs : List A) → m.of (reverse xs) ≡ reverse (m.of xs)
  map_reverse [] = rw m.none
  map_reverse (x ∷ xs) =
      rw (reverse-cons x xs, map_append (reverse xs) (x ∷ []), m.more x [], m.none, m.more x xs, map_reverse xs, reverse-cons (m.each x) (m.of xs))

  pub map_take : (n : ℕ) (xs : List A) → m.of (take n xs) ≡ take n (m.of xs)
  map_take zero xs = m.none
  map_take (suc n) [] = rw m.none
  map_take (suc n) (x ∷ xs) = rw (m.more x (take n xs), m.more x xs, map_take n xs)

  pub map_drop : (n : ℕ) (xs : List A) → m.of (drop n xs) ≡ drop n (m.of xs)
  map_drop zero xs = refl
  map_drop (suc n) [] = rw m.none
  map_drop (suc n) (x ∷ xs) = rw (m.more x xs) (map_drop n xs)

  pub map_without : (i : ℕ) (xs : List A) → m.of (without i xs) ≡ without i (m.of xs)
  map_without i [] = rw m.none
  map_without zero (x ∷ xs) = rw (m.more x xs)
  map_without (suc i) (x ∷ xs) = rw (m.more x (without i xs), m.more x xs, map_without i xs)

  pub map_only : (i : ℕ) (xs : List A) → m.of (only i xs) ≡ only i (m.of xs)
  map_only i [] = rw m.none
  map_only zero (x ∷ xs) = rw (m.more x [], m.none, m.more x xs)
  map_only (suc i) (x ∷ xs) = rw (m.more x xs) (map_only i xs)

  pub map_to_front : (i : ℕ) (xs : List A) → m.of (to_front i xs) ≡ to_front i (m.of xs)
  map_to_front i xs = rw (map_append (only i xs) (without i xs), map_only i xs, map_without i xs)

  pub map_but_last : (k : ℕ) (xs : List A) → m.of (but_last k xs) ≡ but_last k (m.of xs)
  map_but_last k xs = rw (map_length xs) (map_take (length xs - k) xs)

  pub map_oldest : (k : ℕ) (xs : List A) → m.of (oldest k xs) ≡ oldest k (m.of xs)
  map_oldest k xs = rw (map_length xs) (map_reverse (drop (length xs - k) xs) ∙ ap reverse (map_drop (length xs - k) xs))

  pub map_marked : (bs : List Bool) (xs : List A) → m.of (marked bs xs) ≡ marked bs (m.of xs)
  map_marked [] xs = m.none
  map_marked (b ∷ bs) [] = rw m.none
  map_marked (true ∷ bs) (x ∷ xs) = rw (m.more x (marked bs xs), m.more x xs, map_marked bs xs)
  map_marked (false ∷ bs) (x ∷ xs) = rw (m.more x xs) (map_marked bs xs)
