-- What a list that was cut, raised or swept still adds up to; and where an entry that was found stands.
-- Assumes nothing.
use Prim.Native.Nat.{ℕ, zero, suc, ◌+◌, ◌-◌}
use mathlib.Core.Bool.{Bool, true, false}
use mathlib.Core.List.{List, [], ◌∷◌, ◌++◌, reverse, reverse-cons}
use mathlib.Core.Path.{◌≡◌, refl, ap}
use native.Mathlib.Omega.{arith}
use lib.Dec.{eqb}
use lib.ListN.{length, take, drop, take-append-drop}
use borrow.Author.Tests.{eqb-true}
use Rattle.head.specs.declared.Row.{Row}
use Rattle.head.specs.declared.Rule.{Rule}
use Rattle.model.specs.Lists.{without, only, to_front, but_last, oldest, marked, others}
use Rattle.model.specs.Desk.{weighs, revalued, Found, absent, present, further, find, first, last, marks}
use Rattle.model.specs.Codes.{codes_of, one, count}
use Rattle.model.proofs.Cases.{split, eqb_sym}

-- a number of a list to which each element adds its own
pub record Measure (A : Type 0) : Type 0 where
  pub of : List A → ℕ
  pub each : A → ℕ
  pub none : of [] ≡ 0
  pub more : (x : A) (xs : List A) → of (x ∷ xs) ≡ each x + of xs

-- how often a code stands in a list of codes
abbrev pub times : ℕ → Measure ℕ
times x = record { of = count x; each = λ y. one (eqb x y); none = refl; more = λ y ys. refl }

-- how often a code stands in a list of entries
abbrev pub coded : ℕ → Measure Row
coded x = record { of = λ es. count x (codes_of es); each = λ e. one (eqb x e.code.0); none = refl; more = λ e es. refl }

-- how long a list is, and what entries weigh together
abbrev pub sized : {A : Type 0} → Measure A
sized = record { of = length; each = λ e. 1; none = refl; more = λ e es. omega arith }

abbrev pub weighing : Measure Row
weighing = record { of = weighs; each = λ e. e.weight; none = refl; more = λ e es. refl }

-- with `coded x`, each of these speaks of how often the code x stands in lists of entries
module _ {A : Type 0} (m : Measure A) where
  pub of_append : (xs ys : List A) → m.of (xs ++ ys) ≡ m.of xs + m.of ys
  of_append [] ys = omega (arith, m.none)
  of_append (x ∷ xs) ys = omega (arith, of_append xs ys, m.more x xs, m.more x (xs ++ ys))

  pub of_reverse : (xs : List A) → m.of (reverse xs) ≡ m.of xs
  of_reverse [] = refl
  of_reverse (x ∷ xs) =
      rw reverse-cons
      (omega (arith, of_append (reverse xs) (x ∷ []), of_reverse xs, m.more x xs, m.more x [], m.none))

  -- a list cut anywhere
  pub of_parts : (n : ℕ) (xs : List A) → m.of (take n xs) + m.of (drop n xs) ≡ m.of xs
  of_parts n xs = omega (arith, of_append (take n xs) (drop n xs), ap m.of (take-append-drop n xs))

  -- the last k cut off
  pub of_cut : (k : ℕ) (xs : List A) → m.of (but_last k xs) + m.of (oldest k xs) ≡ m.of xs
  of_cut k xs = omega (arith, of_parts (length xs - k) xs, of_reverse (drop (length xs - k) xs))

  pub of_without : (i : ℕ) (xs : List A) → m.of (without i xs) + m.of (only i xs) ≡ m.of xs
  of_without i [] = omega (arith, m.none)
  of_without zero (x ∷ xs) = omega (arith, m.more x xs, m.more x [], m.none)
  of_without (suc i) (x ∷ xs) = omega (arith, of_without i xs, m.more x xs, m.more x (without i xs))

  pub of_to_front : (i : ℕ) (xs : List A) → m.of (to_front i xs) ≡ m.of xs
  of_to_front i xs = omega (arith, of_without i xs, of_append (only i xs) (without i xs))

  -- what is marked, and the rest
  pub of_marked : (bs : List Bool) (xs : List A) → length bs ≡ length xs → m.of (marked bs xs) + m.of (marked (others bs) xs) ≡ m.of xs
  of_marked [] [] h = omega (arith, m.none)
  of_marked [] (x ∷ xs) h = absurd (omega arith)
  of_marked (b ∷ bs) [] h = absurd (omega arith)
  of_marked (true ∷ bs) (x ∷ xs) h = omega (arith, of_marked bs xs (omega arith), m.more x xs, m.more x (marked bs xs))
  of_marked (false ∷ bs) (x ∷ xs) h = omega (arith, of_marked bs xs (omega arith), m.more x xs, m.more x (marked (others bs) xs))

pub count_append : (x : ℕ) (xs ys : List ℕ) → count x (xs ++ ys) ≡ count x xs + count x ys
count_append x = of_append (times x)

pub length_marks : (q : Rule) (es : List Row) → length (marks q es) ≡ length es
length_marks q [] = refl
length_marks q (e ∷ es) = ap suc (length_marks q es)

pub codes_revalued : (i v : ℕ) (es : List Row) → codes_of (revalued i v es) ≡ codes_of es
codes_revalued i v [] = refl
codes_revalued zero v (e ∷ es) = refl
codes_revalued (suc i) v (e ∷ es) = rw (codes_revalued i v es)

-- ---- where an entry that was found stands

-- what is found in a list stands at its place there
abbrev pub Stands : List Row → Found → Type 0
Stands es absent = Unit {0}
Stands es (present i e) = only i es ≡ e ∷ []

-- what is found of a code has it, and where nothing is found the code does not stand in the list
abbrev pub Located : ℕ → List Row → Found → Type 0
Located c es absent = count c (codes_of es) ≡ 0
Located c es (present i e) = (only i es ≡ e ∷ []) × (e.code.0 ≡ c)

stands_further : (e : Row) (es : List Row) (f : Found) → Stands es f → Stands (e ∷ es) (further f)
stands_further e es absent s = tt
stands_further e es (present i f) s = s

located_further : (c : ℕ) (e : Row) (es : List Row) (f : Found) → eqb e.code.0 c ≡ false → Located c es f → Located c (e ∷ es) (further f)
located_further c e es absent n s = rw (eqb_sym c e.code.0, n) (omega arith)
located_further c e es (present i f) n s = s

pub first_stands : (es : List Row) → Stands es (first es)
first_stands [] = tt
first_stands (e ∷ es) = refl

pub last_stands : (es : List Row) → Stands es (last es)
last_stands [] = tt
last_stands (e ∷ []) = refl
last_stands (e ∷ f ∷ es) = stands_further e (f ∷ es) (last (f ∷ es)) (last_stands (f ∷ es))

pub find_located : (c : ℕ) (es : List Row) → Located c es (find c es)
find_located c [] = refl
find_located c (e ∷ es) =
    split (eqb e.code.0 c)
    (λ t. rw t (refl, eqb-true e.code.0 c t))
    (λ t. rw t (located_further c e es (find c es) t (find_located c es)))

pub find_absent : (c : ℕ) (es : List Row) → find c es ≡ absent → count c (codes_of es) ≡ 0
find_absent c es h = rw h at (find_located c es)

pub find_present : (c : ℕ) (es : List Row) {i : ℕ} {e : Row} → find c es ≡ present i e → (only i es ≡ e ∷ []) × (e.code.0 ≡ c)
find_present c es h = rw h at (find_located c es)

pub first_present : (es : List Row) {i : ℕ} {e : Row} → first es ≡ present i e → only i es ≡ e ∷ []
first_present es h = rw h at (first_stands es)

pub last_present : (es : List Row) {i : ℕ} {e : Row} → last es ≡ present i e → only i es ≡ e ∷ []
last_present es h = rw h at (last_stands es)
