-- The input is cut into its lines: going on from 0 by `line_end` and `next_line` meets each of them, in order, and nothing else.
-- Assumes nothing.
use Prim.Native.Nat.{ℕ, zero, suc, ◌+◌, ◌-◌, ◌≤◌, ◌<◌}
use mathlib.Core.Bool.{Bool, true, false, cond}
use mathlib.Core.List.{List, [], ◌∷◌, ◌++◌}
use mathlib.Core.Logic.{◌⊎◌, inl, inr, ⊎_elim}
use mathlib.Core.Path.{◌≡◌, refl, sym, ap, ◌∙◌}
use native.Mathlib.Nat.{zero-add, suc-add}
use native.Mathlib.Numerals.{add-one}
use native.Mathlib.Omega.{arith}
use lib.Dec.{eqb, ltb}
use lib.ListN.{length, take, drop}
use lib.Seq.{slice, length-slice, take-take, drop-drop, take-nil, drop-nil}
use borrow.Author.Tests.{eqb-true, ltb-false}
use Rattle.std.specs.List.{position, position_or_len}
use Rattle.std.specs.Option.{unwrap_or}
use Rattle.std.proofs.lemmas.List.{drop-take}
use Rattle.std.proofs.lemmas.List.Recursion.{is_position_or_len}
use Rattle.std.proofs.lemmas.List.Sums.{prefix_len-le-length}
use Rattle.script_read.specs.Words.{in_front}
use Rattle.script_play.specs.Cutting.{newline, lines_of, ended, line_length, line_end, next_line}

split : {P : Type 0} (b : Bool) → (b ≡ true → P) → (b ≡ false → P) → P
split true f g = f refl
split false f g = g refl

-- ---- the first line, and the lines past it

line_most : (bs : List ℕ) → line_length bs ≤ length bs
unfolding line_length
line_most [] = omega arith
line_most (b ∷ bs) = split (eqb b newline) (λ e. rw e (omega arith)) (λ e. rw e (omega (arith, line_most bs)))

first_line : (b : ℕ) (bs : List ℕ) → lines_of (b ∷ bs) ≡ take (line_length (b ∷ bs)) (b ∷ bs) ∷ lines_of (drop (suc (line_length (b ∷ bs))) (b ∷ bs))
unfolding lines_of line_length
first_line b [] = split (eqb b newline) (λ e. rw e) (λ e. rw e)
first_line b (x ∷ xs) = split (eqb b newline) (λ e. rw e) (λ e. rw (e, first_line x xs))

lines_past : (bs : List ℕ) → lines_of (drop (suc (line_length bs)) bs) ≡ drop 1 (lines_of bs)
unfolding lines_of
lines_past [] = refl
lines_past (b ∷ bs) = sym (ap (λ (ls : List (List ℕ)). drop 1 ls) (first_line b bs))

first_here : (bs : List ℕ) → 0 < length bs → lines_of bs ≡ take (line_length bs) bs ∷ drop 1 (lines_of bs)
first_here [] h = absurd (omega arith)
first_here (b ∷ bs) h = first_line b bs ∙ ap (λ (ls : List (List ℕ)). take (line_length (b ∷ bs)) (b ∷ bs) ∷ ls) (lines_past (b ∷ bs))

slice_past : (a n : ℕ) (l : List ℕ) → n ≤ a → slice a n l ≡ []
slice_past a zero l h = drop-nil a
slice_past zero (suc n) l h = absurd (omega arith)
slice_past (suc a) (suc n) [] h = refl
slice_past (suc a) (suc n) (x ∷ xs) h = slice_past a n xs (omega arith)

-- what lies from a on, up to m bytes of it
take_slice : (a m n : ℕ) (l : List ℕ) → a + m ≤ n → take m (slice a n l) ≡ slice a (a + m) l
take_slice zero m n l h = take-take m n l (omega arith) ∙ ap (λ (k : ℕ). take k l) (sym (zero-add m))
take_slice (suc a) m zero l h = absurd (omega arith)
take_slice (suc a) m (suc n) [] h = take-nil m ∙ ap (λ (k : ℕ). drop (suc a) (take k [])) (sym (suc-add a m))
take_slice (suc a) m (suc n) (x ∷ xs) h = take_slice a m n xs (omega arith) ∙ ap (λ (k : ℕ). drop (suc a) (take k (x ∷ xs))) (sym (suc-add a m))

-- a part of a list, as a slice gives it
pub part_is : (l : List ℕ) (a z : ℕ) → a ≤ z → take (z - a) (drop a l) ≡ slice a z l
part_is l a z h =
    let e : a + (z - a) ≡ z = omega arith in
    sym (drop-take a (z - a) l) ∙ ap (λ (k : ℕ). drop a (take k l)) e

-- ---- the lines with their newlines

front_ended : (b x : ℕ) (xs : List ℕ) → ended (in_front b (lines_of (x ∷ xs))) ≡ b ∷ ended (lines_of (x ∷ xs))
unfolding ended
front_ended b x xs = rw (first_line x xs)

consed : {xs ys zs : List ℕ} (b : ℕ) → (xs ≡ ys) ⊎ (xs ≡ zs) → (b ∷ xs ≡ b ∷ ys) ⊎ (b ∷ xs ≡ b ∷ zs)
consed b = ⊎_elim (λ p. inl (ap (λ (l : List ℕ). b ∷ l) p)) (λ p. inr (ap (λ (l : List ℕ). b ∷ l) p))

-- they are the bytes, with one newline more where the last line lacks it
pub covered : (bs : List ℕ) → (ended (lines_of bs) ≡ bs) ⊎ (ended (lines_of bs) ≡ bs ++ (newline ∷ []))
unfolding lines_of ended
covered [] = inl refl
covered (b ∷ []) = split (eqb b newline) (λ e. let q : b ≡ newline = eqb-true b newline e in rw q (inl refl)) (λ e. rw e (inr refl))
covered (b ∷ (x ∷ xs)) =
    split (eqb b newline)
    (λ e. let q : b ≡ newline = eqb-true b newline e in rw q (consed newline (covered (x ∷ xs))))
    (λ e. rw (e, front_ended b x xs) (consed b (covered (x ∷ xs))))

-- ---- where a line ends

module _ (input : List ℕ) (n : ℕ) where
  pub ends_inside : n ≤ length input → (at : ℕ) → at ≤ n → line_end input at n ≤ n
  ends_inside k at h = omega (arith, line_most (slice at n input), length-slice at n input k)

-- whether a byte ends a line
abbrev pub is_newline : ℕ → Bool
is_newline b = eqb b newline

none_long : line_length [] ≡ 0
unfolding line_length
none_long = refl

later_long : (b : ℕ) (bs : List ℕ) → line_length (b ∷ bs) ≡ cond (is_newline b) 0 (1 + line_length bs)
unfolding line_length
later_long b bs = ap (λ (n : ℕ). cond (is_newline b) 0 n) (omega arith)

-- a line is as long as the place of its newline says, or as what is left
pub length_found : (bs : List ℕ) → unwrap_or (position is_newline bs) (length bs) ≡ line_length bs
length_found bs =
    let e = is_position_or_len line_length is_newline none_long later_long bs in
    let most : position_or_len is_newline bs ≤ length bs = prefix_len-le-length _ bs in
    split (ltb (position_or_len is_newline bs) (length bs))
    (λ t. rw (t, e))
    (λ t. rw t (omega (arith, ltb-false (position_or_len is_newline bs) (length bs) t)))

-- ---- going on from line to line

-- where line k begins, going on from 0 line by line
abbrev pub line_start : List ℕ → ℕ → ℕ → ℕ
line_start input n zero = 0
line_start input n (suc k) = next_line true (line_end input (line_start input n k) n) n

module _ (input : List ℕ) (n : ℕ) where
  starts : (k : ℕ) → lines_of (slice (line_start input n k) n input) ≡ drop k (lines_of (take n input))
  starts zero = refl
  starts (suc k) =
      let a = line_start input n k in
      let s = slice a n input in
      let e : a + line_length s + 1 ≡ a + suc (line_length s) = omega arith in
      ap (λ (i : ℕ). lines_of (drop i (take n input))) e
      ∙ ap lines_of (sym (drop-drop (suc (line_length s)) a (take n input)))
      ∙ lines_past s
      ∙ ap (λ (ls : List (List ℕ)). drop 1 ls) (starts k)
      ∙ drop-drop 1 k (lines_of (take n input))
      ∙ ap (λ (i : ℕ). drop i (lines_of (take n input))) (add-one k)

  -- where bytes are left, line k is what lies from its start to its end
  pub line_here : (k : ℕ) → n ≤ length input → line_start input n k < n
      → drop k (lines_of (take n input)) ≡ slice (line_start input n k) (line_end input (line_start input n k) n) input ∷ drop (suc k) (lines_of (take n input))
  line_here k h l =
      let a = line_start input n k in
      let inside = ends_inside input n h a (omega arith) in
      sym (starts k)
      ∙ first_here (slice a n input) (omega (arith, length-slice a n input h))
      ∙ rw (take_slice a (line_length (slice a n input)) n input inside, starts k, drop-drop 1 k (lines_of (take n input)), add-one k)

  -- where none are left, there is no line k
  pub none_left : (k : ℕ) → n ≤ line_start input n k → drop k (lines_of (take n input)) ≡ []
  unfolding lines_of
  none_left k h = sym (starts k) ∙ rw (slice_past (line_start input n k) n input h)
