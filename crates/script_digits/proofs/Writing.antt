-- The digits of a number, laid or added: those in front of its last digit, which are the digits of a tenth of it or none, and then its last digit.
-- Assumes nothing.
use Prim.Native.Nat.{ℕ, ◌+◌, ◌/◌, ◌%◌, ◌≤◌, ◌<◌}
use mathlib.Core.Bool.{cond}
use mathlib.Core.List.{List, [], ◌∷◌, ◌++◌}
use mathlib.Core.Path.{◌≡◌, sym, ap, ◌∙◌, subst}
use native.Mathlib.Nat.{mod-eq_of_lt}
use native.Mathlib.Omega.{arith}
use lib.Dec.{ltb}
use lib.ListN.{length, length-append}
use borrow.Author.Tests.{ltb-true, ltb-false, lt-ltb, le-ltb}
use Rattle.script_digits.specs.Decimal.{digit_byte, digits_of}
use Rattle.script_digits.specs.declared.Text.{Text}
use Rattle.script_digits.specs.Laid.{Room, Laid, Added}
use Rattle.script_digits.proofs.Laying.{laid_none, laid_size, laid_then, added_none}
use Rattle.script_digits.proofs.Decimals.{split, digits_one, digits_more}

-- the digits in front of the last one
abbrev pub front : ℕ → List ℕ
front n = cond (ltb n 10) [] (digits_of (n / 10))

parts : (n : ℕ) → n < 18446744073709551616 → digits_of n ≡ front n ++ (digit_byte (n % 10) ∷ [])
parts n f =
    split (ltb n 10)
    (λ e. let h : n < 10 = ltb-true n 10 e in rw e (digits_one n h ∙ ap (λ (d : ℕ). digit_byte d ∷ []) (sym (mod-eq_of_lt h))))
    (λ e. rw e (digits_more n (ltb-false n 10 e) f))

-- ---- laid into a buffer

module _ {n at m : ℕ} {b c : List ℕ} where
  pub laid_front_none : n < 10 → at ≤ length b → m ≡ at → c ≡ b → Laid at (front n) m b c
  laid_front_none h r p e = rw (lt-ltb n 10 h, p, e) (laid_none at b r)

  pub laid_front_some : {r : ℕ} {d : List ℕ} → 10 ≤ n → Laid at (digits_of (n / 10)) r b d → m ≡ r → c ≡ d → Laid at (front n) m b c
  laid_front_some h a p e = rw (le-ltb n 10 h, p, e) a

  module _ (f : n < 18446744073709551616) (a : Laid at (front n) m b c) where
    -- there is room for the last digit
    pub laid_last_room : Room at (digits_of n) b → m < length c
    laid_last_room r = omega (arith, a.next, laid_size a, ap length (parts n f), length-append (front n) (digit_byte (n % 10) ∷ []))

    pub laid_wrote : {r : ℕ} {d : List ℕ} → Laid m (digit_byte (n % 10) ∷ []) r c d → Laid at (digits_of n) r b d
    laid_wrote {r} {d} k = subst (λ (xs : List ℕ). Laid at xs r b d) (sym (parts n f)) (laid_then a k)

-- ---- added to a text

module _ {n : ℕ} {t u : Text} where
  pub front_none : n < 10 → t.end ≤ length t.buffer.now → u ≡ t → Added (front n) t u
  front_none h r e = rw (lt-ltb n 10 h, e) (added_none r)

  pub front_some : {v : Text} → 10 ≤ n → Added (digits_of (n / 10)) t v → u ≡ v → Added (front n) t u
  front_some h a e = rw (le-ltb n 10 h, e) a

  module _ (f : n < 18446744073709551616) (a : Added (front n) t u) where
    -- there is room for the last digit
    pub last_room : Room t.end (digits_of n) t.buffer.now → u.end + 1 ≤ length u.buffer.now
    last_room r = omega (arith, laid_last_room f a.laid r)

    pub wrote : {v : Text} → Added (digit_byte (n % 10) ∷ []) u v → Added (digits_of n) t v
    wrote {v} b = record { list = b.list ∙ a.list; laid = laid_wrote f a.laid b.laid }
