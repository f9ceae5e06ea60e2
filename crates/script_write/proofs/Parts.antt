-- The most that a line's parts are long, and the room that is left behind each.
-- Assumes nothing.
use Prim.Native.Nat.{ℕ, ◌+◌, ◌≤◌}
use mathlib.Core.Bool.{Bool, true, false}
use mathlib.Core.List.{List, [], ◌∷◌}
use native.Mathlib.Omega.{arith}
use lib.ListN.{length, length-append}
use Rattle.script_digits.specs.declared.Text.{Text}
use Rattle.script_digits.specs.Laid.{Left, Added}
use Rattle.script_digits.specs.Decimal.{digits_of}
use Rattle.script_digits.proofs.Laying.{laid_size}
use Rattle.head.specs.declared.Row.{Row}
use Rattle.script_digits.proofs.Decimals.{digits_most}
use Rattle.script_write.specs.Lines.{field, row_word, row_line}

-- a field has at most twenty digits and its end
pub field_most : (n e : ℕ) → length (field n (e ∷ [])) ≤ 21
field_most n e = omega (arith, length-append (digits_of n) (e ∷ []), digits_most n)

-- both words of a row have four bytes
pub row_word_most : (listed : Bool) → length (row_word listed) ≤ 4
row_word_most true = omega arith
row_word_most false = omega arith

-- four fields and a word
pub row_most : (listed : Bool) (e : Row) → length (row_line (row_word listed) e) ≤ 88
row_most listed e =
    simp length-append
    (omega (arith, row_word_most listed, digits_most e.code.0, digits_most e.stamp, digits_most e.value, digits_most e.weight))

-- behind a part of at most j bytes there is room for k, where there was room for both
pub behind : {xs : List ℕ} {t u : Text} (j k : ℕ) → length xs ≤ j → Added xs t u → Left (j + k) t → Left k u
behind j k h a r = omega (arith, a.laid.next, laid_size a.laid)
