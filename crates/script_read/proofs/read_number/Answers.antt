-- `script_read::read_number` meets its contract. The invariant: the word is the digits from here on behind a value.
-- Assumes nothing.
use mathlib.Core.Path.{sym, ◌∙◌}
use native.Mathlib.Omega.{arith}
use Rattle.std.proofs.Common.{rules}
use Rattle.script_read.proofs.Reading.{number_none, number_start, number_wrong, number_wide, number_more, number_last}
use Rattle.script_read.proofs.read_number.Goals as goal

pub returns-then-is_empty : goal.returns-then-is_empty
returns-then-is_empty c = sym (number_none _ (search rules))

pub loop-byte-init : goal.loop-byte-init
loop-byte-init c = (omega arith, number_start _ (search rules))

pub returns-then-not-is_ascii_digit : goal.returns-then-not-is_ascii_digit
returns-then-not-is_ascii_digit c =
    number_wrong _ _ _ c.loop-byte.invariant.1 c.loop-byte-test.true (sym c.is_ascii_digit.ensures.value ∙ c.if-not-is_ascii_digit.true)

pub returns-in_err-checked_mul : goal.returns-in_err-checked_mul
returns-in_err-checked_mul c =
    let d = sym c.is_ascii_digit.ensures.value ∙ c.if-not-is_ascii_digit.false in
    c.from_residual.ensures ∙ number_wide _ _ _ c.loop-byte.invariant.1 c.loop-byte-test.true d (omega (arith, c.in_err-checked_mul.ensures))

pub returns-in_err-value : goal.returns-in_err-value
returns-in_err-value c =
    let d = sym c.is_ascii_digit.ensures.value ∙ c.if-not-is_ascii_digit.false in
    c.from_residual-in_err-value.ensures ∙ number_wide _ _ _ c.loop-byte.invariant.1 c.loop-byte-test.true d (omega (arith, c.in_err-value.ensures, c.in_ok-checked_mul.ensures, c.from-digit.ensures))

pub loop-byte-preserved : goal.loop-byte-preserved
loop-byte-preserved c =
    let d = sym c.is_ascii_digit.ensures.value ∙ c.if-not-is_ascii_digit.false in (
      omega (arith, c.in_ok-value.ensures),
      number_more _ _ _ c.loop-byte.invariant.1 c.loop-byte-test.true d _ (omega (arith, c.in_ok-value.ensures, c.in_ok-checked_mul.ensures, c.from-digit.ensures)),
    )

pub returns : goal.returns
returns c = number_last _ _ _ c.loop-byte.invariant.1 c.loop-byte-test.false c.loop-byte.invariant.0
