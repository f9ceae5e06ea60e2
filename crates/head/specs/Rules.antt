-- The rules of `retain` by their numbers.
-- Assumes nothing.
use Rattle.std.specs.Prelude.{ℕ, false}
use Rattle.head.specs.declared.Rule.{Rule}

-- the rule that the code is in a range
abbrev pub code_rule : ℕ
code_rule = 0

-- the rule that the value is in a range
abbrev pub value_rule : ℕ
value_rule = 1

-- the rule that the stamp is at least the low bound
abbrev pub stamp_rule : ℕ
stamp_rule = 2

-- the rule that the weight is at most the high bound
abbrev pub weight_rule : ℕ
weight_rule = 3

-- a rule that is not negated
abbrev pub rule_of : ℕ → ℕ → ℕ → Rule
rule_of number low high = record { number = number; not = false; low = low; high = high }
