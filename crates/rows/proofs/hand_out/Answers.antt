-- `rows::hand_out` meets its contract.
-- Assumes nothing.
use mathlib.Core.Bool.{true≢false}
use mathlib.Core.Path.{refl, sym, ◌∙◌}
use Rattle.rows.proofs.hand_out.Goals as goal

pub returns-then-keeps-clause-handed : goal.returns-then-keeps-clause-handed
returns-then-keeps-clause-handed c = record { kept = λ t. (refl, refl); gone = λ t. absurd (true≢false (sym c.if-keeps.true ∙ c.keeps.ensures ∙ t)) }

pub write-requires : goal.write-requires
write-requires c = c.requires.room (sym c.keeps.ensures ∙ c.if-keeps.false)

pub returns-clause-handed : goal.returns-clause-handed
returns-clause-handed c =
    record {
      kept = λ t. absurd (true≢false (sym (c.keeps.ensures ∙ t) ∙ c.if-keeps.false));
      gone = λ t. (refl, c.write.ensures.wrote);
    }
