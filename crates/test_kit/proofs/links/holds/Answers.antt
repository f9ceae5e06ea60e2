-- The inspection passed, and the slot is one of the list's.
use Rattle.std.proofs.Common.{◌∙◌, rules}
use Rattle.list.proofs.Walks.{held_used}
use Rattle.test_kit.proofs.links.holds.Goals as goal

pub returns-clause-held : goal.returns-clause-held
returns-clause-held c = λ h. held_used _ (c.is_sound.ensures.sound c.if-not-is_sound.false) c.if-head-slot.false (λ e. let f = c.at.ensures ∙ e in search rules)
