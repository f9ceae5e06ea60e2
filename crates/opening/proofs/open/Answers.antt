-- `opening::open` meets its contract.
-- Assumes nothing.
use mathlib.Core.Path.{refl, sym, ap, ◌∙◌}
use Rattle.head.specs.Fresh.{fresh_head}
use Rattle.state.specs.State.{lent}
use Rattle.store.specs.Lengths.{spacious}
use Rattle.opening.specs.Begun.{headed}
use Rattle.opening.proofs.Beginning.{opens_not_allowed, opens_too_short, fresh_spacious, opens_fresh}
use Rattle.opening.proofs.open.Goals as goal
use Rattle.opening.proofs.open.Goals.{then-not-allows-via-then-not-allows, then-not-allows-via-else-not-allows+then-not-has_room}

pub returns-then-not-allows-clause-opens : goal.returns-then-not-allows-clause-opens
returns-then-not-allows-clause-opens c =
    elim c.then-not-allows.branch [
      | then-not-allows-via-then-not-allows w ↦ opens_not_allowed _ _ _ _ c.allows.ensures w.if-not-allows.true
      | then-not-allows-via-else-not-allows+then-not-has_room w ↦ opens_too_short _ _ _ _ (w.has_room.ensures ∙ ap (spacious c.args.slots) c.view-view.ensures) w.if-not-has_room.true
    ]

pub empty-requires : goal.empty-requires
empty-requires c =
    fresh_spacious c.args.kind c.args.capacity c.args.slots (lent c.args.state.now) (sym c.allows.ensures ∙ c.if-not-allows.false)
    (sym (c.has_room.ensures ∙ ap (spacious c.args.slots) c.view-view.ensures) ∙ c.if-not-has_room.false) c.fresh-state.ensures

pub returns-clause-opens : goal.returns-clause-opens
returns-clause-opens c =
    let fresh = fresh_head c.args.kind c.args.capacity c.args.slots in
    opens_fresh c.args.kind c.args.capacity c.args.slots (headed fresh (lent c.args.state.now)) (sym c.allows.ensures ∙ c.if-not-allows.false)
    (sym (c.has_room.ensures ∙ ap (spacious c.args.slots) c.view-view.ensures) ∙ c.if-not-has_room.false)
    (headed fresh (lent c.empty.new.state)) c.fresh-state.ensures refl refl c.empty.ensures.emptied
