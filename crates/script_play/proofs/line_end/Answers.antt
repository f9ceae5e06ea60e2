-- `script_play::line_end` meets its contract: the line ends at the first newline, or with the input.
-- Assumes nothing.
use Prim.Native.Nat.{ℕ, ◌+◌, ◌-◌}
use mathlib.Core.Path.{◌≡◌, ap, ◌∙◌}
use lib.ListN.{length, take, drop}
use Rattle.std.proofs.Common.{rules, tests}
use Rattle.std.specs.List.{position}
use Rattle.std.specs.Prelude.{Option}
use Rattle.std.specs.Option.{unwrap_or}
use Rattle.std.proofs.lemmas.Iterator.{YieldsList-from_slice}
use Rattle.std.proofs.lemmas.Iterator.Search.{position_from_yields_List}
use Rattle.script_play.specs.Cutting.{line_length}
use Rattle.script_play.proofs.Cut.{is_newline, length_found, part_is}
use Rattle.script_play.proofs.line_end.Goals as goal

pub returns : goal.returns
returns c =
    let part = take (c.args.n - c.args.from) (drop c.args.from c.args.input.now) in
    let found : c.position-newline.result ≡ position is_newline part =
    position_from_yields_List is_newline _ _ _ c.position-newline.ensures.ran (YieldsList-from_slice _ c.iter.ensures.rest) (λ x b q k. search (rules, tests)) in
    ap (λ (k : ℕ). c.args.from + k)
    (c.unwrap_or.ensures
    ∙ ap (λ (r : Option ℕ). unwrap_or r (length part)) found
    ∙ length_found part
    ∙ ap line_length (part_is c.args.input.now c.args.from c.args.n c.requires.0))
