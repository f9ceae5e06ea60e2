-- The lines before the first opening that is accepted.
-- Assumes nothing.
use Rattle.std.specs.Prelude.{ℕ, Bool, true, false, List, [], ◌∷◌, Option, Some, None, ◌≡◌}
use Rattle.head.specs.declared.Answer.{Answer}
use Rattle.head.specs.declared.Answer.TheVariants.{No, Done}
use Rattle.head.specs.declared.Refusal.TheVariants.{NotOpened, Unsound, NotUnderstood}
use Rattle.script_read.specs.declared.Line.{Line}
use Rattle.script_read.specs.declared.Line.TheVariants.{Open, Call}
use Rattle.script_read.specs.Grammar.{understood}
use Rattle.script_play.specs.Playing.{Lent, Carried, InTurn}

-- whether a line is an opening
abbrev pub opens : Option Line → Bool
opens (Some (Open kind c n)) = true
opens (Some (Call m)) = false
opens None = false

-- what a line is refused with where no cache is open: an opening with 1, a call with 2, what is not understood with 8
abbrev pub refusal_of : Option Line → Answer
refusal_of (Some (Open kind c n)) = No NotOpened
refusal_of (Some (Call m)) = No Unsound
refusal_of None = No NotUnderstood

-- lines in turn, from x to z: each is refused and leaves head, lists and rows as they were, until one opens a cache or none are left
pub data Unopened : List (List ℕ) → Lent → List Answer → Lent → Type 0 where
  never : {x : Lent} → Unopened [] x [] x
  refused : {l : List ℕ} {ls : List (List ℕ)} {a : Answer} {said : List Answer} {x y z : Lent}
      → a ≡ refusal_of (understood l) → y.state ≡ x.state → y.rows ≡ x.rows
      → Unopened ls y said z
      → Unopened (l ∷ ls) x (a ∷ said) z
  opened : {l : List ℕ} {ls : List (List ℕ)} {a : Answer} {said : List Answer} {size : ℕ} {x y z : Lent}
      → a ≡ Done 0 → opens (understood l) ≡ true → Carried l x a size y
      → InTurn ls y said z
      → Unopened (l ∷ ls) x (a ∷ said) z
