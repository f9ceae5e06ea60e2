-- What opening promises, whatever the lists hold.
-- Assumes nothing.
use Rattle.std.specs.Prelude.{ℕ, Result, Ok, Err, ◌≡◌}
use Rattle.head.specs.declared.Refusal.{Refusal}
use Rattle.model.specs.Perform.{Cache, opening, refused, opened}
pub use Rattle.store.specs.Lengths.{spacious}
use Rattle.plan.specs.States.{State, Means, TailsKept}
use Rattle.head.specs.declared.Head.{Head}

-- opened, the head is fresh and the lists describe the fresh cache; refused, nothing is touched
pub record Opens (kind c n : ℕ) (s t : State) (r : Result Head Refusal) : Type 0 where
  pub opens : (x : Cache) → opening kind c n (spacious n s) ≡ opened x → (r ≡ Ok t.head) × Means t x × TailsKept s t
  pub refuses : (e : Refusal) → opening kind c n (spacious n s) ≡ refused e → (r ≡ Err e) × (t ≡ s)

-- a state with another head
abbrev pub headed : Head → State → State
headed h s = record s { head = h }

-- the head that opening leaves: the fresh one, or the one that stood
abbrev pub head_left : Head → Result Head Refusal → Head
head_left h (Ok fresh) = fresh
head_left h (Err refusal) = h
