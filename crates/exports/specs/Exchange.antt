-- What the exported functions promise: the calls of the cache on the head and the command that the lists hold, and the lists written back.
-- Assumes nothing.
use Rattle.std.specs.Prelude.{ℕ, cond, List, Result, Ok, Err, ◌≡◌, ltb, length}
use Rattle.head.specs.declared.Head.{Head}
use Rattle.head.specs.declared.Answer.{Answer}
use Rattle.head.specs.declared.Command.{Command}
use Rattle.head.specs.Fields.{Fields}
use Rattle.head.specs.Fresh.{fresh_head}
use Rattle.head.specs.Refusals.{number_of}
use Rattle.plan.specs.States.{State, state}
use Rattle.door.specs.Served.{Calls, Tells}
use Rattle.head.specs.declared.Refusal.{Refusal}
use Rattle.opening.specs.Begun.{Opens}
use Rattle.layout.specs.Heads.{head_left}
use Rattle.layout.specs.Numbered.{numbers_of, numbers_left}

-- the kind that is opened: no kind at all where the head's list is short
abbrev pub kind_for : ℕ → ℕ → ℕ
kind_for kind room = cond (ltb room 9) 2 kind

-- 0, or the number of the refusal
abbrev pub opened_number : Result Head Refusal → ℕ
opened_number (Ok h) = 0
opened_number (Err r) = number_of r

-- the head's list after opening
abbrev pub opened_left : List ℕ → Result Head Refusal → List ℕ
opened_left l (Ok h) = head_left 0 l h
opened_left l (Err r) = l

-- opening, from the lists at entry to those at exit
pub record Opening (kind capacity slots : ℕ) (head head' codes stamps values weights nexts prevs stack cells codes' stamps' values' weights' nexts' prevs' stack' cells' : List ℕ) (r : ℕ) : Type 0 where
  pub said : Result Head Refusal
  pub opens : Opens (kind_for kind (length head)) capacity slots (state (fresh_head (kind_for kind (length head)) capacity slots) codes stamps values weights nexts prevs stack cells) (state (fresh_head (kind_for kind (length head)) capacity slots) codes' stamps' values' weights' nexts' prevs' stack' cells') said
  pub number : r ≡ opened_number said
  pub list : head' ≡ opened_left head said

-- a call that reads: its answer is the one of the cache's reader, as numbers
pub record Reading (m : Command) (s : State) (rows rows' : Fields) (answer answer' : List ℕ) (r : ℕ) : Type 0 where
  pub said : Answer
  pub tells : Tells m s rows rows' said
  pub number : r ≡ (numbers_of said).refusal
  pub list : answer' ≡ numbers_left answer (numbers_of said)

-- any call: state, rows and answer are those of the cache's call, and head and answer stand in their lists
pub record Calling (m : Command) (s : State) (codes' stamps' values' weights' nexts' prevs' stack' cells' : List ℕ) (rows rows' : Fields) (head head' answer answer' : List ℕ) (r : ℕ) : Type 0 where
  pub left : Head
  pub said : Answer
  pub calls : Calls m s (state left codes' stamps' values' weights' nexts' prevs' stack' cells') rows rows' said
  pub number : r ≡ (numbers_of said).refusal
  pub list : answer' ≡ numbers_left answer (numbers_of said)
  pub written : head' ≡ head_left r head left
