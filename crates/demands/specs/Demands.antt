-- The demands of document 01, each a statement about every run of the public calls from opening.
-- Assumes nothing.
use Rattle.std.specs.Prelude.{ℕ, ◌+◌, ◌-◌, ◌*◌, ◌≤◌, true, ◌||◌, List, [], ◌∷◌, ◌++◌, ◌≡◌}
use Rattle.head.specs.Bounds.{plain_kind}
use Rattle.model.specs.Codes.{Rearranged}
use Rattle.model.specs.Desk.{kind_of, weighs}
use Rattle.model.specs.Perform.{Cache, Outcome, fresh, perform}
use Rattle.model.specs.Runs.{Sort, plain_put, other_put, getting, looking, pop_code, pop_end, trimming, clearing, another, sort_of, Word, word_of, is_new, is_value, brought}
use Rattle.rows.specs.Written.{Written}
use Rattle.plan.specs.States.{State, Means, TailsKept, Alike}
use Rattle.demands.specs.Runs.{Asked, Made, lent, ending, asks, Day}
use Rattle.demands.specs.Views.{slots_in, entries_in, stack_in, codes_in}
use Rattle.demands.specs.Counts.{accepted, departed, Requests, new_answers, Keeps}

-- ---- demand 2

-- what the definitions say of a call on a cache
abbrev pub outcome : Asked → Cache → Outcome
outcome q c = perform q.command (lent q) c

-- a call on the state s gave what the definitions say of the cache c: answer, rows, the order with its numbers, weight, slots and stack, and all else that a state means
pub record Told (s : State) (a : Made) (c : Cache) : Type 0 where
  pub answer : a.answer ≡ (outcome a.asked c).answer
  pub rows : Written (outcome a.asked c).rows a.asked.rows a.rows
  pub order : entries_in a.left ≡ (outcome a.asked c).left.desk.entries
  pub weight : a.left.head.weight ≡ weighs (outcome a.asked c).left.desk.entries
  pub slots : slots_in a.left ≡ (outcome a.asked c).left.slots.order
  pub stack : stack_in a.left ≡ (outcome a.asked c).left.slots.free
  pub means : Means a.left (outcome a.asked c).left
  pub tails : TailsKept s a.left

-- so it is at each call of a run
abbrev pub AsDefined : State → Cache → List Made → Type 0
AsDefined s c [] = Unit {0}
AsDefined s c (a ∷ as') = Told s a c × AsDefined a.left (outcome a.asked c).left as'

-- demand 2, read off: whatever is called from opening on, each call gives what the definitions say
abbrev pub ReadOff : Type 0
ReadOff = (kind c n : ℕ) (d : Day kind c n) → AsDefined d.begun (fresh (kind_of kind) c n) d.calls

-- two runs gave the same answers, rows and states, cells excepted, call by call
abbrev pub AllAlike : List Made → List Made → Type 0
AllAlike [] [] = Unit {0}
AllAlike [] (b ∷ bs) = ⊥
AllAlike (a ∷ as') [] = ⊥
AllAlike (a ∷ as') (b ∷ bs) = (b.answer ≡ a.answer) × (b.rows ≡ a.rows) × Alike a.left b.left × AllAlike as' bs

-- two runs that open the same lists with the same numbers and ask the same calls give the same
abbrev pub Settled : Type 0
Settled = (kind c n : ℕ) (d e : Day kind c n) → e.lists ≡ d.lists → asks e.calls ≡ asks d.calls → Alike d.begun e.begun × AllAlike d.calls e.calls

-- ---- demand 3

-- beside any keeper with H places that starts empty, (C - H + 1) times our "new" answers are at most C times the codes that it brought in
abbrev pub Beside : Type 0
Beside =
    (C N H : ℕ) → 1 ≤ H → H ≤ C → C ≤ N → (d : Day plain_kind C N) → Requests d.calls → (os : List (List ℕ)) → Keeps H d.calls os
    → (C - H + 1) * new_answers d.calls ≤ C * brought [] os

-- a `put` is answered "new" or with the value it replaced; of other sorts nothing is said
abbrev pub Taken : Sort → Word → Type 0
Taken (plain_put c) w = is_new w || is_value w ≡ true
Taken (other_put c) w = Unit {0}
Taken (getting c) w = Unit {0}
Taken looking w = Unit {0}
Taken (pop_code c) w = Unit {0}
Taken pop_end w = Unit {0}
Taken trimming w = Unit {0}
Taken clearing w = Unit {0}
Taken another w = Unit {0}

-- so is every `put` of a run
abbrev pub AllTaken : List Made → Type 0
AllTaken [] = Unit {0}
AllTaken (a ∷ as') = Taken (sort_of a.asked.command) (word_of a.answer) × AllTaken as'

-- no `put` of such a run is refused
abbrev pub NoneRefused : Type 0
NoneRefused = (C N : ℕ) → C ≤ N → (d : Day plain_kind C N) → Requests d.calls → AllTaken d.calls

-- ---- the tally

-- the codes accepted as "new" in a run from opening are those live now together with those pushed out, popped, swept and cleared, each as often
abbrev pub Tallied : Type 0
Tallied = (kind c n : ℕ) (d : Day kind c n) → Rearranged (accepted d.calls) (codes_in (ending d.begun d.calls) ++ departed d.begun d.calls)

-- ---- all of them, of one day

-- what the demands say of one day: each call as defined, the tally, and on a plain cache the bound beside any keeper and no put refused
pub record Held {kind c n : ℕ} (d : Day kind c n) : Type 0 where
  pub defined : AsDefined d.begun (fresh (kind_of kind) c n) d.calls
  pub tallied : Rearranged (accepted d.calls) (codes_in (ending d.begun d.calls) ++ departed d.begun d.calls)
  pub beside : kind ≡ plain_kind → (H : ℕ) → 1 ≤ H → H ≤ c → c ≤ n → Requests d.calls → (os : List (List ℕ)) → Keeps H d.calls os
      → (c - H + 1) * new_answers d.calls ≤ c * brought [] os
  pub taken : kind ≡ plain_kind → c ≤ n → Requests d.calls → AllTaken d.calls
