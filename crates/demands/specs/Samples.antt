-- A cache and a run given by their numbers: plain, C = 2, N = 2, one row lent.
-- Assumes nothing.
use Rattle.std.specs.Prelude.{ℕ, false, List, [], ◌∷◌}
use Rattle.head.specs.declared.Code.{Code}
use Rattle.head.specs.declared.Answer.{Answer}
use Rattle.head.specs.declared.Answer.TheVariants.{New, Is, Absent, Flag}
use Rattle.head.specs.declared.Command.{Command}
use Rattle.head.specs.declared.Command.TheVariants.{Peek, Contains, Get, Put}
use Rattle.head.specs.Bounds.{plain_kind, none_mark, unused_mark}
use Rattle.head.specs.Fields.{Fields}
use Rattle.head.specs.Fresh.{fresh_head}
use Rattle.store.specs.State.{fields}
use Rattle.plan.specs.States.{State, state}
use Rattle.demands.specs.Runs.{Made}

-- two numbers as a list
abbrev pub two : ℕ → ℕ → List ℕ
two x y = x ∷ y ∷ []

-- a state of the cache, with no slot on the stack and stamps and weights 0: live, front, back, top, then lists
abbrev pub sample : ℕ → ℕ → ℕ → ℕ → List ℕ → List ℕ → List ℕ → List ℕ → List ℕ → State
sample live front back top codes values nexts prevs cells =
    state (record {
      kind = plain_kind;
      capacity = 2;
      slots = 2;
      live = live;
      weight = 0;
      front = record { 0 = front };
      back = record { 0 = back };
      top = record { 0 = top };
      depth = record { 0 = 0 };
    }) codes (two 0 0) values (two 0 0) nexts prevs (two none_mark none_mark) cells

-- lists that hold anything
abbrev pub lists₀ : State
lists₀ = state (fresh_head plain_kind 2 2) (two 7 7) (two 7 7) (two 7 7) (two 7 7) (two 7 7) (two 7 7) (two 7 7) (7 ∷ 7 ∷ 7 ∷ 7 ∷ [])

-- four cells
abbrev pub four : ℕ → ℕ → ℕ → ℕ → List ℕ
four a b c d = a ∷ b ∷ c ∷ d ∷ []

-- opened
abbrev pub state₀ : State
state₀ =
    sample 0 none_mark none_mark 0 (two 0 0) (two 0 0) (two unused_mark unused_mark) (two none_mark none_mark) (four none_mark none_mark none_mark none_mark)

-- after `put` of 1, value 10
abbrev pub state₁ : State
state₁ = sample 1 0 0 1 (two 1 0) (two 10 0) (two none_mark unused_mark) (two none_mark none_mark) (four none_mark none_mark none_mark 0)

-- after `put` of 2, value 20: 2 in front of 1
abbrev pub state₂ : State
state₂ = sample 2 1 0 2 (two 1 2) (two 10 20) (two none_mark 0) (two 1 none_mark) (four 1 none_mark none_mark 0)

-- after `get` of 1: 1 in front of 2
abbrev pub state₃ : State
state₃ = sample 2 0 1 2 (two 1 2) (two 10 20) (two 1 none_mark) (two none_mark 0) (four 1 none_mark none_mark 0)

-- after `put` of 3, value 30, which pushes out 2: 3 in front of 1
abbrev pub state₄ : State
state₄ = sample 2 1 0 2 (two 1 3) (two 10 30) (two none_mark 0) (two 1 none_mark) (four none_mark none_mark 1 0)

-- after `put` of 2, value 21, which pushes out 1: 2 in front of 3
abbrev pub state₅ : State
state₅ = sample 2 0 1 2 (two 2 3) (two 21 30) (two 1 none_mark) (two none_mark 0) (four 0 none_mark 1 none_mark)

-- row lists of one row: its code and value, stamp and weight 0
abbrev pub row : ℕ → ℕ → Fields
row code value = fields (code ∷ []) (0 ∷ []) (value ∷ []) (0 ∷ [])

-- a call made
abbrev pub made : Command → Fields → Answer → Fields → State → Made
made m rows a rows' t = record { asked = record { command = m; rows = rows }; answer = a; rows = rows'; left = t }

-- a number as a code
abbrev pub code : ℕ → Code
code x = record { 0 = x }

-- the run: eight calls
abbrev pub calls₈ : List Made
calls₈ =
    made (Put (code 1) 0 10) (row 0 0) (New 0) (row 0 0) state₁
    ∷ made (Put (code 2) 0 20) (row 0 0) (New 0) (row 0 0) state₂
    ∷ made (Peek (code 1)) (row 0 0) (Is 10) (row 0 0) state₂
    ∷ made (Get (code 1)) (row 0 0) (Is 10) (row 0 0) state₃
    ∷ made (Put (code 3) 0 30) (row 0 0) (New 1) (row 2 20) state₄
    ∷ made (Get (code 9)) (row 2 20) Absent (row 2 20) state₄
    ∷ made (Contains (code 2)) (row 2 20) (Flag false) (row 2 20) state₄
    ∷ made (Put (code 2) 0 21) (row 2 20) (New 1) (row 1 10) state₅
    ∷ []

-- a keeper with one place beside it: what it holds after each call
abbrev pub holdings : List (List ℕ)
holdings =
    (1 ∷ [])
    ∷ (2 ∷ [])
    ∷ (2 ∷ [])
    ∷ (1 ∷ [])
    ∷ (3 ∷ [])
    ∷ (3 ∷ [])
    ∷ (3 ∷ [])
    ∷ (2 ∷ [])
    ∷ []
