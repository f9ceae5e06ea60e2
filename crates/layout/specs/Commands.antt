-- A call as a list of five numbers: its number, and up to four more.
-- Assumes nothing.
use Rattle.std.specs.Prelude.{ℕ, cond, List, ltb, leb, eqb, length, get_or}
use Rattle.head.specs.declared.Command.{Command}
use Rattle.head.specs.declared.Command.TheVariants.{Len, Capacity, Weight, IsEmpty, IsFull, Front, Back, Peek, Contains, List as ListFront, ListBack, Get, Pop, PopFront, PopBack, Put, PutWithWeight, Clear, Retain, Resize, PutOrModify, TryPutOrModify, GetMut, PeekMut, FrontMut, BackMut}

-- what stands for a call that is not understood: a resize to 0, refusal 8 on every sound cache
abbrev pub not_understood : Command
not_understood = Resize 0

-- a call whose stamp must be within 32 bits
abbrev pub stamped : ℕ → Command → Command
stamped stamp m = cond (leb stamp 4294967295) m not_understood

-- `retain`: the rule's number, 1 for "not", low and high
abbrev pub ruled : ℕ → ℕ → ℕ → ℕ → Command
ruled a b c d =
    cond (ltb 3 a) not_understood (cond (ltb 1 b) not_understood (Retain (record { number = a; not = eqb b 1; low = c; high = d })))

-- the call of each number
unfoldable pub command_of : ℕ → ℕ → ℕ → ℕ → ℕ → Command
command_of n a b c d =
    cond (eqb n 1) Len (
    cond (eqb n 2) Capacity (
    cond (eqb n 3) Weight (
    cond (eqb n 4) IsEmpty (
    cond (eqb n 5) IsFull (
    cond (eqb n 6) Front (
    cond (eqb n 7) Back (
    cond (eqb n 8) (Peek (record { 0 = a })) (
    cond (eqb n 9) (Contains (record { 0 = a })) (
    cond (eqb n 10) ListFront (
    cond (eqb n 11) ListBack (
    cond (eqb n 12) (Get (record { 0 = a })) (
    cond (eqb n 13) (Pop (record { 0 = a })) (
    cond (eqb n 14) PopFront (
    cond (eqb n 15) PopBack (
    cond (eqb n 16) (stamped b (Put (record { 0 = a }) b c)) (
    cond (eqb n 17) (stamped b (PutWithWeight (record { 0 = a }) b c d)) (
    cond (eqb n 18) Clear (
    cond (eqb n 19) (ruled a b c d) (
    cond (eqb n 20) (Resize a) (
    cond (eqb n 21) (stamped b (PutOrModify (record { 0 = a }) b c)) (
    cond (eqb n 22) (stamped b (TryPutOrModify (record { 0 = a }) b c d)) (
    cond (eqb n 23) (GetMut (record { 0 = a }) b) (
    cond (eqb n 24) (PeekMut (record { 0 = a }) b) (
    cond (eqb n 25) (FrontMut a) (
    cond (eqb n 26) (BackMut a) (
    not_understood))))))))))))))))))))))))))

-- the call that a list holds
unfoldable pub command_in : List ℕ → Command
command_in l = cond (ltb (length l) 5) not_understood (command_of (get_or l 0 0) (get_or l 1 0) (get_or l 2 0) (get_or l 3 0) (get_or l 4 0))
