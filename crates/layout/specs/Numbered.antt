-- The numbers that document 01 gives an answer: every number that an answer does not have is 0.
-- Assumes nothing.
use Rattle.std.specs.Prelude.{ℕ, List, ltb, length, set, Bool, cond}
use Rattle.head.specs.declared.Answer.{Answer}
use Rattle.head.specs.declared.Answer.TheVariants.{No, New, Was, Is, Now, Absent, Entry, Done, Count, Flag}
use Rattle.head.specs.Refusals.{number_of}
use Rattle.layout.specs.declared.Numbers.{Numbers}

-- a truth as a number
abbrev pub bit : Bool → ℕ
bit b = cond b 1 0

-- eight numbers of an answer, in the order of the struct
abbrev pub numbered : ℕ → ℕ → ℕ → ℕ → ℕ → ℕ → ℕ → ℕ → Numbers
numbered refusal word value rows fresh code stamp weight = record {
  refusal = refusal;
  word = word;
  value = value;
  rows = rows;
  fresh = fresh;
  code = code;
  stamp = stamp;
  weight = weight;
}

-- an answer's numbers, case by case
abbrev pub numbers_of : Answer → Numbers
numbers_of (No r) = numbered (number_of r) 0 0 0 0 0 0 0
numbers_of (New rows) = numbered 0 1 0 rows 1 0 0 0
numbers_of (Was value rows) = numbered 0 2 value rows 0 0 0 0
numbers_of (Is value) = numbered 0 3 value 0 0 0 0 0
numbers_of (Now value new rows) = numbered 0 4 value rows (bit new) 0 0 0
numbers_of Absent = numbered 0 5 0 0 0 0 0 0
numbers_of (Entry e) = numbered 0 6 e.value 0 0 e.code.0 e.stamp e.weight
numbers_of (Done rows) = numbered 0 7 0 rows 0 0 0 0
numbers_of (Count n) = numbered 0 8 n 0 0 0 0 0
numbers_of (Flag b) = numbered 0 9 0 0 (bit b) 0 0 0

-- the numbers at the start of a list that has room for them; a shorter list stays
abbrev pub numbers_left : List ℕ → Numbers → List ℕ
numbers_left l n =
    cond (ltb (length l) 8)
    l
    (set (set (set (set (set (set (set (set l 0 n.refusal) 1 n.word) 2 n.value) 3 n.rows) 4 n.fresh) 5 n.code) 6 n.stamp) 7 n.weight)
