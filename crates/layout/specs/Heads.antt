-- A head as a list of nine numbers.
-- Assumes nothing.
use Rattle.std.specs.Prelude.{ℕ, cond, List, ltb, leb, eqb, length, get_or, set}
use Rattle.head.specs.declared.Head.{Head}
use Rattle.head.specs.Fresh.{fresh_head}

-- a number within 32 bits is itself; any other is the mark of an unused slot, 4294967294
unfoldable pub narrowed : ℕ → ℕ
narrowed x = cond (leb x 4294967295) x 4294967294

-- the nine numbers in their order
abbrev pub head_in : List ℕ → Head
head_in l = record {
  kind = narrowed (get_or l 0 0);
  capacity = get_or l 1 0;
  slots = narrowed (get_or l 2 0);
  live = narrowed (get_or l 3 0);
  weight = get_or l 4 0;
  front = record { 0 = narrowed (get_or l 5 0) };
  back = record { 0 = narrowed (get_or l 6 0) };
  top = record { 0 = narrowed (get_or l 7 0) };
  depth = record { 0 = narrowed (get_or l 8 0) };
}

-- the head of a list, or one of no kind where the list is short or an answer has no room
unfoldable pub head_of : List ℕ → ℕ → Head
head_of l room = cond (ltb (length l) 9) (fresh_head 2 0 0) (cond (ltb room 8) (fresh_head 2 0 0) (head_in l))

-- the nine numbers at the start of a list
abbrev pub head_put : List ℕ → Head → List ℕ
head_put l h = set (set (set (set (set (set (set (set (set l 0 h.kind) 1 h.capacity) 2 h.slots) 3 h.live) 4 h.weight) 5 h.front.0) 6 h.back.0) 7 h.top.0) 8 h.depth.0

-- the list after a call: untouched after refusal 2 and where it is short
unfoldable pub head_left : ℕ → List ℕ → Head → List ℕ
head_left refusal l h = cond (eqb refusal 2) l (cond (ltb (length l) 9) l (head_put l h))
