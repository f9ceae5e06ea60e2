-- The bounds and the marks of document 01, and what opening allows.
-- Assumes nothing.
use Rattle.std.specs.Prelude.{ℕ, Bool, ◌&&◌, leb}

-- the number of the plain kind
abbrev pub plain_kind : ℕ
plain_kind = 0

-- the number of the weighed kind
abbrev pub weighed_kind : ℕ
weighed_kind = 1

-- the largest capacity, 2^63 - 1
abbrev pub most_capacity : ℕ
most_capacity = 9223372036854775807

-- the largest slot count
abbrev pub most_slots : ℕ
most_slots = 4096

-- the number that stands for no slot
abbrev pub none_mark : ℕ
none_mark = 4294967295

-- the next link of a slot that holds no entry
abbrev pub unused_mark : ℕ
unused_mark = 4294967294

-- a capacity is from 1 to the largest
abbrev pub capacity_ok : ℕ → Bool
capacity_ok c = leb 1 c && leb c most_capacity

-- opening allows the two kinds, a capacity, and from 1 to the largest count of slots
abbrev pub allowed : ℕ → ℕ → ℕ → Bool
allowed kind capacity slots = leb kind weighed_kind && (capacity_ok capacity && (leb 1 slots && leb slots most_slots))
