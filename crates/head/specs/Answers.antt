-- What an answer says of the rows that came with it.
-- Assumes nothing.
use Rattle.std.specs.Prelude.{ℕ}
use Rattle.head.specs.declared.Answer.{Answer}
use Rattle.head.specs.declared.Answer.TheVariants.{No, New, Was, Is, Now, Absent, Entry, Done, Count, Flag}

-- how many rows an answer counts
abbrev pub row_count : Answer → ℕ
row_count (No r) = 0
row_count (New n) = n
row_count (Was v n) = n
row_count (Is v) = 0
row_count (Now v new n) = n
row_count Absent = 0
row_count (Entry e) = 0
row_count (Done n) = n
row_count (Count k) = 0
row_count (Flag b) = 0
