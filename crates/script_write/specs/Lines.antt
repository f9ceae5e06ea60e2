-- What is written for an answer, to the byte. docs/SCRIPT.md has the same lines as a table.
-- Assumes nothing.
use Rattle.std.specs.Prelude.{ℕ, Bool, true, cond, List, [], ◌∷◌, ◌++◌}
use Prim.Native.Char.{code}
use Prim.Native.String as text
use Rattle.head.specs.declared.Row.{Row}
use Rattle.head.specs.declared.Answer.{Answer}
use Rattle.head.specs.declared.Answer.TheVariants.{No, New, Was, Is, Now, Absent, Entry, Done, Count, Flag}
use Rattle.head.specs.Refusals.{number_of}
use Rattle.script_digits.specs.Decimal.{digits_of}

-- the bytes of a text in ASCII
abbrev pub bytes : text.String → List ℕ
bytes text.[] = []
bytes (text.◌∷◌ c s) = code c ∷ bytes s

-- a number and the byte after it
abbrev pub field : ℕ → List ℕ → List ℕ
field n end = digits_of n ++ end

-- a word, a number and the end of the line
abbrev pub numbered : List ℕ → ℕ → List ℕ
numbered word n = word ++ field n (bytes "\n")

-- the word that a row begins with: of a listed entry, or of one that went out
abbrev pub row_word : Bool → List ℕ
row_word listed = cond listed (bytes "row ") (bytes "out ")

-- a row's line: CODE STAMP VALUE WEIGHT
abbrev pub row_line : List ℕ → Row → List ℕ
row_line word e =
    word ++ (field e.code.0 (bytes " ") ++ (field e.stamp (bytes " ") ++ (field e.value (bytes " ") ++ field e.weight (bytes "\n"))))

-- a value held now, and whether its code was new
abbrev pub now_line : ℕ → Bool → List ℕ
now_line value new = bytes "now " ++ (field value (bytes " ") ++ cond new (bytes "new\n") (bytes "old\n"))

-- an entry's row, and the line after it
abbrev pub entry_lines : Row → List ℕ
entry_lines e = row_line (row_word true) e ++ bytes "ok\n"

-- the last line of an answer, with the row of the entry that it names before it
abbrev pub closing_line : Answer → List ℕ
closing_line (No r) = numbered (bytes "no ") (number_of r)
closing_line (New rows) = bytes "new\n"
closing_line (Was value rows) = numbered (bytes "was ") value
closing_line (Is value) = numbered (bytes "is ") value
closing_line (Now value new rows) = now_line value new
closing_line Absent = bytes "absent\n"
closing_line (Entry e) = entry_lines e
closing_line (Done rows) = bytes "ok\n"
closing_line (Count k) = numbered (bytes "count ") k
closing_line (Flag b) = cond b (bytes "true\n") (bytes "false\n")

-- the lines of rows, in order
abbrev pub row_lines : List ℕ → List Row → List ℕ
row_lines word [] = []
row_lines word (e ∷ es) = row_line word e ++ row_lines word es

-- the whole text of an answer: its rows, and then its closing line
abbrev pub lines : List ℕ → List Row → Answer → List ℕ
lines word rows a = row_lines word rows ++ closing_line a

-- what a successful opening writes
abbrev pub opened : List ℕ
opened = bytes "ok\n"

-- no number with the byte after it is longer
abbrev pub most_field : ℕ
most_field = 21

-- no row's line and no closing line is longer
abbrev pub most_line : ℕ
most_line = 128
