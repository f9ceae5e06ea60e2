-- The sample output of document 01, and a line of each other form, computed.
-- Assumes nothing.
use Rattle.std.specs.Prelude.{ℕ, true, false, [], ◌∷◌, ◌++◌, ◌≡◌, refl}
use Rattle.head.specs.declared.Row.{Row}
use Rattle.head.specs.declared.Answer.TheVariants.{No, New, Was, Is, Now, Absent, Entry, Done, Count, Flag}
use Rattle.head.specs.declared.Refusal.TheVariants.{TooHeavy}
use Rattle.script_digits.specs.Decimal.{digits_of}
use Rattle.script_write.specs.Lines.{bytes, row_word, lines, closing_line, opened}

-- an entry from its four numbers
abbrev entry : ℕ → ℕ → ℕ → ℕ → Row
entry c s v w = record { code = record { 0 = c }; stamp = s; value = v; weight = w }

-- the first lines of the sample: the opening and two new codes
sample_new : opened ++ (lines (row_word false) [] (New 0) ++ lines (row_word false) [] (New 0)) ≡ bytes "ok\nnew\nnew\n"
sample_new = refl

-- code 2 goes out, and code 1 had the value 100
sample_was : lines (row_word false) (entry 2 7 200 4 ∷ []) (Was 100 1) ≡ bytes "out 2 7 200 4\nwas 100\n"
unfolding digits_of
sample_was = refl

-- the listing has one entry
sample_list_lem : lines (row_word true) (entry 1 8 101 5 ∷ []) (Done 1) ≡ bytes "row 1 8 101 5\nok\n"
unfolding digits_of
sample_list_lem = refl

-- the last call is refused
sample_no : lines (row_word false) [] (No TooHeavy) ≡ bytes "no 4\n"
unfolding digits_of
sample_no = refl

-- an entry at the front or at the back
of_entry : closing_line (Entry (entry 0 0 10 0)) ≡ bytes "row 0 0 10 0\nok\n"
unfolding digits_of
of_entry = refl

-- a value found, the largest one
of_is : closing_line (Is 18446744073709551615) ≡ bytes "is 18446744073709551615\n"
unfolding digits_of
of_is = refl

-- a value held now, of a new code and of an old one
of_now : closing_line (Now 40 true 0) ++ closing_line (Now 60 false 0) ≡ bytes "now 40 new\nnow 60 old\n"
unfolding digits_of
of_now = refl

-- a count
of_count : closing_line (Count 4096) ≡ bytes "count 4096\n"
unfolding digits_of
of_count = refl

-- the answers without a number
of_words : closing_line Absent ++ (closing_line (Flag true) ++ closing_line (Flag false)) ≡ bytes "absent\ntrue\nfalse\n"
of_words = refl

-- opening is answered as a call that is done
of_opened : closing_line (Done 0) ≡ opened
of_opened = refl
