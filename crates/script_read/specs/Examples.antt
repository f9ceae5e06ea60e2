-- Lines computed: those of document 01's sample script, and those that are easily taken wrong.
-- Assumes nothing.
use Rattle.std.specs.Prelude.{ℕ, true, false, List, [], ◌∷◌, map, Some, None, ◌≡◌, refl}
use Rattle.head.specs.declared.Command.TheVariants.{List as ListFront, Get, Put, PutWithWeight, Resize}
use Rattle.head.specs.Bounds.{weighed_kind}
use Rattle.head.specs.Rules.{code_rule, stamp_rule}
use Rattle.script_read.specs.declared.Line.TheVariants.{Open, Call}
use Rattle.script_read.specs.Keywords.{same}
use Rattle.script_read.specs.Words.{words_of}
use Rattle.script_read.specs.Numerals.{number_of, numbers_after}
use Rattle.script_read.specs.Grammar.{if_call, narrow, code, nought_of, one_of, two_of, three_of, four_of, call_of, kind_line, open_numbers, open_of, keeping, bound_line, range_line, rule_numbers, rule_line, retain_of, line_of, understood}

-- `open weighed 10 4`
abbrev sample_open : List ℕ
sample_open = 111 ∷ 112 ∷ 101 ∷ 110 ∷ 32 ∷ 119 ∷ 101 ∷ 105 ∷ 103 ∷ 104 ∷ 101 ∷ 100 ∷ 32 ∷ 49 ∷ 48 ∷ 32 ∷ 52 ∷ []

-- `putw 1 7 100 3`
abbrev sample_put1 : List ℕ
sample_put1 = 112 ∷ 117 ∷ 116 ∷ 119 ∷ 32 ∷ 49 ∷ 32 ∷ 55 ∷ 32 ∷ 49 ∷ 48 ∷ 48 ∷ 32 ∷ 51 ∷ []

-- `putw 2 7 200 4`
abbrev sample_put2 : List ℕ
sample_put2 = 112 ∷ 117 ∷ 116 ∷ 119 ∷ 32 ∷ 50 ∷ 32 ∷ 55 ∷ 32 ∷ 50 ∷ 48 ∷ 48 ∷ 32 ∷ 52 ∷ []

-- `putw 1 8 101 5`
abbrev sample_put3 : List ℕ
sample_put3 = 112 ∷ 117 ∷ 116 ∷ 119 ∷ 32 ∷ 49 ∷ 32 ∷ 56 ∷ 32 ∷ 49 ∷ 48 ∷ 49 ∷ 32 ∷ 53 ∷ []

-- `list`
abbrev sample_list : List ℕ
sample_list = 108 ∷ 105 ∷ 115 ∷ 116 ∷ []

-- `putw 3 8 300 10`
abbrev sample_put4 : List ℕ
sample_put4 = 112 ∷ 117 ∷ 116 ∷ 119 ∷ 32 ∷ 51 ∷ 32 ∷ 56 ∷ 32 ∷ 51 ∷ 48 ∷ 48 ∷ 32 ∷ 49 ∷ 48 ∷ []

-- the sample script
sample : map understood (sample_open ∷ sample_put1 ∷ sample_put2 ∷ sample_put3 ∷ sample_list ∷ sample_put4 ∷ [])
    ≡ Some (Open weighed_kind 10 4) ∷ Some (Call (PutWithWeight (code 1) 7 100 3)) ∷ Some (Call (PutWithWeight (code 2) 7 200 4)) ∷ Some (Call (PutWithWeight (code 1) 8 101 5)) ∷ Some (Call ListFront) ∷ Some (Call (PutWithWeight (code 3) 8 300 10)) ∷ []
unfolding same words_of number_of numbers_after if_call narrow nought_of one_of two_of three_of four_of call_of kind_line open_numbers open_of bound_line range_line rule_numbers rule_line retain_of line_of understood
sample = refl

-- `get  1`: two spaces in a row
abbrev doubled_space : List ℕ
doubled_space = 103 ∷ 101 ∷ 116 ∷ 32 ∷ 32 ∷ 49 ∷ []

-- ` get 1`: a space in front
abbrev leading_space : List ℕ
leading_space = 32 ∷ 103 ∷ 101 ∷ 116 ∷ 32 ∷ 49 ∷ []

-- `get 1 `: a space behind
abbrev trailing_space : List ℕ
trailing_space = 103 ∷ 101 ∷ 116 ∷ 32 ∷ 49 ∷ 32 ∷ []

-- `get 1\r`: a carriage return
abbrev carriage_return : List ℕ
carriage_return = 103 ∷ 101 ∷ 116 ∷ 32 ∷ 49 ∷ 13 ∷ []

-- `get +1`: a sign
abbrev signed : List ℕ
signed = 103 ∷ 101 ∷ 116 ∷ 32 ∷ 43 ∷ 49 ∷ []

-- an empty line
abbrev empty : List ℕ
empty = []

-- `get 18446744073709551616`: one more than 64 bits hold
abbrev past_width : List ℕ
past_width = 103 ∷ 101 ∷ 116 ∷ 32 ∷ 49 ∷ 56 ∷ 52 ∷ 52 ∷ 54 ∷ 55 ∷ 52 ∷ 52 ∷ 48 ∷ 55 ∷ 51 ∷ 55 ∷ 48 ∷ 57 ∷ 53 ∷ 53 ∷ 49 ∷ 54 ∷ 49 ∷ 54 ∷ []

-- `put 1 4294967296 2`: a stamp past 32 bits
abbrev stamp_past_width : List ℕ
stamp_past_width = 112 ∷ 117 ∷ 116 ∷ 32 ∷ 49 ∷ 32 ∷ 52 ∷ 50 ∷ 57 ∷ 52 ∷ 57 ∷ 54 ∷ 55 ∷ 50 ∷ 57 ∷ 54 ∷ 32 ∷ 50 ∷ []

-- `fetch 1`: a word that is no call
abbrev unknown_word : List ℕ
unknown_word = 102 ∷ 101 ∷ 116 ∷ 99 ∷ 104 ∷ 32 ∷ 49 ∷ []

-- `len 1`: a number too many
abbrev one_too_many : List ℕ
one_too_many = 108 ∷ 101 ∷ 110 ∷ 32 ∷ 49 ∷ []

-- `retain length 1 5`: a rule that does not exist
abbrev no_rule : List ℕ
no_rule = 114 ∷ 101 ∷ 116 ∷ 97 ∷ 105 ∷ 110 ∷ 32 ∷ 108 ∷ 101 ∷ 110 ∷ 103 ∷ 116 ∷ 104 ∷ 32 ∷ 49 ∷ 32 ∷ 53 ∷ []

-- none of these is understood
refused : map understood (doubled_space ∷ leading_space ∷ trailing_space ∷ carriage_return ∷ signed ∷ empty ∷ past_width ∷ stamp_past_width ∷ unknown_word ∷ one_too_many ∷ no_rule ∷ [])
    ≡ None ∷ None ∷ None ∷ None ∷ None ∷ None ∷ None ∷ None ∷ None ∷ None ∷ None ∷ []
unfolding same words_of number_of numbers_after if_call narrow nought_of one_of two_of three_of four_of call_of kind_line open_numbers open_of bound_line range_line rule_numbers rule_line retain_of line_of understood
refused = refl

-- `get 18446744073709551615`: the largest number of 64 bits
abbrev widest : List ℕ
widest = 103 ∷ 101 ∷ 116 ∷ 32 ∷ 49 ∷ 56 ∷ 52 ∷ 52 ∷ 54 ∷ 55 ∷ 52 ∷ 52 ∷ 48 ∷ 55 ∷ 51 ∷ 55 ∷ 48 ∷ 57 ∷ 53 ∷ 53 ∷ 49 ∷ 54 ∷ 49 ∷ 53 ∷ []

-- `put 1 4294967295 2`: the largest stamp
abbrev stamp_widest : List ℕ
stamp_widest = 112 ∷ 117 ∷ 116 ∷ 32 ∷ 49 ∷ 32 ∷ 52 ∷ 50 ∷ 57 ∷ 52 ∷ 57 ∷ 54 ∷ 55 ∷ 50 ∷ 57 ∷ 53 ∷ 32 ∷ 50 ∷ []

-- `get 0000000000000000000000007`: leading zeros, more digits than 64 bits need
abbrev leading_zeros : List ℕ
leading_zeros = 103 ∷ 101 ∷ 116 ∷ 32 ∷ 48 ∷ 48 ∷ 48 ∷ 48 ∷ 48 ∷ 48 ∷ 48 ∷ 48 ∷ 48 ∷ 48 ∷ 48 ∷ 48 ∷ 48 ∷ 48 ∷ 48 ∷ 48 ∷ 48 ∷ 48 ∷ 48 ∷ 48 ∷ 48 ∷ 48 ∷ 48 ∷ 48 ∷ 55 ∷ []

-- `retain not code 1 5`: a negated rule
abbrev not_code : List ℕ
not_code = 114 ∷ 101 ∷ 116 ∷ 97 ∷ 105 ∷ 110 ∷ 32 ∷ 110 ∷ 111 ∷ 116 ∷ 32 ∷ 99 ∷ 111 ∷ 100 ∷ 101 ∷ 32 ∷ 49 ∷ 32 ∷ 53 ∷ []

-- `retain stamp 3`: a rule with one bound
abbrev stamp_rule_said : List ℕ
stamp_rule_said = 114 ∷ 101 ∷ 116 ∷ 97 ∷ 105 ∷ 110 ∷ 32 ∷ 115 ∷ 116 ∷ 97 ∷ 109 ∷ 112 ∷ 32 ∷ 51 ∷ []

-- `resize 0`: understood here; the cache refuses it
abbrev resize_nought : List ℕ
resize_nought = 114 ∷ 101 ∷ 115 ∷ 105 ∷ 122 ∷ 101 ∷ 32 ∷ 48 ∷ []

-- each of these is understood
taken : map understood (widest ∷ stamp_widest ∷ leading_zeros ∷ not_code ∷ stamp_rule_said ∷ resize_nought ∷ [])
    ≡ Some (Call (Get (code 18446744073709551615))) ∷ Some (Call (Put (code 1) 4294967295 2)) ∷ Some (Call (Get (code 7))) ∷ Some (Call (keeping code_rule true 1 5)) ∷ Some (Call (keeping stamp_rule false 3 0)) ∷ Some (Call (Resize 0)) ∷ []
unfolding same words_of number_of numbers_after if_call narrow nought_of one_of two_of three_of four_of call_of kind_line open_numbers open_of bound_line range_line rule_numbers rule_line retain_of line_of understood
taken = refl
