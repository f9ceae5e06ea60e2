-- What a line of the script says.
-- Assumes nothing.
use Rattle.std.specs.Prelude.{ℕ, Bool, true, false, cond, List, [], ◌∷◌, Option, Some, None, leb}
use denote.Ref.{Bor}
use Rattle.head.specs.declared.Code.{Code}
use Rattle.head.specs.declared.Command.{Command}
use Rattle.head.specs.declared.Command.TheVariants.{Len, Capacity, Weight, IsEmpty, IsFull, Front, Back, Peek, Contains, List as ListFront, ListBack, Get, Pop, PopFront, PopBack, Put, PutWithWeight, Clear, Retain, Resize, PutOrModify, TryPutOrModify, GetMut, PeekMut, FrontMut, BackMut}
use Rattle.head.specs.Bounds.{plain_kind, weighed_kind}
use Rattle.head.specs.Rules.{code_rule, value_rule, stamp_rule, weight_rule}
use Rattle.script_read.specs.declared.Line.{Line}
use Rattle.script_read.specs.declared.Line.TheVariants.{Open, Call}
use Rattle.script_read.specs.declared.Numbers.{Numbers}
use Rattle.script_read.specs.declared.Numbers.TheVariants.{Nought, One, Two, Three, Four}
use Rattle.script_read.specs.Keywords.{same, open_word, plain_word, weighed_word, put_word, putw_word, put_or_modify_word, try_put_or_modify_word, get_word, peek_word, contains_word, pop_word, is_empty_word, is_full_word, len_word, capacity_word, weight_word, front_word, back_word, pop_front_word, pop_back_word, list_word, list_back_word, clear_word, get_mut_word, peek_mut_word, front_mut_word, back_mut_word, retain_word, not_word, code_word, value_word, stamp_word, resize_word}
use Rattle.script_read.specs.Words.{words_of}
use Rattle.script_read.specs.Numerals.{most_narrow, numbers_of}

-- a call where the word is its keyword, another line where not
unfoldable pub if_call : List ℕ → List ℕ → Command → Option Line → Option Line
if_call w key command miss = cond (same w key) (Some (Call command)) miss

-- the call of the first keyword that the word is, of keywords with their calls
abbrev pub call_named : List ℕ → List (Bor (List ℕ) × Command) → Option Line
call_named w [] = None
call_named w ((key, command) ∷ choices) = if_call w key.now command (call_named w choices)

-- a line whose number has to fit 32 bits
unfoldable pub narrow : ℕ → Option Line → Option Line
narrow n line = cond (leb n most_narrow) line None

-- a code from its number
abbrev pub code : ℕ → Code
code n = record { 0 = n }

-- is_empty, is_full, len, capacity, weight, front, back, pop_front, pop_back, list, list_back, clear
unfoldable pub nought_of : List ℕ → Option Line
nought_of w =
    if_call w is_empty_word IsEmpty
    (if_call w is_full_word IsFull
    (if_call w len_word Len
    (if_call w capacity_word Capacity
    (if_call w weight_word Weight
    (if_call w front_word Front
    (if_call w back_word Back
    (if_call w pop_front_word PopFront
    (if_call w pop_back_word PopBack
    (if_call w list_word ListFront
    (if_call w list_back_word ListBack
    (if_call w clear_word Clear None)))))))))))

-- get CODE, peek CODE, contains CODE, pop CODE, front_mut VALUE, back_mut VALUE, resize D
unfoldable pub one_of : List ℕ → ℕ → Option Line
one_of w a =
    if_call w get_word (Get (code a))
    (if_call w peek_word (Peek (code a))
    (if_call w contains_word (Contains (code a))
    (if_call w pop_word (Pop (code a))
    (if_call w front_mut_word (FrontMut a)
    (if_call w back_mut_word (BackMut a)
    (if_call w resize_word (Resize a) None))))))

-- get_mut CODE VALUE, peek_mut CODE VALUE
unfoldable pub two_of : List ℕ → ℕ → ℕ → Option Line
two_of w a b = if_call w get_mut_word (GetMut (code a) b) (if_call w peek_mut_word (PeekMut (code a) b) None)

-- put CODE STAMP VALUE, put_or_modify CODE STAMP AMOUNT
unfoldable pub three_of : List ℕ → ℕ → ℕ → ℕ → Option Line
three_of w a stamp b =
    narrow stamp
    (if_call w put_word (Put (code a) stamp b)
    (if_call w put_or_modify_word (PutOrModify (code a) stamp b) None))

-- putw CODE STAMP VALUE WEIGHT, try_put_or_modify CODE STAMP AMOUNT CEILING
unfoldable pub four_of : List ℕ → ℕ → ℕ → ℕ → ℕ → Option Line
four_of w a stamp b d =
    narrow stamp
    (if_call w putw_word (PutWithWeight (code a) stamp b d)
    (if_call w try_put_or_modify_word (TryPutOrModify (code a) stamp b d) None))

-- a word with its numbers
unfoldable pub call_of : List ℕ → Option Numbers → Option Line
call_of w (Some Nought) = nought_of w
call_of w (Some (One a)) = one_of w a
call_of w (Some (Two a b)) = two_of w a b
call_of w (Some (Three a b c)) = three_of w a b c
call_of w (Some (Four a b c d)) = four_of w a b c d
call_of w None = None

-- plain C N, weighed C N
unfoldable pub kind_line : List ℕ → ℕ → ℕ → Option Line
kind_line w c n = narrow n (cond (same w plain_word) (Some (Open plain_kind c n)) (cond (same w weighed_word) (Some (Open weighed_kind c n)) None))

-- a kind with its two numbers
unfoldable pub open_numbers : List ℕ → Option Numbers → Option Line
open_numbers w (Some Nought) = None
open_numbers w (Some (One a)) = None
open_numbers w (Some (Two c n)) = kind_line w c n
open_numbers w (Some (Three a b c)) = None
open_numbers w (Some (Four a b c d)) = None
open_numbers w None = None

-- what follows `open`
unfoldable pub open_of : List (List ℕ) → Option Line
open_of [] = None
open_of (w ∷ ws) = open_numbers w (numbers_of ws)

-- `retain` by a rule of a number, negated or not, with its bounds
abbrev pub keeping : ℕ → Bool → ℕ → ℕ → Command
keeping number negated low high = Retain (record { number = number; not = negated; low = low; high = high })

-- stamp S, weight W
unfoldable pub bound_line : Bool → List ℕ → ℕ → Option Line
bound_line negated w a =
    cond (same w stamp_word) (narrow a (Some (Call (keeping stamp_rule negated a 0))))
    (if_call w weight_word (keeping weight_rule negated 0 a) None)

-- code LO HI, value LO HI
unfoldable pub range_line : Bool → List ℕ → ℕ → ℕ → Option Line
range_line negated w a b =
    if_call w code_word (keeping code_rule negated a b)
    (if_call w value_word (keeping value_rule negated a b) None)

-- a rule's word with its numbers
unfoldable pub rule_numbers : Bool → List ℕ → Option Numbers → Option Line
rule_numbers negated w (Some Nought) = None
rule_numbers negated w (Some (One a)) = bound_line negated w a
rule_numbers negated w (Some (Two a b)) = range_line negated w a b
rule_numbers negated w (Some (Three a b c)) = None
rule_numbers negated w (Some (Four a b c d)) = None
rule_numbers negated w None = None

-- the words of a rule
unfoldable pub rule_line : Bool → List (List ℕ) → Option Line
rule_line negated [] = None
rule_line negated (w ∷ ws) = rule_numbers negated w (numbers_of ws)

-- what follows `retain`: a rule, with `not` in front of it or without
unfoldable pub retain_of : List (List ℕ) → Option Line
retain_of [] = None
retain_of (w ∷ ws) = cond (same w not_word) (rule_line true ws) (rule_line false (w ∷ ws))

-- what the words of a line say
unfoldable pub line_of : List (List ℕ) → Option Line
line_of [] = None
line_of (w ∷ ws) = cond (same w open_word) (open_of ws) (cond (same w retain_word) (retain_of ws) (call_of w (numbers_of ws)))

-- what a line says: a call with its numbers, an opening, or nothing that is understood
unfoldable pub understood : List ℕ → Option Line
understood bytes = line_of (words_of bytes)
