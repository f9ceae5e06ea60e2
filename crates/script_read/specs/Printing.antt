-- The line that says a call or an opening, and which of them can be said.
-- Assumes nothing.
use Rattle.std.specs.Prelude.{ℕ, ◌≤◌, cond, List, [], ◌∷◌, ◌++◌, ◌≡◌, Option, Some, None, eqb}
use Rattle.head.specs.declared.Rule.{Rule}
use Rattle.head.specs.declared.Command.{Command}
use Rattle.head.specs.declared.Command.TheVariants.{Len, Capacity, Weight, IsEmpty, IsFull, Front, Back, Peek, Contains, List as ListFront, ListBack, Get, Pop, PopFront, PopBack, Put, PutWithWeight, Clear, Retain, Resize, PutOrModify, TryPutOrModify, GetMut, PeekMut, FrontMut, BackMut}
use Rattle.head.specs.Bounds.{plain_kind, weighed_kind}
use Rattle.head.specs.Rules.{code_rule, value_rule, stamp_rule, weight_rule}
use Rattle.script_digits.specs.Decimal.{digits_of}
use Rattle.script_read.specs.declared.Line.{Line}
use Rattle.script_read.specs.declared.Line.TheVariants.{Open, Call}
use Rattle.script_read.specs.Keywords.{open_word, plain_word, weighed_word, put_word, putw_word, put_or_modify_word, try_put_or_modify_word, get_word, peek_word, contains_word, pop_word, is_empty_word, is_full_word, len_word, capacity_word, weight_word, front_word, back_word, pop_front_word, pop_back_word, list_word, list_back_word, clear_word, get_mut_word, peek_mut_word, front_mut_word, back_mut_word, retain_word, not_word, code_word, value_word, stamp_word, resize_word}
use Rattle.script_read.specs.Words.{space}
use Rattle.script_read.specs.Numerals.{most_wide, most_narrow}

-- words with one space between each two
unfoldable pub spaced : List (List ℕ) → List ℕ
spaced [] = []
spaced (w ∷ []) = w
spaced (w ∷ (v ∷ vs)) = w ++ (space ∷ spaced (v ∷ vs))

-- the word of a kind
unfoldable pub kind_word : ℕ → List ℕ
kind_word kind = cond (eqb kind plain_kind) plain_word weighed_word

-- the words of a rule, without `not`
unfoldable pub bounds_words : Rule → List (List ℕ)
bounds_words r =
    cond (eqb r.number code_rule) (code_word ∷ digits_of r.low ∷ digits_of r.high ∷ [])
    (cond (eqb r.number value_rule) (value_word ∷ digits_of r.low ∷ digits_of r.high ∷ [])
    (cond (eqb r.number stamp_rule) (stamp_word ∷ digits_of r.low ∷ []) (weight_word ∷ digits_of r.high ∷ [])))

-- the words of a rule
unfoldable pub rule_words : Rule → List (List ℕ)
rule_words r = cond r.not (not_word ∷ bounds_words r) (bounds_words r)

-- the words of a call
unfoldable pub call_words : Command → List (List ℕ)
call_words Len = len_word ∷ []
call_words Capacity = capacity_word ∷ []
call_words Weight = weight_word ∷ []
call_words IsEmpty = is_empty_word ∷ []
call_words IsFull = is_full_word ∷ []
call_words Front = front_word ∷ []
call_words Back = back_word ∷ []
call_words (Peek c) = peek_word ∷ digits_of c.0 ∷ []
call_words (Contains c) = contains_word ∷ digits_of c.0 ∷ []
call_words ListFront = list_word ∷ []
call_words ListBack = list_back_word ∷ []
call_words (Get c) = get_word ∷ digits_of c.0 ∷ []
call_words (Pop c) = pop_word ∷ digits_of c.0 ∷ []
call_words PopFront = pop_front_word ∷ []
call_words PopBack = pop_back_word ∷ []
call_words (Put c s v) = put_word ∷ digits_of c.0 ∷ digits_of s ∷ digits_of v ∷ []
call_words (PutWithWeight c s v w) = putw_word ∷ digits_of c.0 ∷ digits_of s ∷ digits_of v ∷ digits_of w ∷ []
call_words Clear = clear_word ∷ []
call_words (Retain r) = retain_word ∷ rule_words r
call_words (Resize d) = resize_word ∷ digits_of d ∷ []
call_words (PutOrModify c s d) = put_or_modify_word ∷ digits_of c.0 ∷ digits_of s ∷ digits_of d ∷ []
call_words (TryPutOrModify c s d m) = try_put_or_modify_word ∷ digits_of c.0 ∷ digits_of s ∷ digits_of d ∷ digits_of m ∷ []
call_words (GetMut c v) = get_mut_word ∷ digits_of c.0 ∷ digits_of v ∷ []
call_words (PeekMut c v) = peek_mut_word ∷ digits_of c.0 ∷ digits_of v ∷ []
call_words (FrontMut v) = front_mut_word ∷ digits_of v ∷ []
call_words (BackMut v) = back_mut_word ∷ digits_of v ∷ []

-- the line of a call or an opening; an empty line, which is not understood, for what has none
unfoldable pub printed : Option Line → List ℕ
printed (Some (Open kind c n)) = spaced (open_word ∷ kind_word kind ∷ digits_of c ∷ digits_of n ∷ [])
printed (Some (Call command)) = spaced (call_words command)
printed None = []

-- a number of 64 bits
abbrev pub Wide : ℕ → Type 0
Wide n = n ≤ most_wide

-- a number of 32 bits
abbrev pub Narrow : ℕ → Type 0
Narrow n = n ≤ most_narrow

-- a rule that exists, its numbers within their widths, and 0 for the bound that it does not read
pub record Sayable (r : Rule) : Type 0 where
  pub number : r.number ≤ weight_rule
  pub low : Wide r.low
  pub high : Wide r.high
  pub stamp : r.number ≡ stamp_rule → Narrow r.low × (r.high ≡ 0)
  pub weight : r.number ≡ weight_rule → r.low ≡ 0

-- a call whose numbers are within their widths
abbrev pub CallFits : Command → Type 0
CallFits Len = Unit {0}
CallFits Capacity = Unit {0}
CallFits Weight = Unit {0}
CallFits IsEmpty = Unit {0}
CallFits IsFull = Unit {0}
CallFits Front = Unit {0}
CallFits Back = Unit {0}
CallFits (Peek c) = Wide c.0
CallFits (Contains c) = Wide c.0
CallFits ListFront = Unit {0}
CallFits ListBack = Unit {0}
CallFits (Get c) = Wide c.0
CallFits (Pop c) = Wide c.0
CallFits PopFront = Unit {0}
CallFits PopBack = Unit {0}
CallFits (Put c s v) = Wide c.0 × Narrow s × Wide v
CallFits (PutWithWeight c s v w) = Wide c.0 × Narrow s × Wide v × Wide w
CallFits Clear = Unit {0}
CallFits (Retain r) = Sayable r
CallFits (Resize d) = Wide d
CallFits (PutOrModify c s d) = Wide c.0 × Narrow s × Wide d
CallFits (TryPutOrModify c s d m) = Wide c.0 × Narrow s × Wide d × Wide m
CallFits (GetMut c v) = Wide c.0 × Wide v
CallFits (PeekMut c v) = Wide c.0 × Wide v
CallFits (FrontMut v) = Wide v
CallFits (BackMut v) = Wide v

-- a call or an opening whose numbers are within their widths, of a kind or by a rule that exists
abbrev pub Fits : Option Line → Type 0
Fits (Some (Open kind c n)) = (kind ≤ weighed_kind) × Wide c × Narrow n
Fits (Some (Call command)) = CallFits command
Fits None = Unit {0}
