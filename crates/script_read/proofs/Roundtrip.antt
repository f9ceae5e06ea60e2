-- Printing then parsing: the line of a call or an opening, its numbers within their widths, is understood as that call or opening.
-- Assumes nothing.
use Prim.Native.Nat.{ℕ, zero, suc, ◌≤◌}
use Rattle.std.specs.Prelude.{Option, Some, None}
use mathlib.Core.Bool.{Bool, true, false, not, cond, ◌&&◌, false≢true}
use mathlib.Core.List.{List, [], ◌∷◌, ◌++◌}
use mathlib.Core.Path.{◌≡◌, refl, sym, ap, ◌∙◌}
use native.Mathlib.Omega.{arith}
use lib.Dec.{eqb, leb}
use borrow.Author.Tests.{le-leb, leb-true, ne_eqb}
use Rattle.head.specs.declared.Command.{Command}
use Rattle.head.specs.declared.Command.TheVariants.{Len, Capacity, Weight, IsEmpty, IsFull, Front, Back, Peek, Contains, List as ListFront, ListBack, Get, Pop, PopFront, PopBack, Put, PutWithWeight, Clear, Retain, Resize, PutOrModify, TryPutOrModify, GetMut, PeekMut, FrontMut, BackMut}
use Rattle.script_digits.specs.Decimal.{digits_of, is_digit, all_digits, is_numeral}
use Rattle.script_read.specs.declared.Line.{Line}
use Rattle.script_read.specs.declared.Line.TheVariants.{Open, Call}
use Rattle.script_read.specs.declared.Numbers.{Numbers}
use Rattle.script_read.specs.declared.Numbers.TheVariants.{One, Two, Three, Four}
use Rattle.script_read.specs.Keywords.{same, back_mut_word, back_word, capacity_word, clear_word, code_word, contains_word, front_mut_word, front_word, get_mut_word, get_word, is_empty_word, is_full_word, len_word, list_back_word, list_word, not_word, open_word, peek_mut_word, peek_word, plain_word, pop_back_word, pop_front_word, pop_word, put_or_modify_word, put_word, putw_word, resize_word, retain_word, stamp_word, try_put_or_modify_word, value_word, weighed_word, weight_word}
use Rattle.script_read.specs.Words.{space, words_of}
use Rattle.script_read.specs.Numerals.{most_narrow, numbers_after, numbers_of}
use Rattle.script_read.specs.Grammar.{if_call, narrow, nought_of, one_of, two_of, three_of, four_of, call_of, kind_line, open_numbers, open_of, keeping, bound_line, range_line, rule_numbers, rule_line, retain_of, line_of, understood}
use Rattle.script_read.specs.Printing.{spaced, kind_word, bounds_words, rule_words, call_words, printed, Wide, Narrow, Sayable, CallFits, Fits}
use Rattle.script_read.proofs.Numeral.{numeral_digits, number_digits}

-- ---- words without a space come back from a line

no_space : List ℕ → Bool
no_space [] = true
no_space (b ∷ bs) = not (eqb b space) && no_space bs

no_spaces : List (List ℕ) → Bool
no_spaces [] = true
no_spaces (w ∷ ws) = no_space w && no_spaces ws

both : (a b : Bool) → (a && b) ≡ true → (a ≡ true) × (b ≡ true)
both true b h = (refl, h)
both false b h = absurd (false≢true h)

not_so : (a : Bool) → not a ≡ true → a ≡ false
not_so true h = sym h
not_so false h = refl

word_last : (w : List ℕ) → no_space w ≡ true → words_of w ≡ w ∷ []
unfolding no_space words_of
word_last [] h = refl
word_last (b ∷ bs) h =
    let p = both (not (eqb b space)) (no_space bs) h in
    rw (not_so (eqb b space) p.0, word_last bs p.1)

word_then : (w rest : List ℕ) → no_space w ≡ true → words_of (w ++ (space ∷ rest)) ≡ w ∷ words_of rest
unfolding no_space words_of
word_then [] rest h = refl
word_then (b ∷ bs) rest h =
    let p = both (not (eqb b space)) (no_space bs) h in
    rw (not_so (eqb b space) p.0, word_then bs rest p.1)

words_back : (w : List ℕ) (ws : List (List ℕ)) → no_spaces (w ∷ ws) ≡ true → words_of (spaced (w ∷ ws)) ≡ w ∷ ws
unfolding no_spaces spaced
words_back w [] h = word_last w (both (no_space w) true h).0
words_back w (v ∷ vs) h =
    let p = both (no_space w) (no_spaces (v ∷ vs)) h in
    word_then w (spaced (v ∷ vs)) p.0 ∙ ap (λ (ws : List (List ℕ)). w ∷ ws) (words_back v vs p.1)

-- ---- digits have no space, and are read back

digits_clear : (bs : List ℕ) → all_digits bs ≡ true → no_space bs ≡ true
unfolding no_space
digits_clear [] h = refl
digits_clear (b ∷ bs) h =
    let p = both (is_digit b) (all_digits bs) h in
    let low = leb-true 48 b (both (leb 48 b) (leb b 57) p.0).0 in
    rw (ne_eqb b space (λ e. omega arith), digits_clear bs p.1)

numeral_all : (bs : List ℕ) → is_numeral bs ≡ true → all_digits bs ≡ true
numeral_all [] h = refl
numeral_all (b ∷ bs) h = h

clear : (n : ℕ) → no_space (digits_of n) ≡ true
clear n = digits_clear (digits_of n) (numeral_all (digits_of n) (numeral_digits n))

module _ {a : ℕ} (ha : Wide a) where
  one_back : numbers_of (digits_of a ∷ []) ≡ Some (One a)
  unfolding numbers_after
  one_back = rw (number_digits a ha)

  module _ {b : ℕ} (hb : Wide b) where
    two_back : numbers_of (digits_of a ∷ digits_of b ∷ []) ≡ Some (Two a b)
    unfolding numbers_after
    two_back = rw (number_digits a ha, number_digits b hb)

    module _ {c : ℕ} (hc : Wide c) where
      three_back : numbers_of (digits_of a ∷ digits_of b ∷ digits_of c ∷ []) ≡ Some (Three a b c)
      unfolding numbers_after
      three_back = rw (number_digits a ha, number_digits b hb, number_digits c hc)

      four_back : {d : ℕ} → Wide d → numbers_of (digits_of a ∷ digits_of b ∷ digits_of c ∷ digits_of d ∷ []) ≡ Some (Four a b c d)
      unfolding numbers_after
      four_back {d} hd = rw (number_digits a ha, number_digits b hb, number_digits c hc, number_digits d hd)

widen : {n : ℕ} → Narrow n → Wide n
widen h = omega arith

-- ---- lines

-- a word that is neither `open` nor `retain`, with its numbers
call_back : (w : List ℕ) (ws : List (List ℕ)) {ns : Option Numbers} {m : Option Line} → no_spaces (w ∷ ws) ≡ true → same w open_word ≡ false → same w retain_word ≡ false
    → numbers_of ws ≡ ns → call_of w ns ≡ m → understood (spaced (w ∷ ws)) ≡ m
unfolding understood line_of
call_back w ws h o r q p = rw (words_back w ws h, o, r, q) p

bare_back : (w : List ℕ) {m : Option Line} → no_space w ≡ true → same w open_word ≡ false → same w retain_word ≡ false → nought_of w ≡ m → understood (spaced (w ∷ [])) ≡ m
unfolding no_spaces numbers_after call_of
bare_back w h o r p = call_back w [] (rw h) o r refl p

module _ {a : ℕ} (ha : Wide a) where
  single_back : (w : List ℕ) {m : Option Line} → no_space w ≡ true → same w open_word ≡ false → same w retain_word ≡ false → one_of w a ≡ m
      → understood (spaced (w ∷ digits_of a ∷ [])) ≡ m
  unfolding no_spaces call_of
  single_back w h o r p = call_back w (digits_of a ∷ []) (rw (h, clear a)) o r (one_back ha) p

  module _ {b : ℕ} where
    pair_back : Wide b → (w : List ℕ) {m : Option Line} → no_space w ≡ true → same w open_word ≡ false → same w retain_word ≡ false → two_of w a b ≡ m
        → understood (spaced (w ∷ digits_of a ∷ digits_of b ∷ [])) ≡ m
    unfolding no_spaces call_of
    pair_back hb w h o r p = call_back w (digits_of a ∷ digits_of b ∷ []) (rw (h, clear a, clear b)) o r (two_back ha hb) p

    module _ (hb : Narrow b) {c : ℕ} (hc : Wide c) where
      triple_back : (w : List ℕ) {m : Option Line} → no_space w ≡ true → same w open_word ≡ false → same w retain_word ≡ false → three_of w a b c ≡ m
          → understood (spaced (w ∷ digits_of a ∷ digits_of b ∷ digits_of c ∷ [])) ≡ m
      unfolding no_spaces call_of
      triple_back w h o r p =
          call_back w (digits_of a ∷ digits_of b ∷ digits_of c ∷ []) (rw (h, clear a, clear b, clear c)) o r (three_back ha (widen hb) hc) p

      fourfold_back : {d : ℕ} → Wide d → (w : List ℕ) {m : Option Line} → no_space w ≡ true → same w open_word ≡ false → same w retain_word ≡ false → four_of w a b c d ≡ m
          → understood (spaced (w ∷ digits_of a ∷ digits_of b ∷ digits_of c ∷ digits_of d ∷ [])) ≡ m
      unfolding no_spaces call_of
      fourfold_back {d} hd w h o r p =
          call_back w (digits_of a ∷ digits_of b ∷ digits_of c ∷ digits_of d ∷ []) (rw (h, clear a, clear b, clear c, clear d)) o r (four_back ha (widen hb) hc hd) p

open_back : (kind c n : ℕ) → kind ≤ 1 → Wide c → Narrow n → understood (printed (Some (Open kind c n))) ≡ Some (Open kind c n)
unfolding understood printed kind_word no_spaces no_space line_of open_of open_numbers kind_line narrow if_call same
open_back zero c n k hc hn =
    rw (words_back open_word (plain_word ∷ digits_of c ∷ digits_of n ∷ []) (rw (clear c, clear n)), two_back hc (widen hn), le-leb n most_narrow hn)
open_back (suc zero) c n k hc hn =
    rw (words_back open_word (weighed_word ∷ digits_of c ∷ digits_of n ∷ []) (rw (clear c, clear n)), two_back hc (widen hn), le-leb n most_narrow hn)
open_back (suc (suc kind)) c n k hc hn = absurd (omega arith)

-- ---- rules

-- a rule's words, with `not` or without
rule_back : (w : List ℕ) (ws : List (List ℕ)) (negated : Bool) {m : Option Line} → no_spaces (w ∷ ws) ≡ true → same w not_word ≡ false
    → rule_line negated (w ∷ ws) ≡ m → understood (spaced (retain_word ∷ cond negated (not_word ∷ (w ∷ ws)) (w ∷ ws))) ≡ m
unfolding understood no_spaces no_space line_of retain_of same
rule_back w ws true h o p =
    let q = both (no_space w) (no_spaces ws) h in
    rw (words_back retain_word (not_word ∷ (w ∷ ws)) (rw (q.0, q.1))) p
rule_back w ws false h o p =
    let q = both (no_space w) (no_spaces ws) h in
    rw (words_back retain_word (w ∷ ws) (rw (q.0, q.1)), o) p

module _ (negated : Bool) {a : ℕ} (ha : Wide a) where
  range_back : (w : List ℕ) {b : ℕ} {m : Option Line} → Wide b → no_space w ≡ true → same w not_word ≡ false → range_line negated w a b ≡ m
      → understood (spaced (retain_word ∷ cond negated (not_word ∷ (w ∷ digits_of a ∷ digits_of b ∷ [])) (w ∷ digits_of a ∷ digits_of b ∷ []))) ≡ m
  unfolding no_spaces rule_line rule_numbers
  range_back w {b} hb h o p =
      rule_back w (digits_of a ∷ digits_of b ∷ []) negated (rw (h, clear a, clear b)) o (rw (two_back ha hb) p)

  bound_back : (w : List ℕ) {m : Option Line} → no_space w ≡ true → same w not_word ≡ false → bound_line negated w a ≡ m
      → understood (spaced (retain_word ∷ cond negated (not_word ∷ (w ∷ digits_of a ∷ [])) (w ∷ digits_of a ∷ []))) ≡ m
  unfolding no_spaces rule_line rule_numbers
  bound_back w h o p = rule_back w (digits_of a ∷ []) negated (rw (h, clear a)) o (rw (one_back ha) p)

retain_back : (number : ℕ) (negated : Bool) (low high : ℕ) → Sayable (record { number = number; not = negated; low = low; high = high })
    → understood (spaced (call_words (Retain (record { number = number; not = negated; low = low; high = high })))) ≡ Some (Call (keeping number negated low high))
unfolding call_words rule_words bounds_words no_space same range_line bound_line if_call narrow
retain_back zero negated low high f = range_back negated f.low code_word f.high refl refl refl
retain_back (suc zero) negated low high f = range_back negated f.low value_word f.high refl refl refl
retain_back (suc (suc zero)) negated low high f =
    let s = f.stamp refl in
    bound_back negated f.low stamp_word refl refl (rw (le-leb low most_narrow s.0, s.1))
retain_back (suc (suc (suc zero))) negated low high f = bound_back negated f.high weight_word refl refl (rw (f.weight refl))
retain_back (suc (suc (suc (suc number)))) negated low high f = absurd (omega (arith, f.number))

-- ---- every line

command_back : (command : Command) → CallFits command → understood (spaced (call_words command)) ≡ Some (Call command)
unfolding call_words no_space same nought_of one_of two_of three_of four_of if_call narrow
command_back Len f = bare_back len_word refl refl refl refl
command_back Capacity f = bare_back capacity_word refl refl refl refl
command_back Weight f = bare_back weight_word refl refl refl refl
command_back IsEmpty f = bare_back is_empty_word refl refl refl refl
command_back IsFull f = bare_back is_full_word refl refl refl refl
command_back Front f = bare_back front_word refl refl refl refl
command_back Back f = bare_back back_word refl refl refl refl
command_back ListFront f = bare_back list_word refl refl refl refl
command_back ListBack f = bare_back list_back_word refl refl refl refl
command_back PopFront f = bare_back pop_front_word refl refl refl refl
command_back PopBack f = bare_back pop_back_word refl refl refl refl
command_back Clear f = bare_back clear_word refl refl refl refl
command_back (Peek c) f = single_back f peek_word refl refl refl refl
command_back (Contains c) f = single_back f contains_word refl refl refl refl
command_back (Get c) f = single_back f get_word refl refl refl refl
command_back (Pop c) f = single_back f pop_word refl refl refl refl
command_back (Resize v) f = single_back f resize_word refl refl refl refl
command_back (FrontMut v) f = single_back f front_mut_word refl refl refl refl
command_back (BackMut v) f = single_back f back_mut_word refl refl refl refl
command_back (GetMut c v) f = pair_back f.0 f.1 get_mut_word refl refl refl refl
command_back (PeekMut c v) f = pair_back f.0 f.1 peek_mut_word refl refl refl refl
command_back (Put c s v) f = triple_back f.0 f.1 f.2 put_word refl refl refl (rw (le-leb s most_narrow f.1))
command_back (PutOrModify c s v) f = triple_back f.0 f.1 f.2 put_or_modify_word refl refl refl (rw (le-leb s most_narrow f.1))
command_back (PutWithWeight c s v d) f = fourfold_back f.0 f.1 f.2 f.3 putw_word refl refl refl (rw (le-leb s most_narrow f.1))
command_back (TryPutOrModify c s v d) f = fourfold_back f.0 f.1 f.2 f.3 try_put_or_modify_word refl refl refl (rw (le-leb s most_narrow f.1))
command_back (Retain r) f = retain_back r.number r.not r.low r.high f

nothing_said : understood [] ≡ None
unfolding understood line_of words_of same numbers_after call_of nought_of if_call
nothing_said = refl

-- what is printed is understood as what it was
pub read_back : (line : Option Line) → Fits line → understood (printed line) ≡ line
unfolding printed
read_back (Some (Open kind c n)) f = open_back kind c n f.0 f.1 f.2
read_back (Some (Call command)) f = command_back command f
read_back None f = nothing_said
