-- The bytes of a line: its first word, whether a word is a keyword, and what number it is.
-- Assumes nothing.
use Prim.Native.Nat.{ℕ, suc, ◌+◌, ◌-◌, ◌*◌, ◌≤◌, ◌<◌}
use mathlib.Core.Bool.{Bool, true, false, cond, ◌&&◌}
use mathlib.Core.List.{List, [], ◌∷◌}
use mathlib.Core.Path.{◌≡◌, refl, sym, ap, ◌∙◌}
use native.Mathlib.Numerals.{add-one}
use native.Mathlib.Omega.{arith}
use lib.Dec.{eqb, ltb, leb, eqb-zero-suc, eqb-suc-suc}
use lib.ListN.{length, take, drop, get_or}
use lib.Seq.{drop-cons}
use borrow.Author.Tests.{ne_eqb, le-leb, lt-leb, ltb-false}
use denote.Ref.{Bor}
use Rattle.head.specs.declared.Command.{Command}
use Rattle.std.specs.Prelude.{Option, Some, None, nat_eq}
use Rattle.std.specs.List.{position_or_len, position, find}
use Rattle.std.specs.Option.{unwrap_or, option_map}
use Rattle.std.specs.Cmp.Lexicographic.{pointwise}
use Rattle.std.proofs.lemmas.List.{at_drop_all}
use Rattle.std.proofs.lemmas.List.Sums.{prefix_len-le-length}
use Rattle.script_digits.specs.Decimal.{is_digit, all_digits, value_after}
use Rattle.script_read.specs.declared.Line.{Line}
use Rattle.script_read.specs.declared.Line.TheVariants.{Call}
use Rattle.script_read.specs.declared.Numbers.{Numbers}
use Rattle.script_read.specs.Keywords.{same}
use Rattle.script_read.specs.Words.{space, words_of, words_past}
use Rattle.script_read.specs.Numerals.{most_wide, number_of, with_one, where_number, numbers_after}
use Rattle.script_read.specs.Grammar.{if_call, call_named}

split : {P : Type 0} (b : Bool) → (b ≡ true → P) → (b ≡ false → P) → P
split true f g = f refl
split false f g = g refl

-- ---- the first word

abbrev pub is_space : ℕ → Bool
is_space b = eqb b space

one_more : (n : ℕ) → 1 + n ≡ suc n
one_more n = omega arith

first_cut : (bs : List ℕ) → words_of bs ≡ take (position_or_len is_space bs) bs ∷ words_past (drop (position_or_len is_space bs) bs)
unfolding words_of
first_cut [] = refl
first_cut (b ∷ bs) = split (eqb b space) (λ e. rw e) (λ e. rw (e, first_cut bs, one_more (position_or_len is_space bs)))

-- the length of the first word: up to the first space, or all
abbrev pub word_length : List ℕ → ℕ
word_length bs = unwrap_or (position is_space bs) (length bs)

length_is : (bs : List ℕ) → word_length bs ≡ position_or_len is_space bs
length_is bs =
    let most : position_or_len is_space bs ≤ length bs = prefix_len-le-length _ bs in
    split (ltb (position_or_len is_space bs) (length bs))
    (λ e. rw e)
    (λ e. rw e (omega (arith, ltb-false (position_or_len is_space bs) (length bs) e)))

pub word_cut : (bs : List ℕ) → words_of bs ≡ take (word_length bs) bs ∷ words_past (drop (word_length bs) bs)
word_cut bs = rw (length_is bs) (first_cut bs)

-- ---- the same bytes as a keyword

pub same_equal : (w key : List ℕ) → pointwise nat_eq w key ≡ same w key
unfolding same
same_equal [] [] = refl
same_equal [] (k ∷ ks) = refl
same_equal (b ∷ bs) [] = refl
same_equal (b ∷ bs) (k ∷ ks) = ap (λ (t : Bool). eqb b k && t) (same_equal bs ks)

-- a word read byte by byte from i on
abbrev pub reads : List ℕ → ℕ → List ℕ → Bool
reads w i [] = true
reads w i (k ∷ ks) = eqb (get_or w i 0) k && reads w (suc i) ks

reads_behind : (b : ℕ) (w : List ℕ) (i : ℕ) (key : List ℕ) → reads (b ∷ w) (suc i) key ≡ reads w i key
reads_behind b w i [] = refl
reads_behind b w i (k ∷ ks) = ap (λ (t : Bool). eqb (get_or w i 0) k && t) (reads_behind b w (suc i) ks)

and_swap : (a b c : Bool) → (a && (b && c)) ≡ (b && (a && c))
and_swap true b c = refl
and_swap false true c = refl
and_swap false false c = refl

-- as a `match` reads it: the length, and then each byte
pub same_reads : (w key : List ℕ) → same w key ≡ (eqb (length w) (length key) && reads w 0 key)
unfolding same
same_reads [] [] = refl
same_reads [] (k ∷ ks) = rw (eqb-zero-suc (length ks))
same_reads (b ∷ bs) [] = rw (ne_eqb (suc (length bs)) 0 (λ e. omega arith))
same_reads (b ∷ bs) (k ∷ ks) =
    rw (same_reads bs ks, eqb-suc-suc (length bs) (length ks), reads_behind b bs 0 ks)
    (and_swap (eqb b k) (eqb (length bs) (length ks)) (reads bs 0 ks))

-- ---- a call by its keyword

-- whether a keyword is the word
abbrev pub is_named : List ℕ → Bor (List ℕ) × Command → Bool
is_named w (key, command) = pointwise nat_eq w key.now

-- the call beside a keyword
abbrev pub said : Bor (List ℕ) × Command → Line
said (key, command) = Call command

pub named : (w : List ℕ) (choices : List (Bor (List ℕ) × Command)) → option_map said (find (is_named w) choices) ≡ call_named w choices
unfolding if_call
named w [] = refl
named w ((key, command) ∷ choices) =
    let e = same_equal w key.now in
    split (same w key.now) (λ t. rw (e, t)) (λ t. rw (e, t) (named w choices))

-- the pair that was found, or none
pub named_some : (w : List ℕ) (choices : List (Bor (List ℕ) × Command)) {r : Option (Bor (Bor (List ℕ) × Command))} {x : Bor (Bor (List ℕ) × Command)}
    → option_map (λ p. p.now) r ≡ find (is_named w) choices → r ≡ Some x → Some (said x.now) ≡ call_named w choices
named_some w choices q e = ap (option_map said) (rw e at q) ∙ named w choices

pub named_none : (w : List ℕ) (choices : List (Bor (List ℕ) × Command)) {r : Option (Bor (Bor (List ℕ) × Command))}
    → option_map (λ p. p.now) r ≡ find (is_named w) choices → r ≡ None → None ≡ call_named w choices
named_none w choices q e = ap (option_map said) (rw e at q) ∙ named w choices

-- ---- a number

-- digits behind digits of value v
abbrev pub number_after : ℕ → List ℕ → Option ℕ
number_after v bs = cond (all_digits bs && leb (value_after v bs) most_wide) (Some (value_after v bs)) None

pub value_grows : (v : ℕ) (bs : List ℕ) → v ≤ value_after v bs
value_grows v [] = omega arith
value_grows v (b ∷ bs) = omega (arith, value_grows (10 * v + (b - 48)) bs)

and_no : (a : Bool) → (a && false) ≡ false
and_no true = refl
and_no false = refl

number_bad : (v b : ℕ) (bs : List ℕ) → is_digit b ≡ false → number_after v (b ∷ bs) ≡ None
number_bad v b bs q = rw q

number_step : (v b : ℕ) (bs : List ℕ) → is_digit b ≡ true → number_after v (b ∷ bs) ≡ number_after (10 * v + (b - 48)) bs
number_step v b bs q = rw q

number_past : (v : ℕ) (bs : List ℕ) → most_wide < v → number_after v bs ≡ None
number_past v bs h =
    let past : most_wide < value_after v bs = omega (arith, value_grows v bs) in
    rw (lt-leb (value_after v bs) most_wide past, and_no (all_digits bs))

pub number_none : (w : List ℕ) → length w ≡ 0 → number_of w ≡ None
unfolding number_of
number_none [] h = refl
number_none (b ∷ bs) h = absurd (omega arith)

pub number_start : (w : List ℕ) → (length w ≡ 0 → ⊥) → number_of w ≡ number_after 0 w
unfolding number_of
number_start [] h = absurd (h refl)
number_start (b ∷ bs) h = refl

-- the digits from i on stand behind digits of value v
module _ (w : List ℕ) (v i : ℕ) (q : number_of w ≡ number_after v (drop i w)) where
  pub number_last : length w ≤ i → v ≤ most_wide → Some v ≡ number_of w
  number_last h k =
      sym (q ∙ at_drop_all (number_after v) w i h ∙ rw (le-leb v most_wide k))

  module _ (h : i < length w) where
    pub number_wrong : is_digit (get_or w i 0) ≡ false → None ≡ number_of w
    number_wrong d = sym (q ∙ ap (number_after v) (drop-cons w i 0 h) ∙ number_bad v (get_or w i 0) (drop (suc i) w) d)

    module _ (d : is_digit (get_or w i 0) ≡ true) where
      stepped : number_of w ≡ number_after (10 * v + (get_or w i 0 - 48)) (drop (suc i) w)
      stepped = q ∙ ap (number_after v) (drop-cons w i 0 h) ∙ number_step v (get_or w i 0) (drop (suc i) w) d

      pub number_wide : most_wide < 10 * v + (get_or w i 0 - 48) → None ≡ number_of w
      number_wide k = sym (stepped ∙ number_past _ (drop (suc i) w) k)

      pub number_more : (n : ℕ) → n ≡ v * 10 + (get_or w i 0 - 48) → number_of w ≡ number_after n (drop (i + 1) w)
      number_more n e =
          let e' : 10 * v + (get_or w i 0 - 48) ≡ n = omega arith in
          stepped ∙ rw (e', add-one i)

-- ---- the numbers behind a word

never : (n : Option ℕ) (f : ℕ → Option Numbers) → ((x : ℕ) → f x ≡ None) → where_number n f ≡ None
never None f h = refl
never (Some x) f h = h x

-- words behind what are no numbers are no numbers
numbers_wrong : (ws : List (List ℕ)) → numbers_after None ws ≡ None
unfolding numbers_after
numbers_wrong [] = refl
numbers_wrong (w ∷ ws) = never (number_of w) _ (λ x. numbers_wrong ws)

-- a word w stands in front of words ws
module _ {all : List (List ℕ)} (w : List ℕ) (ws : List (List ℕ)) (cut : all ≡ w ∷ ws) (ns : Option Numbers) where
  pub numbers_bad : None ≡ number_of w → None ≡ numbers_after ns all
  unfolding numbers_after
  numbers_bad q = rw (cut, ← q)

  module _ (x : ℕ) (q : Some x ≡ number_of w) where
    stepped_on : numbers_after ns all ≡ numbers_after (with_one ns x) ws
    unfolding numbers_after
    stepped_on = rw (cut, ← q)

    pub numbers_full : None ≡ with_one ns x → None ≡ numbers_after ns all
    numbers_full e = sym (stepped_on ∙ rw (← e) (numbers_wrong ws))

    pub numbers_more : (m : Option Numbers) → m ≡ with_one ns x → numbers_after ns all ≡ numbers_after m ws
    numbers_more m e = stepped_on ∙ rw (← e)

pub numbers_last : (ns : Option Numbers) (all : List (List ℕ)) → all ≡ [] → ns ≡ numbers_after ns all
unfolding numbers_after
numbers_last ns all e = rw e
