-- The words of the script as bytes, and the test that two words are the same.
-- Assumes nothing.
use Rattle.std.specs.Prelude.{ℕ, Bool, true, false, ◌&&◌, List, [], ◌∷◌, eqb}

-- the same bytes
unfoldable pub same : List ℕ → List ℕ → Bool
same [] [] = true
same [] (k ∷ ks) = false
same (b ∷ bs) [] = false
same (b ∷ bs) (k ∷ ks) = eqb b k && same bs ks

-- open
abbrev pub open_word : List ℕ
open_word = 111 ∷ 112 ∷ 101 ∷ 110 ∷ []

-- plain
abbrev pub plain_word : List ℕ
plain_word = 112 ∷ 108 ∷ 97 ∷ 105 ∷ 110 ∷ []

-- weighed
abbrev pub weighed_word : List ℕ
weighed_word = 119 ∷ 101 ∷ 105 ∷ 103 ∷ 104 ∷ 101 ∷ 100 ∷ []

-- put
abbrev pub put_word : List ℕ
put_word = 112 ∷ 117 ∷ 116 ∷ []

-- putw
abbrev pub putw_word : List ℕ
putw_word = 112 ∷ 117 ∷ 116 ∷ 119 ∷ []

-- put_or_modify
abbrev pub put_or_modify_word : List ℕ
put_or_modify_word = 112 ∷ 117 ∷ 116 ∷ 95 ∷ 111 ∷ 114 ∷ 95 ∷ 109 ∷ 111 ∷ 100 ∷ 105 ∷ 102 ∷ 121 ∷ []

-- try_put_or_modify
abbrev pub try_put_or_modify_word : List ℕ
try_put_or_modify_word = 116 ∷ 114 ∷ 121 ∷ 95 ∷ 112 ∷ 117 ∷ 116 ∷ 95 ∷ 111 ∷ 114 ∷ 95 ∷ 109 ∷ 111 ∷ 100 ∷ 105 ∷ 102 ∷ 121 ∷ []

-- get
abbrev pub get_word : List ℕ
get_word = 103 ∷ 101 ∷ 116 ∷ []

-- peek
abbrev pub peek_word : List ℕ
peek_word = 112 ∷ 101 ∷ 101 ∷ 107 ∷ []

-- contains
abbrev pub contains_word : List ℕ
contains_word = 99 ∷ 111 ∷ 110 ∷ 116 ∷ 97 ∷ 105 ∷ 110 ∷ 115 ∷ []

-- pop
abbrev pub pop_word : List ℕ
pop_word = 112 ∷ 111 ∷ 112 ∷ []

-- is_empty
abbrev pub is_empty_word : List ℕ
is_empty_word = 105 ∷ 115 ∷ 95 ∷ 101 ∷ 109 ∷ 112 ∷ 116 ∷ 121 ∷ []

-- is_full
abbrev pub is_full_word : List ℕ
is_full_word = 105 ∷ 115 ∷ 95 ∷ 102 ∷ 117 ∷ 108 ∷ 108 ∷ []

-- len
abbrev pub len_word : List ℕ
len_word = 108 ∷ 101 ∷ 110 ∷ []

-- capacity
abbrev pub capacity_word : List ℕ
capacity_word = 99 ∷ 97 ∷ 112 ∷ 97 ∷ 99 ∷ 105 ∷ 116 ∷ 121 ∷ []

-- weight
abbrev pub weight_word : List ℕ
weight_word = 119 ∷ 101 ∷ 105 ∷ 103 ∷ 104 ∷ 116 ∷ []

-- front
abbrev pub front_word : List ℕ
front_word = 102 ∷ 114 ∷ 111 ∷ 110 ∷ 116 ∷ []

-- back
abbrev pub back_word : List ℕ
back_word = 98 ∷ 97 ∷ 99 ∷ 107 ∷ []

-- pop_front
abbrev pub pop_front_word : List ℕ
pop_front_word = 112 ∷ 111 ∷ 112 ∷ 95 ∷ 102 ∷ 114 ∷ 111 ∷ 110 ∷ 116 ∷ []

-- pop_back
abbrev pub pop_back_word : List ℕ
pop_back_word = 112 ∷ 111 ∷ 112 ∷ 95 ∷ 98 ∷ 97 ∷ 99 ∷ 107 ∷ []

-- list
abbrev pub list_word : List ℕ
list_word = 108 ∷ 105 ∷ 115 ∷ 116 ∷ []

-- list_back
abbrev pub list_back_word : List ℕ
list_back_word = 108 ∷ 105 ∷ 115 ∷ 116 ∷ 95 ∷ 98 ∷ 97 ∷ 99 ∷ 107 ∷ []

-- clear
abbrev pub clear_word : List ℕ
clear_word = 99 ∷ 108 ∷ 101 ∷ 97 ∷ 114 ∷ []

-- get_mut
abbrev pub get_mut_word : List ℕ
get_mut_word = 103 ∷ 101 ∷ 116 ∷ 95 ∷ 109 ∷ 117 ∷ 116 ∷ []

-- peek_mut
abbrev pub peek_mut_word : List ℕ
peek_mut_word = 112 ∷ 101 ∷ 101 ∷ 107 ∷ 95 ∷ 109 ∷ 117 ∷ 116 ∷ []

-- front_mut
abbrev pub front_mut_word : List ℕ
front_mut_word = 102 ∷ 114 ∷ 111 ∷ 110 ∷ 116 ∷ 95 ∷ 109 ∷ 117 ∷ 116 ∷ []

-- back_mut
abbrev pub back_mut_word : List ℕ
back_mut_word = 98 ∷ 97 ∷ 99 ∷ 107 ∷ 95 ∷ 109 ∷ 117 ∷ 116 ∷ []

-- retain
abbrev pub retain_word : List ℕ
retain_word = 114 ∷ 101 ∷ 116 ∷ 97 ∷ 105 ∷ 110 ∷ []

-- not
abbrev pub not_word : List ℕ
not_word = 110 ∷ 111 ∷ 116 ∷ []

-- code
abbrev pub code_word : List ℕ
code_word = 99 ∷ 111 ∷ 100 ∷ 101 ∷ []

-- value
abbrev pub value_word : List ℕ
value_word = 118 ∷ 97 ∷ 108 ∷ 117 ∷ 101 ∷ []

-- stamp
abbrev pub stamp_word : List ℕ
stamp_word = 115 ∷ 116 ∷ 97 ∷ 109 ∷ 112 ∷ []

-- resize
abbrev pub resize_word : List ℕ
resize_word = 114 ∷ 101 ∷ 115 ∷ 105 ∷ 122 ∷ 101 ∷ []
