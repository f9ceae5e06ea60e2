-- A state of four slots worked by hand: it is sound, and with one link or one number changed it is not.
-- Assumes nothing.
use Prim.Native.Nat.{ℕ}
use mathlib.Core.Path.{refl}
use mathlib.Core.Bool.{false≢true}
use mathlib.Core.List.{List, [], ◌∷◌}
use Rattle.head.specs.declared.Head.{Head}
use Rattle.head.specs.Bounds.{none_mark, unused_mark}
use Rattle.list.specs.Links.{Sound}
use Rattle.list.specs.Inspect.{all_from, links_are, cell_ok, bare_ok, walk_ok, numbers_ok, links_ok}
use Rattle.list.proofs.Decide.{links_sound, sound_links}

-- slots 2 and 0 in use, 2 in front; slot 1 waits; slot 3 was never used
abbrev sample : ℕ → Head
sample back = record {
  kind = 0;
  capacity = 4;
  slots = 4;
  live = 2;
  weight = 0;
  front = record { 0 = 2 };
  back = record { 0 = back };
  top = record { 0 = 3 };
  depth = record { 0 = 1 };
}

abbrev nexts : ℕ → List ℕ
nexts last = last ∷ unused_mark ∷ 0 ∷ unused_mark ∷ []

prevs : List ℕ
prevs = 2 ∷ 0 ∷ none_mark ∷ none_mark ∷ []

stack : List ℕ
stack = 1 ∷ none_mark ∷ none_mark ∷ none_mark ∷ []

sample_sound : Sound (sample 0) (nexts none_mark) prevs stack
unfolding links_ok numbers_ok walk_ok cell_ok bare_ok links_are all_from prevs stack
sample_sound = links_sound (sample 0) (nexts none_mark) prevs stack refl

-- a ring
ring : Sound (sample 0) (nexts 2) prevs stack → ⊥
unfolding links_ok numbers_ok walk_ok cell_ok bare_ok links_are all_from prevs stack
ring s = false≢true (sound_links (sample 0) (nexts 2) prevs stack s)

-- another back
wrong_back : Sound (sample 2) (nexts none_mark) prevs stack → ⊥
unfolding links_ok numbers_ok walk_ok cell_ok bare_ok links_are all_from prevs stack
wrong_back s = false≢true (sound_links (sample 2) (nexts none_mark) prevs stack s)

-- a list that ends before the slot count
short : Sound (sample 0) (nexts none_mark) prevs [] → ⊥
unfolding links_ok numbers_ok prevs
short s = false≢true (sound_links (sample 0) (nexts none_mark) prevs [] s)
