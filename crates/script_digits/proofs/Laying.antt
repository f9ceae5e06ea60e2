-- Bytes laid one after another, and added to a text one after another.
-- Assumes nothing.
use Prim.Native.Nat.{ℕ, ◌+◌, ◌≤◌, ◌<◌}
use mathlib.Core.List.{List, [], ◌∷◌, ◌++◌, append_assoc}
use mathlib.Core.Path.{◌≡◌, refl, sym, ap, ◌∙◌}
use native.Mathlib.Omega.{arith}
use native.Mathlib.Numerals.{add-one}
use lib.ListN.{length, take, drop, set, length-append, length-drop, take-append-drop}
use lib.Seq.{length-take-le, set_split, take_at, drop_at, drop-drop}
use Rattle.script_digits.specs.declared.Text.{Text}
use Rattle.script_digits.specs.Laid.{Laid, Added}

-- nothing laid
pub laid_none : (at : ℕ) (b : List ℕ) → at ≤ length b → Laid at [] at b b
laid_none at b h =
    let z : at + 0 ≡ at = omega arith in
    record { room = omega arith; next = omega arith; same = sym (ap (λ (j : ℕ). take at b ++ drop j b) z ∙ take-append-drop at b) }

-- one byte laid
pub laid_one : {b a : List ℕ} (at x : ℕ) → at < length b → a ≡ set b at x → Laid at (x ∷ []) (at + 1) b a
laid_one {b} at x h e = record {
  room = omega arith;
  next = refl;
  same = e ∙ set_split b at x h ∙ ap (λ (j : ℕ). take at b ++ x ∷ drop j b) (sym (add-one at));
}

module _ {at : ℕ} {xs : List ℕ} {m : ℕ} {b₀ b₁ : List ℕ} (l : Laid at xs m b₀ b₁) where
  front : List ℕ
  front = take at b₀ ++ xs

  front_length : length front ≡ m
  unfolding front
  front_length = omega (arith, length-append (take at b₀) xs, length-take-le at b₀ (omega (arith, l.room)), l.next)

  parts : b₁ ≡ front ++ drop m b₀
  unfolding front
  parts = l.same ∙ sym (append_assoc (take at b₀) xs (drop (at + length xs) b₀)) ∙ ap (λ (j : ℕ). (take at b₀ ++ xs) ++ drop j b₀) (sym l.next)

  -- the buffer stays as long as it was
  pub laid_size : length b₁ ≡ length b₀
  laid_size = omega (arith, ap length parts, length-append front (drop m b₀), front_length, length-drop m b₀, l.room, l.next)

  -- what is laid behind it
  pub laid_then : {ys : List ℕ} {r : ℕ} {b₂ : List ℕ} → Laid m ys r b₁ b₂ → Laid at (xs ++ ys) r b₀ b₂
  unfolding front
  laid_then {ys} {r} {b₂} k =
      let many : length (xs ++ ys) ≡ length xs + length ys = length-append xs ys in
      let end : m + length ys ≡ at + length (xs ++ ys) = omega (arith, l.next) in
      let rest : drop (m + length ys) b₁ ≡ drop (at + length (xs ++ ys)) b₀ =
      sym (drop-drop (length ys) m b₁)
      ∙ ap (drop (length ys)) (ap (drop m) parts ∙ drop_at front (drop m b₀) m front_length)
      ∙ drop-drop (length ys) m b₀ ∙ ap (λ (j : ℕ). drop j b₀) end in
      let begin : take m b₁ ≡ take at b₀ ++ xs = ap (take m) parts ∙ take_at front (drop m b₀) m front_length in
      record {
        room = omega (arith, k.room, laid_size);
        next = k.next ∙ end;
        same =
            k.same ∙ ap (λ (t : List ℕ). t ++ (ys ++ drop (m + length ys) b₁)) begin
            ∙ ap (λ (t : List ℕ). (take at b₀ ++ xs) ++ (ys ++ t)) rest
            ∙ simp append_assoc;
      }

-- nothing added
pub added_none : {t : Text} → t.end ≤ length t.buffer.now → Added [] t t
added_none {t} h = record { list = refl; laid = laid_none t.end t.buffer.now h }

-- what is added behind it
pub added_then : {xs ys : List ℕ} {t u v : Text} → Added xs t u → Added ys u v → Added (xs ++ ys) t v
added_then a b = record { list = b.list ∙ a.list; laid = laid_then a.laid b.laid }
