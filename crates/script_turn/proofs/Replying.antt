-- Rows and answers as text, line after line.
-- Assumes nothing.
use Prim.Native.Nat.{ℕ, zero, suc, ◌+◌, ◌*◌, ◌≤◌, ◌<◌}
use mathlib.Core.Bool.{Bool}
use mathlib.Core.List.{List, [], ◌∷◌, ◌++◌, append_assoc, append-nil}
use mathlib.Core.Path.{◌≡◌, refl, sym, ap, ◌∙◌, subst}
use native.Mathlib.Omega.{arith}
use lib.ListN.{length, length-append}
use Rattle.head.specs.declared.Row.{Row}
use Rattle.head.specs.declared.Answer.{Answer}
use Rattle.head.specs.Fields.{Fields, Reach}
use Rattle.model.specs.Slots.{up_from}
use Rattle.store.specs.State.{entry_in, gather}
use Rattle.store.specs.Acts.{Writable}
use Rattle.script_digits.specs.declared.Text.{Text}
use Rattle.script_digits.specs.Laid.{Left, Added}
use Rattle.script_digits.proofs.Laying.{laid_size, added_none, added_then}
use Rattle.script_write.specs.Lines.{row_word, row_line, row_lines, closing_line, most_line}
use Rattle.script_write.proofs.Parts.{row_most}
use Rattle.script_turn.specs.Replies.{rows_from, Roomy, shown, replied}

-- ---- the rows, one after another

up_last : (a n : ℕ) → up_from a (suc n) ≡ up_from a n ++ ((a + n) ∷ [])
up_last a zero = ap (λ (x : ℕ). x ∷ []) (let z : a ≡ a + 0 = omega arith in z)
up_last a (suc n) = ap (λ (l : List ℕ). a ∷ l) (up_last (suc a) n ∙ ap (λ (x : ℕ). up_from (suc a) n ++ (x ∷ [])) (let z : suc a + n ≡ a + suc n = omega arith in z))

gather_last : (f : Fields) (xs : List ℕ) (x : ℕ) → gather f (xs ++ (x ∷ [])) ≡ gather f xs ++ (entry_in f x ∷ [])
gather_last f [] x = refl
gather_last f (y ∷ xs) x = ap (λ (l : List Row). entry_in f y ∷ l) (gather_last f xs x)

rows_last : (n : ℕ) (f : Fields) → rows_from (suc n) f ≡ rows_from n f ++ (entry_in f n ∷ [])
rows_last n f =
    let z : 0 + n ≡ n = omega arith in
    ap (gather f) (up_last 0 n ∙ ap (λ (x : ℕ). up_from 0 n ++ (x ∷ [])) z) ∙ gather_last f (up_from 0 n) n

lines_last : (word : List ℕ) (es : List Row) (e : Row) → row_lines word (es ++ (e ∷ [])) ≡ row_lines word es ++ row_line word e
lines_last word [] e = append-nil (row_line word e)
lines_last word (d ∷ es) e = ap (λ (l : List ℕ). row_line word d ++ l) (lines_last word es e) ∙ sym (append_assoc (row_line word d) (row_lines word es) (row_line word e))

lines_most : (stay : Bool) (es : List Row) → length (row_lines (row_word stay) es) ≤ length es * most_line
lines_most stay [] = omega arith
lines_most stay (e ∷ es) =
    omega (arith, length-append (row_line (row_word stay) e) (row_lines (row_word stay) es), row_most stay e, lines_most stay es)

rows_length : (a n : ℕ) (f : Fields) → length (gather f (up_from a n)) ≡ n
rows_length a zero f = refl
rows_length a (suc n) f = ap suc (rows_length (suc a) n f)

-- ---- the loop

-- the lines of the first j rows of n are added
pub record Writing (stay : Bool) (f : Fields) (n : ℕ) (t u : Text) (j : ℕ) : Type 0 where
  pub few : j ≤ n
  pub added : Added (row_lines (row_word stay) (rows_from j f)) t u

pub row_there : {n j : ℕ} {f : Fields} → Reach n f → j < n → Writable j f
row_there r h = record {
  codes = omega (arith, r.codes);
  stamps = omega (arith, r.stamps);
  values = omega (arith, r.values);
  weights = omega (arith, r.weights);
}

module _ {stay : Bool} {f : Fields} {n : ℕ} {t : Text} (p : Left (suc n * most_line) t) where
  pub writing_start : Writing stay f n t t 0
  writing_start = record { few = omega arith; added = added_none (omega arith) }

  module _ {u : Text} {j : ℕ} (w : Writing stay f n t u j) where
    end_most : u.end ≤ t.end + j * most_line
    end_most = omega (arith, w.added.laid.next, lines_most stay (rows_from j f), rows_length 0 j f)

    pub writing_room : Left most_line u
    writing_room =
        let m : suc j * most_line ≤ suc n * most_line = omega (arith, w.few) in
        omega (arith, end_most, laid_size w.added.laid)

    pub writing_step : {v : Text} {e : Row} → j < n → e ≡ entry_in f j → Added (row_line (row_word stay) e) u v → Writing stay f n t v (j + 1)
    writing_step {v} h q a =
        let e : row_lines (row_word stay) (rows_from j f) ++ row_line (row_word stay) (entry_in f j) ≡ row_lines (row_word stay) (rows_from (suc j) f) =
        sym (ap (row_lines (row_word stay)) (rows_last j f) ∙ lines_last (row_word stay) (rows_from j f) (entry_in f j)) in
        let k : j + 1 ≡ suc j = omega arith in
        rw k
        record {
          few = h;
          added = subst (λ (x : List ℕ). Added x t v) e (added_then w.added (subst (λ (x : Row). Added (row_line (row_word stay) x) u v) q a));
        }

    pub writing_end : n ≤ j → Added (row_lines (row_word stay) (rows_from n f)) t u
    writing_end h = let e : n ≡ j = omega (arith, w.few) in rw e w.added

-- ---- the whole text

-- the rows, then the closing line
pub replied_as : (stay : Bool) (f : Fields) (a : Answer) {d : ℕ} {t u v : Text} → d ≡ shown a f
    → Added (row_lines (row_word stay) (rows_from d f)) t u
    → Added (closing_line a) u v
    → Added (replied stay f a) t v
replied_as stay f a e p q = added_then (rw e at p) q

-- after the rows there is room for the closing line
pub closing_room : (stay : Bool) (f : Fields) (d : ℕ) {t u : Text} → Left (suc d * most_line) t → Added (row_lines (row_word stay) (rows_from d f)) t u → Left most_line u
closing_room stay f d {t} {u} p a =
    let w : Writing stay f d t u d = record { few = omega arith; added = a } in
    writing_room p w

pub roomy_as : (a : Answer) (f : Fields) {d : ℕ} {b : List ℕ} → d ≡ shown a f → Roomy (shown a f) f b → Roomy d f b
roomy_as a f e p = rw e p
