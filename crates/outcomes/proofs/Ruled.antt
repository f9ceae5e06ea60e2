-- What a contract rules out: an answer, entries left, a capacity left or rows handed out that are not those of `perform`.
-- Assumes nothing.
use Prim.Native.Nat.{ℕ}
use mathlib.Core.Bool.{Bool, true, false, ◌&&◌, true≢false}
use mathlib.Core.List.{List, [], ◌∷◌, ◌++◌}
use mathlib.Core.Path.{◌≡◌, refl, sym, ap, ◌∙◌}
use lib.Dec.{eqb}
use lib.ListN.{length, drop}
use borrow.Author.Tests.{eq-eqb}
use Rattle.head.specs.declared.Row.{Row}
use Rattle.head.specs.declared.Answer.{Answer}
use Rattle.head.specs.declared.Command.{Command}
use Rattle.head.specs.Fields.{Fields}
use Rattle.head.specs.Forms.{form_of}
use Rattle.model.specs.Perform.{Cache, perform}
use Rattle.store.proofs.Settled.{one_cache}
use Rattle.rows.specs.Written.{column}
use Rattle.plan.specs.States.{State, Means}
use Rattle.door.specs.Served.{Serves, Calls, Tells, Reads, is_reader, is_teller, if_taken, rows_taken, shortest}
use Rattle.layout.specs.declared.Numbers.{Numbers}
use Rattle.layout.specs.Numbered.{numbers_of}
use Rattle.outcomes.specs.Samples.{Shows}

-- ---- numbers that differ

-- whether two lists are the same
abbrev pub same : List ℕ → List ℕ → Bool
same [] [] = true
same [] (y ∷ ys) = false
same (x ∷ xs) [] = false
same (x ∷ xs) (y ∷ ys) = eqb x y && same xs ys

-- a list is the same as itself
same_self : (xs : List ℕ) → same xs xs ≡ true
same_self [] = refl
same_self (x ∷ xs) = rw (eq-eqb x x refl) (same_self xs)

-- lists that the test tells apart are not equal
differ : (xs ys : List ℕ) → same xs ys ≡ false → xs ≡ ys → ⊥
differ xs ys n e = true≢false (sym (same_self xs) ∙ ap (same xs) e ∙ n)

-- the numbers of an answer in a row
abbrev pub spelt : Answer → List ℕ
spelt a =
    let n : Numbers = numbers_of a in
    n.word ∷ n.refusal ∷ n.value ∷ n.rows ∷ n.fresh ∷ n.code ∷ n.stamp ∷ n.weight ∷ []

-- the numbers of entries in a row
abbrev pub rows_spelt : List Row → List ℕ
rows_spelt [] = []
rows_spelt (e ∷ es) = e.code.0 ∷ e.stamp ∷ e.value ∷ e.weight ∷ rows_spelt es

-- ---- answers

-- an answer that is b is not w
pub answer_not : {a b w : Answer} → a ≡ b → same (spelt b) (spelt w) ≡ false → a ≡ w → ⊥
answer_not {b = b} {w} e n q = differ (spelt b) (spelt w) n (ap spelt (sym e ∙ q))

-- a reading call does not answer w
pub read_says : {m : Command} {s : State} {a w : Answer} {c : Cache} → Reads m s a → Means s c
    → same (spelt (if_taken (is_reader (form_of m)) (perform m 0 c).answer)) (spelt w) ≡ false
    → a ≡ w → ⊥
read_says {c = c} x d n = answer_not (x.sound c d) n

-- a telling call does not answer w
pub tell_says : {m : Command} {s : State} {rows out : Fields} {a w : Answer} {c : Cache} → Tells m s rows out a → Means s c
    → same (spelt (if_taken (is_teller (form_of m)) (perform m (shortest rows) c).answer)) (spelt w) ≡ false
    → a ≡ w → ⊥
tell_says {c = c} x d n = answer_not (x.answer c d) n

-- a serving call does not answer w
pub serve_says : {m : Command} {lent : ℕ} {s t : State} {a w : Answer} {c : Cache} → Serves m lent s t a → Means s c
    → same (spelt (perform m lent c).answer) (spelt w) ≡ false
    → a ≡ w → ⊥
serve_says {c = c} x d n = answer_not (x.sound c d).answer n

-- a call does not answer w
pub call_says : {m : Command} {s t : State} {rows out : Fields} {a w : Answer} {c : Cache} → Calls m s t rows out a → Means s c
    → same (spelt (perform m (shortest rows) c).answer) (spelt w) ≡ false
    → a ≡ w → ⊥
call_says x d n = serve_says x.serves d n

-- ---- what is left

-- a serving call does not leave these entries
pub serve_leaves : {m : Command} {lent : ℕ} {s t : State} {a : Answer} {c : Cache} {es : List Row} → Serves m lent s t a → Means s c
    → same (rows_spelt (perform m lent c).left.desk.entries) (rows_spelt es) ≡ false
    → Shows t es → ⊥
serve_leaves {m} {lent} {c = c} {es} x d n w =
    differ (rows_spelt (perform m lent c).left.desk.entries) (rows_spelt es) n
    (ap (λ (y : Cache). rows_spelt y.desk.entries) (one_cache (x.sound c d).left w.means) ∙ ap rows_spelt w.entries)

-- a call does not leave these entries
pub call_leaves : {m : Command} {s t : State} {rows out : Fields} {a : Answer} {c : Cache} {es : List Row} → Calls m s t rows out a → Means s c
    → same (rows_spelt (perform m (shortest rows) c).left.desk.entries) (rows_spelt es) ≡ false
    → Shows t es → ⊥
call_leaves x d n = serve_leaves x.serves d n

-- a call does not leave this capacity
pub call_caps : {m : Command} {s t : State} {rows out : Fields} {a : Answer} {c : Cache} {k : ℕ} → Calls m s t rows out a → Means s c
    → same ((perform m (shortest rows) c).left.desk.capacity ∷ []) (k ∷ []) ≡ false
    → t.head.capacity ≡ k → ⊥
call_caps {m} {rows = rows} {c = c} {k} x d n q =
    differ ((perform m (shortest rows) c).left.desk.capacity ∷ []) (k ∷ []) n
    (ap (λ (j : ℕ). j ∷ []) (sym (x.serves.sound c d).left.capacity ∙ q))

-- ---- rows

-- the codes of rows over a list
abbrev pub over : List Row → List ℕ → List ℕ
over rs l = column (λ e. e.code.0) rs ++ drop (length (column (λ e. e.code.0) rs)) l

-- a telling call does not hand out these codes
pub tell_hands : {m : Command} {s : State} {rows out : Fields} {a : Answer} {c : Cache} {l : List ℕ} → Tells m s rows out a → Means s c
    → same (over (rows_taken (is_teller (form_of m)) (perform m (shortest rows) c).rows) rows.codes) l ≡ false
    → out.codes ≡ l → ⊥
tell_hands {m} {rows = rows} {c = c} {l} x d n q =
    differ (over (rows_taken (is_teller (form_of m)) (perform m (shortest rows) c).rows) rows.codes) l n (sym (x.hands c d).codes.same ∙ q)

-- a call does not hand out these codes
pub call_hands : {m : Command} {s t : State} {rows out : Fields} {a : Answer} {c : Cache} {l : List ℕ} → Calls m s t rows out a → Means s c
    → same (over (perform m (shortest rows) c).rows rows.codes) l ≡ false
    → out.codes ≡ l → ⊥
call_hands {m} {rows = rows} {c = c} {l} x d n q =
    differ (over (perform m (shortest rows) c).rows rows.codes) l n (sym (x.hands c d).codes.same ∙ q)
