-- An answer's numbers are no fewer than the answer: they settle it; and a refusal has no number but its own.
-- Assumes nothing.
use Prim.Native.Nat.{ℕ}
use mathlib.Core.Bool.{Bool, true, false, cond}
use mathlib.Core.Path.{◌≡◌, refl, sym, ap, ◌∙◌}
use lib.Dec.{eqb}
use Rattle.head.specs.declared.Answer.{Answer}
use Rattle.head.specs.declared.Answer.TheVariants.{No, New, Was, Is, Now, Absent, Entry, Done, Count, Flag}
use Rattle.head.specs.declared.Refusal.{Refusal}
use Rattle.head.specs.declared.Refusal.TheVariants.{NotOpened, Unsound, WrongKind, TooHeavy, NoSlot, TooFewRows, OverCeiling, NotUnderstood}
use Rattle.head.specs.Refusals.{number_of}
use Rattle.layout.specs.declared.Numbers.{Numbers}
use Rattle.layout.specs.Numbered.{bit, numbered, numbers_of}

-- the refusal of a number
refusal_at : ℕ → Refusal
refusal_at n =
    cond (eqb n 1) NotOpened
    (cond (eqb n 2) Unsound
    (cond (eqb n 3) WrongKind
    (cond (eqb n 4) TooHeavy (cond (eqb n 5) NoSlot (cond (eqb n 6) TooFewRows (cond (eqb n 7) OverCeiling NotUnderstood))))))

-- the number of a refusal leads back to it
refusal_back : (r : Refusal) → refusal_at (number_of r) ≡ r
unfolding refusal_at
refusal_back NotOpened = refl
refusal_back Unsound = refl
refusal_back WrongKind = refl
refusal_back TooHeavy = refl
refusal_back NoSlot = refl
refusal_back TooFewRows = refl
refusal_back OverCeiling = refl
refusal_back NotUnderstood = refl

-- the number of a truth leads back to it
bit_back : (b : Bool) → eqb (bit b) 1 ≡ b
bit_back true = refl
bit_back false = refl

-- the answer that has these numbers
answer_of : Numbers → Answer
answer_of n =
    cond (eqb n.word 0) (No (refusal_at n.refusal))
    (cond (eqb n.word 1) (New n.rows)
    (cond (eqb n.word 2) (Was n.value n.rows)
    (cond (eqb n.word 3) (Is n.value)
    (cond (eqb n.word 4) (Now n.value (eqb n.fresh 1) n.rows)
    (cond (eqb n.word 5) Absent
    (cond (eqb n.word 6) (Entry (record { code = record { 0 = n.code }; stamp = n.stamp; value = n.value; weight = n.weight }))
    (cond (eqb n.word 7) (Done n.rows) (cond (eqb n.word 8) (Count n.value) (Flag (eqb n.fresh 1))))))))))

-- the numbers of an answer lead back to it
answer_back : (a : Answer) → answer_of (numbers_of a) ≡ a
unfolding answer_of
answer_back (No r) = ap No (refusal_back r)
answer_back (New rows) = refl
answer_back (Was value rows) = refl
answer_back (Is value) = refl
answer_back (Now value new rows) = ap (λ (b : Bool). Now value b rows) (bit_back new)
answer_back Absent = refl
answer_back (Entry e) = refl
answer_back (Done rows) = refl
answer_back (Count n) = refl
answer_back (Flag b) = ap Flag (bit_back b)

-- two answers of the same numbers are one
pub numbers_settle : {a b : Answer} → numbers_of a ≡ numbers_of b → a ≡ b
numbers_settle {a} {b} e = sym (answer_back a) ∙ ap answer_of e ∙ answer_back b

-- every number in a refusal but its own is 0
pub refusal_bare : (r : Refusal) → numbers_of (No r) ≡ numbered (number_of r) 0 0 0 0 0 0 0
refusal_bare r = refl

-- and so is every number of an absence
pub absent_bare : numbers_of Absent ≡ numbered 0 5 0 0 0 0 0 0
absent_bare = refl
