-- A call is refused exactly for the causes of document 01's table, each where none that is checked before it holds; and so is opening.
-- Assumes nothing.
use Prim.Native.Nat.{ℕ}
use mathlib.Core.Bool.{Bool, true, false, cond, not, ◌&&◌, ◌||◌, false≢true}
use mathlib.Core.List.{List, [], ◌∷◌}
use mathlib.Core.Logic.{◌↔◌}
use mathlib.Core.Option.{Option, none, some}
use mathlib.Core.Path.{◌≡◌, refl, sym, ap, ◌∙◌}
use native.Mathlib.Omega.{arith}
use lib.Dec.{eqb, ltb}
use lib.ListN.{length}
use borrow.Author.Tests.{ltb-true, lt-ltb, le-ltb, eqb-true, eqb-false, eq-eqb}
use Rattle.head.specs.declared.Row.{Row}
use Rattle.head.specs.declared.Refusal.{Refusal}
use Rattle.head.specs.declared.Refusal.TheVariants.{NotOpened, Unsound, WrongKind, TooHeavy, NoSlot, TooFewRows, OverCeiling, NotUnderstood}
use Rattle.head.specs.declared.Answer.{Answer}
use Rattle.head.specs.declared.Answer.TheVariants.{No, New, Was, Is, Now, Absent, Entry, Done, Count, Flag}
use Rattle.head.specs.declared.Command.{Command}
use Rattle.head.specs.declared.Command.TheVariants.{PutWithWeight, Resize, TryPutOrModify}
use Rattle.head.specs.Bounds.{most_capacity, most_slots, allowed}
use Rattle.head.specs.Refusals.{number_of}
use Rattle.model.specs.Lists.{without}
use Rattle.model.specs.Desk.{plain, kind_of, Desk, entry, Found, absent, present, find, on_found, live}
use Rattle.model.specs.Perform.{Cache, Opening, refused, opened, fresh, opening, verdict, perform}
use Rattle.model.specs.Claims.{Lawful}
use Rattle.model.specs.Causes.{Wish, resizing, retaining, putting, trying, weighing, assigning, telling, another, wish_of, no_capacity, not_understood, wrong_kind, too_heavy, over_ceiling, evicts, no_slot, gone, to_hand_out, too_few_rows, cause, in_order, first_of, before, NoneHolds, Given, refusal_in, not_opened}
use Rattle.model.proofs.Cases.{split}
use Rattle.model.proofs.Saying.{bounds_test, kind_test, none_dropped, said_first}

-- ---- the first cause that holds

nothing : {X : Type 0} {r : Refusal} → ◌≡◌ {A = Option Refusal} none (some r) → X
nothing e = let z : ◌≡◌ {A = ℕ} 0 1 = cc in absurd (omega arith)

first_given : (holds : Refusal → Bool) (rs : List Refusal) (r : Refusal) → first_of holds rs ≡ some r → (holds r ≡ true) × NoneHolds holds (before r rs)
first_given holds [] r e = nothing e
first_given holds (q ∷ qs) r e =
    split (holds q)
    (λ t.
    let f : ◌≡◌ {A = Option Refusal} (some q) (some r) = rw t at e in
    let g : q ≡ r = cc in
    (rw (← g) t, rw (eq-eqb (number_of q) (number_of r) (ap number_of g)) tt))
    (λ t.
    let h = first_given holds qs r (rw t at e) in
    (h.0, split (eqb (number_of q) (number_of r)) (λ s. rw s tt) (λ s. rw s (t, h.1))))

given_first : (holds : Refusal → Bool) → holds NotOpened ≡ false → holds Unsound ≡ false → (r : Refusal) → Given holds r → first_of holds in_order ≡ some r
given_first holds a b NotOpened u = absurd (false≢true (sym a ∙ u.itself))
given_first holds a b Unsound u = absurd (false≢true (sym b ∙ u.itself))
given_first holds a b NotUnderstood u = rw u.itself
given_first holds a b WrongKind u = rw (u.earlier.0, u.itself)
given_first holds a b TooHeavy u = rw (u.earlier.0, u.earlier.1.0, u.itself)
given_first holds a b OverCeiling u = rw (u.earlier.0, u.earlier.1.0, u.earlier.1.1.0, u.itself)
given_first holds a b NoSlot u = rw (u.earlier.0, u.earlier.1.0, u.earlier.1.1.0, u.earlier.1.1.1.0, u.itself)
given_first holds a b TooFewRows u =
    rw (u.earlier.0, u.earlier.1.0, u.earlier.1.1.0, u.earlier.1.1.1.0, u.earlier.1.1.1.1.0, u.itself)

none_first : (holds : Refusal → Bool) (rs : List Refusal) → first_of holds rs ≡ none → NoneHolds holds rs
none_first holds [] e = tt
none_first holds (q ∷ qs) e =
    split (holds q)
    (λ t. nothing (sym (rw t at e)))
    (λ t. (t, none_first holds qs (rw t at e)))

first_none : (holds : Refusal → Bool) (rs : List Refusal) → NoneHolds holds rs → first_of holds rs ≡ none
first_none holds [] h = refl
first_none holds (q ∷ qs) h = rw h.0 (first_none holds qs h.1)

refused_no : (a : Answer) (r : Refusal) → refusal_in a ≡ some r → a ≡ No r
refused_no (No q) r e = cc
refused_no (New k) r e = nothing e
refused_no (Was v k) r e = nothing e
refused_no (Is v) r e = nothing e
refused_no (Now v b k) r e = nothing e
refused_no Absent r e = nothing e
refused_no (Entry v) r e = nothing e
refused_no (Done k) r e = nothing e
refused_no (Count k) r e = nothing e
refused_no (Flag b) r e = nothing e

-- ---- 5 and 6

-- no place for a code: it is absent, and where no eviction is called for none leaves
lacking : (f : Found) (full over : Bool) (n : ℕ) (k : ℕ → Row → ℕ) → (over ≡ false → n ≡ 0)
    → (on_found f true (λ i e. false) && full && not over) ≡ true → on_found f n k ≡ 0
lacking absent true true n k h t = absurd (false≢true t)
lacking absent true false n k h t = h refl
lacking absent false over n k h t = absurd (false≢true t)
lacking (present i e) full over n k h t = absurd (false≢true t)

none_gone : (w : Wish) (d : Desk) (es : List Row) → evicts w d es ≡ false → gone w d es ≡ 0
none_gone w d es t = ap length (none_dropped (evicts w d) (length es) es t)

-- where 5 holds, nothing leaves
pub no_slot_no_rows : (w : Wish) (d : Desk) → no_slot w d ≡ true → to_hand_out w d ≡ 0
no_slot_no_rows (putting c) d t =
    lacking (find c d.entries) (eqb (live d) d.room) (evicts (putting c) d d.entries) (gone (putting c) d d.entries) (λ i e. 0)
    (none_gone (putting c) d d.entries) t
no_slot_no_rows (trying c n most) d t =
    lacking (find c d.entries) (eqb (live d) d.room) (evicts (trying c n most) d d.entries) (gone (trying c n most) d d.entries) (λ i e. 0)
    (none_gone (trying c n most) d d.entries) t
no_slot_no_rows (weighing c w) d t =
    lacking (find c d.entries) (eqb (live d) d.room) (evicts (weighing c w) d d.entries) (gone (weighing c w) d d.entries) (λ i e. gone (weighing c w) d (without i d.entries))
    (none_gone (weighing c w) d d.entries) t
no_slot_no_rows (resizing c) d t = absurd (false≢true t)
no_slot_no_rows (retaining q) d t = absurd (false≢true t)
no_slot_no_rows assigning d t = absurd (false≢true t)
no_slot_no_rows telling d t = absurd (false≢true t)
no_slot_no_rows another d t = absurd (false≢true t)

-- numbers 5 and 6 cannot meet
pub apart_5_6 : (m : Command) (lent : ℕ) (d : Desk) → cause m lent d NoSlot ≡ true → cause m lent d TooFewRows ≡ true → ⊥
apart_5_6 m lent d s t = omega (arith, no_slot_no_rows (wish_of m) d s, ltb-true lent (to_hand_out (wish_of m) d) t)

-- on a lawful cache "no eviction called for" by `put` is live < C
pub idle_below : (c : ℕ) (d : Desk) → Lawful d → not (evicts (putting c) d d.entries) ≡ ltb (live d) d.capacity
idle_below c d l =
    split (eqb (live d) d.capacity)
    (λ t. rw (t, le-ltb (live d) d.capacity (omega (arith, eqb-true (live d) d.capacity t))))
    (λ t. rw (t, lt-ltb (live d) d.capacity (omega (arith, eqb-false (live d) d.capacity t, l.within))))

-- ---- every call

module _ (m : Command) (lent : ℕ) (c : Cache) where
  -- the answer, what is asked, the desk, and the causes there
  abbrev a : Answer
  a = (perform m lent c).answer

  abbrev w : Wish
  w = wish_of m

  abbrev d : Desk
  d = c.desk

  abbrev holds : Refusal → Bool
  holds = cause m lent c.desk

  -- the refusal of an answer is the first of the table's causes that holds
  pub refused_first : refusal_in a ≡ first_of holds in_order
  unfolding perform
  refused_first = said_first lent d m

  -- a refusal is answered exactly when its cause holds and none that is checked before it
  pub refused_exactly : (r : Refusal) → a ≡ No r ↔ Given holds r
  refused_exactly r = (
    λ e. let h = first_given holds in_order r (sym refused_first ∙ ap refusal_in e) in record { itself = h.0; earlier = h.1 },
    λ u. refused_no a r (refused_first ∙ given_first holds refl refl r u),
  )

  -- there is none exactly when no cause holds
  pub answered_exactly : refusal_in a ≡ none ↔ NoneHolds holds in_order
  answered_exactly = (λ e. none_first holds in_order (sym refused_first ∙ e), λ h. refused_first ∙ first_none holds in_order h)

  -- ---- number by number

  pub exactly_8 : a ≡ No NotUnderstood ↔ not_understood w ≡ true
  exactly_8 = (λ e. ((refused_exactly NotUnderstood).0 e).itself, λ h. (refused_exactly NotUnderstood).1 (record { itself = h; earlier = tt }))

  pub exactly_3 : a ≡ No WrongKind ↔ (not_understood w ≡ false) × (wrong_kind w d ≡ true)
  exactly_3 = (
    λ e. let u = (refused_exactly WrongKind).0 e in (u.earlier.0, u.itself),
    λ h. (refused_exactly WrongKind).1 (record { itself = h.1; earlier = (h.0, tt) }),
  )

  pub exactly_4 : a ≡ No TooHeavy ↔ (not_understood w ≡ false) × (wrong_kind w d ≡ false) × (too_heavy w d ≡ true)
  exactly_4 = (
    λ e. let u = (refused_exactly TooHeavy).0 e in (u.earlier.0, u.earlier.1.0, u.itself),
    λ h. (refused_exactly TooHeavy).1 (record { itself = h.2; earlier = (h.0, (h.1, tt)) }),
  )

  pub exactly_7 : a ≡ No OverCeiling
      ↔ (not_understood w ≡ false) × (wrong_kind w d ≡ false) × (too_heavy w d ≡ false) × (over_ceiling w d ≡ true)
  exactly_7 = (
    λ e. let u = (refused_exactly OverCeiling).0 e in (u.earlier.0, u.earlier.1.0, u.earlier.1.1.0, u.itself),
    λ h. (refused_exactly OverCeiling).1 (record { itself = h.3; earlier = (h.0, (h.1, (h.2, tt))) }),
  )

  pub exactly_5 : a ≡ No NoSlot
      ↔ (not_understood w ≡ false) × (wrong_kind w d ≡ false) × (too_heavy w d ≡ false) × (over_ceiling w d ≡ false) × (no_slot w d ≡ true)
  exactly_5 = (
    λ e.
        let u = (refused_exactly NoSlot).0 e in
        (u.earlier.0, u.earlier.1.0, u.earlier.1.1.0, u.earlier.1.1.1.0, u.itself),
    λ h. (refused_exactly NoSlot).1 (record { itself = h.4; earlier = (h.0, (h.1, (h.2, (h.3, tt)))) }),
  )

  pub exactly_6 : a ≡ No TooFewRows
      ↔ (not_understood w ≡ false) × (wrong_kind w d ≡ false) × (too_heavy w d ≡ false) × (over_ceiling w d ≡ false) × (no_slot w d ≡ false) × (too_few_rows w lent d ≡ true)
  exactly_6 = (
    λ e.
        let u = (refused_exactly TooFewRows).0 e in
        (u.earlier.0, u.earlier.1.0, u.earlier.1.1.0, u.earlier.1.1.1.0, u.earlier.1.1.1.1.0, u.itself),
    λ h. (refused_exactly TooFewRows).1 (record { itself = h.5; earlier = (h.0, (h.1, (h.2, (h.3, (h.4, tt))))) }),
  )

  -- no call on a cache answers 1, which is opening's, or 2, which is for what describes no cache
  pub never_1 : a ≡ No NotOpened → ⊥
  never_1 e = false≢true ((refused_exactly NotOpened).0 e).itself

  pub never_2 : a ≡ No Unsound → ⊥
  never_2 e = false≢true ((refused_exactly Unsound).0 e).itself

-- ---- where two causes hold, the one that is checked first is answered

-- a weight on a plain cache that is C or more
abbrev heavy : Command
heavy = PutWithWeight (record { 0 = 1 }) 0 10 2

met_3_4 : (cause heavy 0 (fresh plain 2 2).desk WrongKind ≡ true) × (cause heavy 0 (fresh plain 2 2).desk TooHeavy ≡ true)
    × ((perform heavy 0 (fresh plain 2 2)).answer ≡ No WrongKind)
unfolding perform verdict
met_3_4 = (refl, refl, refl)

-- a cache with its one slot taken, C = 2
abbrev taken : Cache
taken = record {
  desk = record { kind = plain; capacity = 2; room = 1; entries = entry 1 0 10 0 ∷ [] };
  slots = record { order = 0 ∷ []; free = []; top = 1 };
}

-- an amount over the ceiling for another code
abbrev over : Command
over = TryPutOrModify (record { 0 = 2 }) 0 20 10

met_7_5 : (cause over 0 taken.desk OverCeiling ≡ true) × (cause over 0 taken.desk NoSlot ≡ true) × ((perform over 0 taken).answer ≡ No OverCeiling)
unfolding perform verdict
met_7_5 = (refl, refl, refl)

met_8_6 : (cause (Resize 0) 0 taken.desk NotUnderstood ≡ true) × (cause (Resize 0) 0 taken.desk TooFewRows ≡ true)
    × ((perform (Resize 0) 0 taken).answer ≡ No NotUnderstood)
unfolding perform verdict
met_8_6 = (refl, refl, refl)

-- ---- opening

any_of : (k c n long : Bool) → ((k && (not c && not n)) && long) ≡ not (not k || c || n || not long)
any_of true true n long = refl
any_of true false true long = refl
any_of true false false true = refl
any_of true false false false = refl
any_of false c n long = refl

module _ (kind c n : ℕ) (long : Bool) where
  opening_test : (allowed kind c n && long) ≡ not (not_opened kind c n long)
  opening_test =
      rw (kind_test kind, bounds_test most_capacity c, bounds_test most_slots n)
      (any_of (eqb kind 0 || eqb kind 1) (no_capacity c) (eqb n 0 || ltb most_slots n) long)

  abbrev either : Bool → Opening
  either b = cond b (refused NotOpened) (opened (fresh (kind_of kind) c n))

  turned : (b : Bool) → cond (not b) (opened (fresh (kind_of kind) c n)) (refused NotOpened) ≡ either b
  turned true = refl
  turned false = refl

  -- opening gives the refusal where its cause holds, and else a cache just opened
  pub opening_is : opening kind c n long ≡ cond (not_opened kind c n long) (refused NotOpened) (opened (fresh (kind_of kind) c n))
  unfolding opening
  opening_is = rw opening_test (turned (not_opened kind c n long))

  pub exactly_1 : opening kind c n long ≡ refused NotOpened ↔ not_opened kind c n long ≡ true
  exactly_1 = (
    λ e.
        split (not_opened kind c n long)
        (λ t. t)
        (λ t.
        let f : ◌≡◌ {A = Opening} (refused NotOpened) (opened (fresh (kind_of kind) c n)) = sym e ∙ opening_is ∙ ap either t in
        let z : ◌≡◌ {A = ℕ} 0 1 = cc in
        absurd (omega arith)),
    λ t. opening_is ∙ ap either t,
  )
