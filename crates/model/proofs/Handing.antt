-- An answer counts the rows that its call hands out; they are no more than were lent; and no call changes how many slots there are.
-- Assumes nothing.
use Prim.Native.Nat.{ℕ, ◌+◌, ◌-◌, ◌≤◌}
use mathlib.Core.Bool.{true, ◌&&◌}
use mathlib.Core.List.{List}
use mathlib.Core.Path.{◌≡◌, refl, sym, ◌∙◌}
use native.Mathlib.Omega.{arith}
use lib.Dec.{eqb, leb, ltb}
use lib.ListN.{length, drop, length-drop, length-reverse}
use borrow.Author.Tests.{eqb-true, leb-true}
use Rattle.head.specs.declared.Row.{Row}
use Rattle.head.specs.declared.Answer.{Answer}
use Rattle.head.specs.declared.Answer.TheVariants.{New, Now}
use Rattle.head.specs.declared.Command.{Command}
use Rattle.head.specs.declared.Command.TheVariants.{Len, Capacity, Weight, IsEmpty, IsFull, Front, Back, Peek, Contains, List as ListFront, ListBack, Get, Pop, PopFront, PopBack, Put, PutWithWeight, Clear, Retain, Resize, PutOrModify, TryPutOrModify, GetMut, PeekMut, FrontMut, BackMut}
use Rattle.head.specs.Answers.{row_count}
use Rattle.head.specs.Bounds.{capacity_ok}
use Rattle.model.specs.Lists.{without, oldest}
use Rattle.model.specs.Desk.{Desk, Found, find, first, last, live, entry, leaving, is_rule}
use Rattle.model.specs.Moves.{Move, stay, raise, set, renew, drop as drop_at, place, replace, fit, sweep, clear, on_desk}
use Rattle.model.specs.Calls.{Verdict, admit, pushing, beside, wrong_weight, showing, popping, setting, put_or_modify_call}
use Rattle.model.specs.Perform.{Cache, verdict, handed, perform}
use Rattle.model.proofs.Cases.{split}
use Rattle.model.proofs.Verdicts.{on_test, on_found_lem, on_plain_lem, on_lent}

-- the last k of a list that has as many are k
pub oldest_length : {A : Type 0} (k : ℕ) (xs : List A) → k ≤ length xs → length (oldest k xs) ≡ k
oldest_length k xs h = omega (arith, length-reverse (drop (length xs - k) xs), length-drop (length xs - k) xs)

-- ---- the rows counted

-- a verdict's answer counts its rows
abbrev Counts : Verdict → Type 0
Counts v = row_count v.answer ≡ length v.rows

-- what must leave for a budget is there
all_leave : (b : ℕ) (es : List Row) → leaving b es ≤ length es
all_leave b es = omega arith

module _ (d : Desk) (room : 1 ≤ d.capacity) where
  -- what an absent code pushes out is there
  pushed : pushing d ≤ live d
  pushed =
      split (eqb (live d) d.capacity)
      (λ t. let z = eqb-true (live d) d.capacity t in rw t (omega arith))
      (λ t. rw t (omega arith))

  -- an entry let in counts those that it pushes out
  admitted : (k : ℕ) (e : Row) (a : Answer) → row_count a ≡ k → k ≤ live d → Counts (admit k e a d)
  admitted k e a q h =
      on_test Counts (eqb (live d) d.room && eqb k 0) (λ t. refl) (λ t. q ∙ sym (oldest_length k d.entries h))

  modified : (c s n : ℕ) → Counts (put_or_modify_call c s n d)
  modified c s n =
      on_plain_lem Counts d.kind refl (λ p.
      on_found_lem Counts (find c d.entries)
      (λ q. admitted (pushing d) (entry c s n 0) (Now n true (pushing d)) refl pushed)
      (λ i e q. refl))

  shown : (f : Found) → Counts (showing f)
  shown f = on_found_lem Counts f (λ q. refl) (λ i e q. refl)

  popped : (f : Found) → Counts (popping f)
  popped f = on_found_lem Counts f (λ q. refl) (λ i e q. refl)

  assigned : (f : Found) (v : ℕ) → Counts (setting f v d)
  assigned f v = on_plain_lem Counts d.kind refl (λ p. on_found_lem Counts f (λ q. refl) (λ i e q. refl))

  counted : (m : Command) → Counts (verdict m d)
  unfolding verdict
  counted Len = refl
  counted Capacity = refl
  counted Weight = refl
  counted IsEmpty = refl
  counted IsFull = refl
  counted Front = shown (first d.entries)
  counted Back = shown (last d.entries)
  counted (Peek c) = on_found_lem Counts (find c.0 d.entries) (λ q. refl) (λ i e q. refl)
  counted (Contains c) = refl
  counted ListFront = refl
  counted ListBack = refl
  counted (Get c) = on_found_lem Counts (find c.0 d.entries) (λ q. refl) (λ i e q. refl)
  counted (Pop c) = on_found_lem Counts (find c.0 d.entries) (λ q. refl) (λ i e q. refl)
  counted PopFront = popped (first d.entries)
  counted PopBack = popped (last d.entries)
  counted (Put c s v) =
      on_plain_lem Counts d.kind refl (λ p.
      on_found_lem Counts (find c.0 d.entries)
      (λ q. admitted (pushing d) (entry c.0 s v 0) (New (pushing d)) refl pushed)
      (λ i e q. refl))
  counted (PutWithWeight c s v w) =
      on_test Counts (wrong_weight d.kind w) (λ t. refl) (λ t.
      on_test Counts (leb d.capacity w) (λ u. refl) (λ u.
      on_found_lem Counts (find c.0 d.entries)
      (λ q. let k : ℕ = leaving (beside w d) d.entries in admitted k (entry c.0 s v w) (New k) refl (all_leave (beside w d) d.entries))
      (λ i e q. let rest = without i d.entries in sym (oldest_length (leaving (beside w d) rest) rest (all_leave (beside w d) rest)))))
  counted Clear = refl
  counted (Retain q) = on_test Counts (is_rule q) (λ t. refl) (λ t. refl)
  counted (Resize n) =
      on_test Counts (capacity_ok n) (λ t. sym (oldest_length (leaving n d.entries) d.entries (all_leave n d.entries))) (λ t. refl)
  counted (PutOrModify c s n) = modified c.0 s n
  counted (TryPutOrModify c s n most) =
      on_plain_lem Counts d.kind refl (λ p.
      on_found_lem Counts (find c.0 d.entries)
      (λ q. on_test Counts (ltb most n) (λ t. refl) (λ t. modified c.0 s n))
      (λ i e q. on_test Counts (ltb most (e.value + n)) (λ t. refl) (λ t. modified c.0 s n)))
  counted (GetMut c v) = on_plain_lem Counts d.kind refl (λ p. on_found_lem Counts (find c.0 d.entries) (λ q. refl) (λ i e q. refl))
  counted (PeekMut c v) = assigned (find c.0 d.entries) v
  counted (FrontMut v) = assigned (first d.entries) v
  counted (BackMut v) = assigned (last d.entries) v

module _ (m : Command) (lent : ℕ) (c : Cache) where
  -- the answer counts the rows
  pub rows_counted : 1 ≤ c.desk.capacity → row_count (perform m lent c).answer ≡ length (perform m lent c).rows
  unfolding perform
  rows_counted h = on_lent Counts lent (verdict m c.desk) refl (counted c.desk h m)

  -- there are no more rows than were lent
  pub rows_fit : length (perform m lent c).rows ≤ lent
  unfolding perform
  rows_fit =
      on_test (λ v. length v.rows ≤ lent) (leb (length (verdict m c.desk).rows) lent)
      (λ t. leb-true _ _ t) (λ t. omega arith)

-- ---- the slots

-- no move changes how many slots there are
room_kept : (v : Move) (d : Desk) → (on_desk v d).room ≡ d.room
room_kept stay d = refl
room_kept (raise i) d = refl
room_kept (set i v) d = refl
room_kept (renew i v) d = refl
room_kept (drop_at i) d = refl
room_kept (place k e) d = refl
room_kept (replace i k e) d = refl
room_kept (fit k n) d = refl
room_kept (sweep q) d = refl
room_kept clear d = refl

-- so no call does
pub left_room : (m : Command) (lent : ℕ) (c : Cache) → (perform m lent c).left.desk.room ≡ c.desk.room
unfolding perform
left_room m lent c = room_kept (handed lent (verdict m c.desk)).move c.desk
