-- Slots: entries, answers and rows depend on the entries alone; and `put` on a full plain cache reuses the back's slot.
-- Assumes nothing.
use Prim.Native.Nat.{ℕ, ◌≤◌}
use mathlib.Core.Bool.{true}
use mathlib.Core.List.{List, [], ◌∷◌, ◌++◌}
use mathlib.Core.Path.{◌≡◌, refl}
use native.Mathlib.Omega.{arith}
use lib.Dec.{eqb, leb}
use lib.ListN.{length}
use borrow.Author.Tests.{eq-eqb, le-leb}
use Rattle.head.specs.declared.Code.{Code}
use Rattle.head.specs.declared.Command.{Command}
use Rattle.head.specs.declared.Command.TheVariants.{Put}
use Rattle.model.specs.Lists.{oldest}
use Rattle.model.specs.Desk.{plain, Desk, absent, find, live}
use Rattle.model.specs.Slots.{taken, top_after, pushed, evicted}
use Rattle.model.specs.Perform.{Cache, verdict, perform}
use Rattle.model.specs.Claims.{SlotsApart}
use Rattle.model.proofs.Cases.{and_no}
use Rattle.model.proofs.Backs.{length_oldest, but_last_back, oldest_back, but_last_none, oldest_none}

-- entries, answers and rows come from the desk alone
pub slotless : (m : Command) (lent : ℕ) (c d : Cache) → c.desk ≡ d.desk → SlotsApart (perform m lent c) (perform m lent d)
unfolding perform
slotless m lent c d h = record { answer = rw h; rows = rw h; desk = rw h }

-- ---- the back's slot

taken_back : (t : ℕ) (xs : List ℕ) (x : ℕ) → taken t (xs ++ (x ∷ [])) ≡ x
taken_back t [] x = refl
taken_back t (y ∷ []) x = refl
taken_back t (y ∷ z ∷ xs) x = taken_back t (z ∷ xs) x

top_back : (t : ℕ) (xs : List ℕ) (x : ℕ) → top_after t (xs ++ (x ∷ [])) ≡ t
top_back t [] x = refl
top_back t (y ∷ xs) x = refl

-- the back goes and a new entry comes: it stands in the back's slot, stack and `top` as they were
pub reused : (xs free : List ℕ) (x t : ℕ)
    → pushed (evicted 1 (record { order = xs ++ (x ∷ []); free = free; top = t })) ≡ record { order = x ∷ xs; free = free; top = t }
reused xs free x t =
    rw (but_last_back 0 xs x, but_last_none xs, oldest_back 0 xs x, oldest_none xs, taken_back t free x, top_back t free x, but_last_back 0 free x, but_last_none free)

-- `put` of an absent code on a full plain cache, with a row lent
pub put_reuses : (k : Code) (s v lent : ℕ) (d : Desk) (xs free : List ℕ) (x t : ℕ) → d.kind ≡ plain → live d ≡ d.capacity
    → find k.0 d.entries ≡ absent → 1 ≤ lent
    → (perform (Put k s v) lent (record { desk = d; slots = record { order = xs ++ (x ∷ []); free = free; top = t } })).left.slots
    ≡ record { order = x ∷ xs; free = free; top = t }
unfolding perform verdict
put_reuses k s v lent d xs free x t p full f h =
    let all : eqb (live d) d.capacity ≡ true = eq-eqb (live d) d.capacity full in
    let fits : leb (length (oldest 1 d.entries)) lent ≡ true =
    le-leb (length (oldest 1 d.entries)) lent (omega (arith, length_oldest 1 d.entries)) in
    rw (p, f, all, and_no (eqb (live d) d.room), fits) (reused xs free x t)
