-- A day with C = 3 and a keeper of H = 2 places beside it, so that `rival` is not empty.
-- Assumes nothing.
use Prim.Native.Nat.{ℕ, ◌*◌, ◌≤◌}
use mathlib.Core.List.{List, [], ◌∷◌}
use mathlib.Core.Path.{◌≡◌, refl}
use native.Mathlib.Omega.{arith}
use lib.Dec.{eqb, lit≤}
use borrow.Author.Tests.{eqb-true}
use Rattle.head.specs.declared.Code.{Code}
use Rattle.head.specs.declared.Command.TheVariants.{Peek, Contains, Get, Put}
use Rattle.model.specs.Desk.{plain}
use Rattle.model.specs.Perform.{fresh, verdict, perform}
use Rattle.model.specs.Codes.{codes_of, count, Distinct}
use Rattle.model.specs.Runs.{Call, after, Requests, new_answers, Keeps, brought}
use Rattle.model.proofs.Cases.{split}
use Rattle.model.proofs.Rival.{rival}

-- a code that does not stand in a list of distinct codes goes before them
distinct_more : (y : ℕ) (ys : List ℕ) → count y ys ≡ 0 → Distinct ys → Distinct (y ∷ ys)
distinct_more y ys h d x =
    split (eqb x y)
    (λ e. let z : count x ys ≡ 0 = rw (eqb-true x y e) h in rw e (omega arith))
    (λ e. rw e (omega (arith, d x)))

alone : (x : ℕ) → Distinct (x ∷ [])
alone x = distinct_more x [] refl (λ y. omega arith)

pair : (x y : ℕ) → count x (y ∷ []) ≡ 0 → Distinct (x ∷ y ∷ [])
pair x y h = distinct_more x (y ∷ []) h (alone y)

-- the calls: a `put` with one row lent, the others with none
abbrev code : ℕ → Code
code x = record { 0 = x }

abbrev put : ℕ → Call
put x = record { command = Put (code x) 0 0; lent = 1 }

abbrev get : ℕ → Call
get x = record { command = Get (code x); lent = 0 }

abbrev peek : ℕ → Call
peek x = record { command = Peek (code x); lent = 0 }

abbrev contains : ℕ → Call
contains x = record { command = Contains (code x); lent = 0 }

day : List Call
day = put 1 ∷ put 2 ∷ peek 1 ∷ put 3 ∷ get 1 ∷ put 4 ∷ get 9 ∷ contains 2 ∷ put 2 ∷ put 1 ∷ []

held : List (List ℕ)
held =
    (1 ∷ [])
    ∷ (1 ∷ 2 ∷ [])
    ∷ (1 ∷ 2 ∷ [])
    ∷ (1 ∷ 3 ∷ [])
    ∷ (1 ∷ 3 ∷ [])
    ∷ (1 ∷ 4 ∷ [])
    ∷ (1 ∷ 4 ∷ [])
    ∷ (1 ∷ 4 ∷ [])
    ∷ (1 ∷ 2 ∷ [])
    ∷ (1 ∷ 2 ∷ [])
    ∷ []

ex_left : codes_of (after (fresh plain 3 3) day).desk.entries ≡ 1 ∷ 2 ∷ 4 ∷ []
unfolding perform verdict day
ex_left = refl

ex_requests : Requests day
unfolding day
ex_requests = (lit≤ tt, (lit≤ tt, (tt, (lit≤ tt, (tt, (lit≤ tt, (tt, (tt, (lit≤ tt, (lit≤ tt, tt))))))))))

ex_new : new_answers (fresh plain 3 3) day ≡ 5
unfolding perform verdict day
ex_new = refl

ex_brought : brought [] held ≡ 5
unfolding held
ex_brought = refl

-- a holding is distinct, has at most H codes and serves the call, and so on with the rest
next : {A B C D : Type 0} → A → B → C → D → A × B × C × D
next a b c d = (a, b, c, d)

ex_keeps : Keeps 2 (fresh plain 3 3) day held
unfolding perform verdict day held
ex_keeps =
    next (alone 1) (lit≤ tt) refl
    (next (pair 1 2 refl) (lit≤ tt) refl
    (next (pair 1 2 refl) (lit≤ tt) tt
    (next (pair 1 3 refl) (lit≤ tt) refl
    (next (pair 1 3 refl) (lit≤ tt) (λ e. refl)
    (next (pair 1 4 refl) (lit≤ tt) refl
    (next (pair 1 4 refl) (lit≤ tt) (λ e. e)
    (next (pair 1 4 refl) (lit≤ tt) tt
    (next (pair 1 2 refl) (lit≤ tt) refl
    (next (pair 1 2 refl) (lit≤ tt) refl tt)))))))))

-- (3 - 2 + 1) * 5 ≤ 3 * 5
ex_rival : 2 * 5 ≤ 3 * 5
unfolding perform verdict day held
ex_rival = rival 3 3 2 (lit≤ tt) (lit≤ tt) (lit≤ tt) day held ex_requests ex_keeps
