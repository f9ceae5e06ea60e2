-- A call leaves each of the eight lists as long as it was, whatever the numbers are; so does opening. Of row lists `SameRows` says it.
-- Assumes nothing.
use Rattle.std.specs.Prelude.{Result}
use Prim.Native.Nat.{ℕ}
use mathlib.Core.Logic.{⊎_elim}
use mathlib.Core.Path.{◌≡◌, refl, sym, subst}
use lib.ListN.{length}
use Rattle.head.specs.declared.Head.{Head}
use Rattle.head.specs.declared.Answer.{Answer}
use Rattle.head.specs.declared.Command.{Command}
use Rattle.head.specs.declared.Refusal.{Refusal}
use Rattle.head.specs.Fields.{Fields}
use Rattle.model.specs.Perform.{Opening, refused, opened, opening}
use Rattle.plan.specs.States.{State, TailsKept}
use Rattle.door.specs.Served.{Serves, Calls}
use Rattle.opening.specs.Begun.{spacious, Opens}
use Rattle.outcomes.proofs.Decided.{sound?}

-- each list is as long as it was
pub record AsLong (s t : State) : Type 0 where
  pub codes : length t.fields.codes ≡ length s.fields.codes
  pub stamps : length t.fields.stamps ≡ length s.fields.stamps
  pub values : length t.fields.values ≡ length s.fields.values
  pub weights : length t.fields.weights ≡ length s.fields.weights
  pub nexts : length t.nexts ≡ length s.nexts
  pub prevs : length t.prevs ≡ length s.prevs
  pub stack : length t.stack ≡ length s.stack
  pub cells : length t.cells ≡ length s.cells

untouched : (s : State) → AsLong s s
untouched s = record { codes = refl; stamps = refl; values = refl; weights = refl; nexts = refl; prevs = refl; stack = refl; cells = refl }

by_equal : {s t : State} → t ≡ s → AsLong s t
by_equal {s} e = subst (λ (x : State). AsLong s x) (sym e) (untouched s)

by_tails : {s t : State} → TailsKept s t → AsLong s t
by_tails k = record {
  codes = k.codes.size;
  stamps = k.stamps.size;
  values = k.values.size;
  weights = k.weights.size;
  nexts = k.nexts.size;
  prevs = k.prevs.size;
  stack = k.stacks.size;
  cells = k.table.size;
}

-- a call without row lists
pub serve_as_long : {m : Command} {lent : ℕ} {s t : State} {a : Answer} → Serves m lent s t a → AsLong s t
serve_as_long {s = s} x =
    ⊎_elim
    (λ w. by_tails (x.sound w.cache w.described).tails)
    (λ n. by_equal (x.unsound n).1)
    (sound? s)

-- any call
pub call_as_long : {m : Command} {s t : State} {rows out : Fields} {a : Answer} → Calls m s t rows out a → AsLong s t
call_as_long x = serve_as_long x.serves

by_opening : {kind c n : ℕ} {s t : State} {r : Result Head Refusal} → Opens kind c n s t r → (o : Opening) → opening kind c n (spacious n s) ≡ o → AsLong s t
by_opening x (refused e) p = by_equal (x.refuses e p).1
by_opening x (opened c) p = by_tails (x.opens c p).2

-- opening, also one that is refused
pub open_as_long : {kind c n : ℕ} {s t : State} {r : Result Head Refusal} → Opens kind c n s t r → AsLong s t
open_as_long x = by_opening x _ refl
