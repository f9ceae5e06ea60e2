-- The contract of every call admits one outcome: one answer, one set of rows, and states that differ in the cells at most.
-- Assumes nothing.
use Rattle.std.specs.Prelude.{Result, Ok}
use Rattle.head.specs.declared.Head.{Head}
use Prim.Native.Nat.{ℕ}
use mathlib.Core.Bool.{Bool, true, false, cond, ◌&&◌}
use mathlib.Core.Logic.{⊎_elim}
use mathlib.Core.Path.{◌≡◌, refl, sym, ap, ◌∙◌, subst}
use Rattle.head.specs.declared.Answer.{Answer}
use Rattle.head.specs.declared.Command.{Command}
use Rattle.head.specs.declared.Refusal.{Refusal}
use Rattle.head.specs.declared.Refusal.TheVariants.{NotOpened}
use Rattle.head.specs.Bounds.{allowed}
use Rattle.head.specs.Fields.{Fields}
use Rattle.model.specs.Desk.{kind_of}
use Rattle.model.specs.Perform.{Cache, fresh, Opening, refused, opened, opening, verdict, handed}
use Rattle.model.proofs.Handing.{left_room}
use Rattle.store.proofs.Settled.{one_cache}
use Rattle.rows.proofs.Callers.{one_written}
use Rattle.plan.specs.States.{State, Means, TailsKept, Alike}
use Rattle.plan.specs.Plans.{cells_stay}
use Rattle.plan.proofs.Likeness.{alike_self, alike_left}
use Rattle.door.specs.Served.{Follows, Serves, Calls, Tells, Reads}
use Rattle.opening.specs.Begun.{spacious, Opens}
use Rattle.outcomes.specs.Agreed.{Agree}
use Rattle.outcomes.proofs.Decided.{sound?}

-- ---- states of one cache

-- a state agrees with itself
pub agree_self : (s : State) → Agree s s
agree_self s = record { alike = alike_self s; cache = λ c. (λ d. d, λ d. d) }

-- two states that are one and the same agree
pub agree_equal : {s t u : State} → t ≡ s → u ≡ s → Agree t u
agree_equal {s} {t} {u} e f = subst (λ (x : State). Agree t x) (e ∙ sym f) (agree_self t)

-- two states of one cache whose tails come from one state agree
one_left : (s : State) {t u : State} {c : Cache} → Means t c → Means u c → s.head.slots ≡ c.desk.room → TailsKept s t → TailsKept s u → Agree t u
one_left s {t} {u} d e n p q = record {
  alike = alike_left s d e n p q;
  cache = λ b. (λ x. subst (λ (y : Cache). Means u y) (one_cache d x) e, λ x. subst (λ (y : Cache). Means t y) (one_cache e x) d);
}

-- ---- calls

-- one outcome of what follows for one cache
one_follow : {m : Command} {lent : ℕ} {s t u : State} {a b : Answer} {c : Cache} → Means s c → Follows m lent s t a c → Follows m lent s u b c
    → (a ≡ b) × Agree t u
one_follow {m} {lent} {s} {c = c} d f g = (f.answer ∙ sym g.answer, one_left s f.left g.left (d.room ∙ sym (left_room m lent c)) f.tails g.tails)

-- `serve`: one answer, and states that agree
pub one_serve : {m : Command} {lent : ℕ} {s t u : State} {a b : Answer} → Serves m lent s t a → Serves m lent s u b → (a ≡ b) × Agree t u
one_serve {s = s} x y =
    ⊎_elim
    (λ w. one_follow w.described (x.sound w.cache w.described) (y.sound w.cache w.described))
    (λ n. ((x.unsound n).0 ∙ sym (y.unsound n).0, agree_equal (x.unsound n).1 (y.unsound n).1))
    (sound? s)

-- and where the call moves no entry between cells, every number is settled
pub one_cells : {m : Command} {lent : ℕ} {s t u : State} {a b : Answer} {c : Cache} → Serves m lent s t a → Serves m lent s u b → Means s c
    → cells_stay (handed lent (verdict m c.desk)).move c.desk ≡ true
    → t ≡ u
one_cells {t = t} {u} {c = c} x y d e =
    let g : Alike u t = (one_serve y x).1.alike in
    let cells : t.cells ≡ u.cells = (x.sound c d).cells e ∙ sym ((y.sound c d).cells e) in
    λ i. record { head = g.head i; fields = g.fields i; nexts = g.nexts i; prevs = g.prevs i; stack = g.stack i; cells = cells i }

-- `call`: one answer, one set of rows, and states that agree
pub one_call : {m : Command} {s t u : State} {rows out out' : Fields} {a b : Answer} → Calls m s t rows out a → Calls m s u rows out' b
    → (a ≡ b) × (out ≡ out') × Agree t u
one_call {s = s} x y =
    let z = one_serve x.serves y.serves in
    let r : _ ≡ _ =
    ⊎_elim
    (λ w. one_written (x.hands w.cache w.described) (y.hands w.cache w.described))
    (λ n. x.unsound n ∙ sym (y.unsound n))
    (sound? s) in
    (z.0, r, z.1)

-- `tell`: one answer and one set of rows; the state is not lent for writing
pub one_tell : {m : Command} {s : State} {rows out out' : Fields} {a b : Answer} → Tells m s rows out a → Tells m s rows out' b → (a ≡ b) × (out ≡ out')
one_tell {s = s} x y =
    ⊎_elim
    (λ w. (
      x.answer w.cache w.described ∙ sym (y.answer w.cache w.described),
      one_written (x.hands w.cache w.described) (y.hands w.cache w.described),
    ))
    (λ n. ((x.unsound n).0 ∙ sym (y.unsound n).0, (x.unsound n).1 ∙ sym (y.unsound n).1))
    (sound? s)

-- `read`: one answer
pub one_read : {m : Command} {s : State} {a b : Answer} → Reads m s a → Reads m s b → a ≡ b
one_read {s = s} x y =
    ⊎_elim
    (λ w. x.sound w.cache w.described ∙ sym (y.sound w.cache w.described))
    (λ n. x.unsound n ∙ sym (y.unsound n))
    (sound? s)

-- ---- opening

-- the slot count of what was opened, n where it was refused
room_of : ℕ → Opening → ℕ
room_of n (refused e) = n
room_of n (opened x) = x.desk.room

-- opened or refused, the slot count is n
room_test : (n : ℕ) (b : Bool) (x : Cache) (e : Refusal) → x.desk.room ≡ n → room_of n (cond b (opened x) (refused e)) ≡ n
unfolding room_of
room_test n true x e k = k
room_test n false x e k = refl

-- a cache that was opened with n slots has n
opened_room : (kind c n : ℕ) (long : Bool) (x : Cache) → opening kind c n long ≡ opened x → x.desk.room ≡ n
unfolding opening room_of
opened_room kind c n long x e = sym (ap (room_of n) e) ∙ room_test n (allowed kind c n && long) (fresh (kind_of kind) c n) NotOpened refl

-- `open`: one answer, and states that agree, where the state's head asks for as many slots as the call
pub one_open : {kind c n : ℕ} {s t u : State} {r q : Result Head Refusal} → s.head.slots ≡ n → Opens kind c n s t r → Opens kind c n s u q → (r ≡ q) × Agree t u
one_open {kind} {c} {n} {s} {t} {u} {r} {q} k x y = by (opening kind c n (spacious n s)) refl
  where
    by : (o : Opening) → opening kind c n (spacious n s) ≡ o → (r ≡ q) × Agree t u
    by (refused e) z = ((x.refuses e z).0 ∙ sym (y.refuses e z).0, agree_equal (x.refuses e z).1 (y.refuses e z).1)
    by (opened b) z =
        let f = x.opens b z in
        let g = y.opens b z in
        let h : Agree t u = one_left s f.1 g.1 (k ∙ sym (opened_room kind c n (spacious n s) b z)) f.2 g.2 in
        (f.0 ∙ ap (λ (x : Head). Ok x) (sym h.alike.head) ∙ sym g.0, h)
