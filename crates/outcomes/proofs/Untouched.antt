-- A refusal leaves everything untouched, cells included, but for 7 on a present code, which moves the entry to the front.
-- Assumes nothing.
use Prim.Native.Nat.{ℕ, ◌+◌}
use mathlib.Core.Bool.{Bool, true, false, cond, ◌&&◌, false≢true}
use mathlib.Core.List.{List, []}
use mathlib.Core.Logic.{◌⊎◌, inl, inr, ⊎_elim}
use mathlib.Core.Path.{◌≡◌, refl, sym, ap, ◌∙◌, subst}
use native.Mathlib.Omega.{arith}
use lib.Dec.{eqb, leb, ltb}
use Rattle.head.specs.declared.Row.{Row}
use Rattle.head.specs.declared.Answer.{Answer}
use Rattle.head.specs.declared.Answer.TheVariants.{No, New, Was, Is, Now, Absent, Entry, Done, Count, Flag}
use Rattle.head.specs.declared.Refusal.{Refusal}
use Rattle.head.specs.declared.Refusal.TheVariants.{WrongKind, OverCeiling, NoSlot}
use Rattle.head.specs.declared.Command.{Command}
use Rattle.head.specs.declared.Command.TheVariants.{Len, Capacity, Weight, IsEmpty, IsFull, Front, Back, Peek, Contains, List as ListFront, ListBack, Get, Pop, PopFront, PopBack, Put, PutWithWeight, Clear, Retain, Resize, PutOrModify, TryPutOrModify, GetMut, PeekMut, FrontMut, BackMut}
use Rattle.head.specs.Bounds.{capacity_ok}
use Rattle.head.specs.Fields.{Fields}
use Rattle.head.specs.Forms.{form_of}
use Rattle.head.specs.Refusals.{number_of}
use Rattle.model.specs.Desk.{Desk, Found, absent, present, find, on_found, first, last, live, leaving, is_rule, entry}
use Rattle.model.specs.Moves.{Move, stay, raise, on_desk, on_slots}
use Rattle.model.specs.Calls.{Verdict, saying, refuse, admit, pushing, beside, wrong_weight, setting, put_or_modify_call, try_put_or_modify_call}
use Rattle.model.specs.Perform.{Cache, verdict, handed, perform}
use Rattle.model.proofs.Cases.{split}
use Rattle.model.proofs.Verdicts.{on_test, on_found_lem, on_plain_lem, on_lent}
use Rattle.rows.specs.Written.{Written}
use Rattle.rows.proofs.Nothing.{written_none}
use Rattle.plan.specs.States.{State, Means}
use Rattle.plan.specs.Plans.{cells_stay}
use Rattle.plan.proofs.Likeness.{past_self, alike_left}
use Rattle.door.specs.Served.{Serves, Calls, Tells, is_teller, shortest}
use Rattle.outcomes.proofs.Decided.{sound?}

-- ---- a call whose move is to stay

-- staying leaves the cache
left_stays : (m : Command) (lent : ℕ) (c : Cache) → (handed lent (verdict m c.desk)).move ≡ stay → (perform m lent c).left ≡ c
unfolding perform
left_stays m lent c e = ap (λ (v : Move). record { desk = on_desk v c.desk; slots = on_slots v c.desk c.slots }) e

-- a call that stays leaves head and lists as they were, number by number, cells too
pub untouched : {m : Command} {lent : ℕ} {s t : State} {a : Answer} {c : Cache} → Serves m lent s t a → Means s c
    → (handed lent (verdict m c.desk)).move ≡ stay → t ≡ s
untouched {m} {lent} {s} {t} {c = c} x d e =
    let f = x.sound c d in
    let g = alike_left s d (subst (λ (y : Cache). Means t y) (left_stays m lent c e) f.left) d.room (past_self s.head.slots s) f.tails in
    let cells : t.cells ≡ s.cells = f.cells (ap (λ (v : Move). cells_stay v c.desk) e) in
    λ i. record { head = g.head i; fields = g.fields i; nexts = g.nexts i; prevs = g.prevs i; stack = g.stack i; cells = cells i }

-- ---- which moves come with a refusal

-- whether an answer is a refusal
is_no : Answer → Bool
is_no (No r) = true
is_no (New n) = false
is_no (Was v n) = false
is_no (Is v) = false
is_no (Now v b n) = false
is_no Absent = false
is_no (Entry e) = false
is_no (Done n) = false
is_no (Count n) = false
is_no (Flag b) = false

-- the refusal that an answer is, or another
why_of : Refusal → Answer → Refusal
why_of q (No r) = r
why_of q (New n) = q
why_of q (Was v n) = q
why_of q (Is v) = q
why_of q (Now v b n) = q
why_of q Absent = q
why_of q (Entry e) = q
why_of q (Done n) = q
why_of q (Count n) = q
why_of q (Flag b) = q

-- what a verdict that refuses with r does: it hands out no row, and it stays, or r is 7
record Denies (r : Refusal) (v : Verdict) : Type 0 where
  rows : v.answer ≡ No r → v.rows ≡ []
  move : v.answer ≡ No r → (r ≡ OverCeiling) ⊎ (v.move ≡ stay)

module _ (r : Refusal) where
  abbrev P : Verdict → Type 0
  P = Denies r

  -- a verdict that stays and hands out nothing
  still : {v : Verdict} → v.rows ≡ [] → v.move ≡ stay → P v
  still e f = record { rows = λ q. e; move = λ q. inr f }

  -- a verdict that is no refusal
  says : {v : Verdict} → is_no v.answer ≡ false → P v
  unfolding is_no
  says n = record { rows = λ q. absurd (false≢true (sym n ∙ ap is_no q)); move = λ q. absurd (false≢true (sym n ∙ ap is_no q)) }

  -- a verdict that refuses with 7
  ceiling : {v : Verdict} → v.rows ≡ [] → v.answer ≡ No OverCeiling → P v
  unfolding why_of
  ceiling e f = record { rows = λ q. e; move = λ q. inl (sym (ap (why_of r) q) ∙ ap (why_of r) f) }

  -- letting an entry in
  admitted : (k : ℕ) (e : Row) (a : Answer) (d : Desk) → is_no a ≡ false → P (admit k e a d)
  admitted k e a d n = on_test P (eqb (live d) d.room && eqb k 0) (λ q. still refl refl) (λ q. says n)

  -- `put_or_modify`
  put_or_modify : (c s n : ℕ) (d : Desk) → P (put_or_modify_call c s n d)
  unfolding is_no
  put_or_modify c s n d =
      on_plain_lem P d.kind (still refl refl) (λ z.
      on_found_lem P (find c d.entries)
      (λ q. admitted (pushing d) (entry c s n 0) (Now n true (pushing d)) d refl)
      (λ i e q. says refl))

  -- setting a value
  set_value : (f : Found) (v : ℕ) (d : Desk) → P (setting f v d)
  unfolding is_no
  set_value f v d = on_plain_lem P d.kind (still refl refl) (λ z. on_found_lem P f (λ q. still refl refl) (λ i e q. says refl))

  -- every command
  denies : (m : Command) (d : Desk) → P (verdict m d)
  unfolding verdict is_no
  denies Len d = says refl
  denies Capacity d = says refl
  denies Weight d = says refl
  denies IsEmpty d = says refl
  denies IsFull d = says refl
  denies Front d = on_found_lem P (first d.entries) (λ q. says refl) (λ i e q. says refl)
  denies Back d = on_found_lem P (last d.entries) (λ q. says refl) (λ i e q. says refl)
  denies (Peek c) d = on_found_lem P (find c.0 d.entries) (λ q. says refl) (λ i e q. says refl)
  denies (Contains c) d = says refl
  denies ListFront d = says refl
  denies ListBack d = says refl
  denies (Get c) d = on_found_lem P (find c.0 d.entries) (λ q. says refl) (λ i e q. says refl)
  denies (Pop c) d = on_found_lem P (find c.0 d.entries) (λ q. says refl) (λ i e q. says refl)
  denies PopFront d = on_found_lem P (first d.entries) (λ q. says refl) (λ i e q. says refl)
  denies PopBack d = on_found_lem P (last d.entries) (λ q. says refl) (λ i e q. says refl)
  denies (Put c s v) d =
      on_plain_lem P d.kind (still refl refl) (λ z.
      on_found_lem P (find c.0 d.entries) (λ q. admitted (pushing d) (entry c.0 s v 0) (New (pushing d)) d refl) (λ i e q. says refl))
  denies (PutWithWeight c s v w) d =
      on_test P (wrong_weight d.kind w) (λ q. still refl refl) (λ q.
      on_test P (leb d.capacity w) (λ y. still refl refl) (λ y.
      on_found_lem P (find c.0 d.entries) (λ z. admitted (leaving (beside w d) d.entries) (entry c.0 s v w) (New (leaving (beside w d) d.entries)) d refl) (λ i e z. says refl)))
  denies Clear d = says refl
  denies (Retain q) d = on_test P (is_rule q) (λ z. says refl) (λ z. still refl refl)
  denies (Resize c) d = on_test P (capacity_ok c) (λ z. says refl) (λ z. still refl refl)
  denies (PutOrModify c s n) d = put_or_modify c.0 s n d
  denies (TryPutOrModify c s n most) d =
      on_plain_lem P d.kind (still refl refl) (λ z.
      on_found_lem P (find c.0 d.entries)
      (λ q. on_test P (ltb most n) (λ y. still refl refl) (λ y. put_or_modify c.0 s n d))
      (λ i e q. on_test P (ltb most (e.value + n)) (λ y. ceiling refl refl) (λ y. put_or_modify c.0 s n d)))
  denies (GetMut c v) d =
      on_plain_lem P d.kind (still refl refl) (λ z. on_found_lem P (find c.0 d.entries) (λ q. says refl) (λ i e q. says refl))
  denies (PeekMut c v) d = set_value (find c.0 d.entries) v d
  denies (FrontMut v) d = set_value (first d.entries) v d
  denies (BackMut v) d = set_value (last d.entries) v d

  -- with the rows lent
  denies_lent : (m : Command) (lent : ℕ) (d : Desk) → P (handed lent (verdict m d))
  denies_lent m lent d = on_lent P lent (verdict m d) (still refl refl) (denies m d)

-- ---- refused calls

-- a refusal but 7 leaves head and lists as they were, whatever they are
pub refused_untouched : {m : Command} {lent : ℕ} {s t : State} {a : Answer} {r : Refusal} → Serves m lent s t a → a ≡ No r
    → (r ≡ OverCeiling → ⊥) → t ≡ s
unfolding perform
refused_untouched {m} {lent} {s} {r = r} x e n =
    ⊎_elim
    (λ w.
    untouched x w.described
    (⊎_elim (λ q. absurd (n q)) (λ q. q)
    ((denies_lent r m lent w.cache.desk).move (sym (x.sound w.cache w.described).answer ∙ e))))
    (λ u. (x.unsound u).1)
    (sound? s)

-- every refusal, 7 too, leaves the row lists as they were
pub refused_rows : {m : Command} {s t : State} {rows out : Fields} {a : Answer} {r : Refusal} → Calls m s t rows out a → a ≡ No r → out ≡ rows
unfolding perform
refused_rows {m} {s} {rows = rows} {out} {r = r} x e =
    ⊎_elim
    (λ w.
    written_none (subst (λ (l : List Row). Written l rows out)
    ((denies_lent r m (shortest rows) w.cache.desk).rows (sym (x.serves.sound w.cache w.described).answer ∙ e))
    (x.hands w.cache w.described)))
    (λ u. x.unsound u)
    (sound? s)

-- and so does every refused listing
pub refused_listing : {m : Command} {s : State} {rows out : Fields} {a : Answer} {r : Refusal} → Tells m s rows out a → a ≡ No r → out ≡ rows
unfolding perform
refused_listing {m} {s} {rows} {out} {a} {r} x e =
    ⊎_elim
    (λ w.
    split (is_teller (form_of m))
    (λ k.
    let told : a ≡ (perform m (shortest rows) w.cache).answer = rw k at (x.answer w.cache w.described) in
    let wrote : Written (perform m (shortest rows) w.cache).rows rows out = rw k at (x.hands w.cache w.described) in
    written_none (subst (λ (l : List Row). Written l rows out) ((denies_lent r m (shortest rows) w.cache.desk).rows (sym told ∙ e)) wrote))
    (λ k. written_none (rw k at (x.hands w.cache w.described))))
    (λ u. (x.unsound u).1)
    (sound? s)

-- ---- refusal 7

-- what 7 does to a cache: nothing where the code is absent, and the entry to the front where it is present
abbrev pub ceiling_move : Found → Move
ceiling_move absent = stay
ceiling_move (present i e) = raise i

-- a verdict that refuses with 7 makes this move
pub record Moves (g : Move) (v : Verdict) : Type 0 where
  pub goes : v.answer ≡ No OverCeiling → v.move ≡ g

module _ (g : Move) where
  -- another answer
  speaks : {v : Verdict} → is_no v.answer ≡ false → Moves g v
  unfolding is_no
  speaks n = record { goes = λ q. absurd (false≢true (sym n ∙ ap is_no q)) }

  -- another refusal
  pub other : {v : Verdict} (r : Refusal) → v.answer ≡ No r → (number_of r ≡ 7 → ⊥) → Moves g v
  unfolding why_of
  other r e n = record { goes = λ q. absurd (n (ap (λ (a : Answer). number_of (why_of r a)) (sym e ∙ q))) }

  -- `put_or_modify` never refuses with 7
  not_seven : (c s n : ℕ) (d : Desk) → Moves g (put_or_modify_call c s n d)
  unfolding is_no
  not_seven c s n d =
      on_plain_lem (Moves g) d.kind (other WrongKind refl (λ z. absurd (omega arith))) (λ z.
      on_found_lem (Moves g) (find c d.entries)
      (λ q. on_test (Moves g) (eqb (live d) d.room && eqb (pushing d) 0) (λ y. other NoSlot refl (λ x. absurd (omega arith))) (λ y. speaks refl))
      (λ i e q. speaks refl))

-- `try_put_or_modify` makes that move where it refuses with 7
pub seven : (c s n most : ℕ) (d : Desk) → Moves (ceiling_move (find c d.entries)) (try_put_or_modify_call c s n most d)
seven c s n most d =
    on_plain_lem (Moves (ceiling_move (find c d.entries))) d.kind (other _ WrongKind refl (λ z. absurd (omega arith))) (λ z. by (find c d.entries))
  where
    by : (f : Found) → Moves (ceiling_move f) (on_found f (cond (ltb most n) (refuse OverCeiling) (put_or_modify_call c s n d)) (λ i e. cond (ltb most (e.value + n)) (saying (No OverCeiling) (raise i)) (put_or_modify_call c s n d)))
    by absent = on_test (Moves stay) (ltb most n) (λ y. record { goes = λ q. refl }) (λ y. not_seven stay c s n d)
    by (present i e) = on_test (Moves (raise i)) (ltb most (e.value + n)) (λ y. record { goes = λ q. refl }) (λ y. not_seven (raise i) c s n d)
