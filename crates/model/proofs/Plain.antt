-- A plain cache with no fewer slots than its capacity, asked by `put`, `get`, `peek` and `contains`: how its codes move.
-- Assumes nothing.
use Prim.Native.Nat.{ℕ, suc, ◌-◌, ◌≤◌, ◌<◌}
use mathlib.Core.Bool.{true, false, cond, ◌&&◌, false≢true}
use mathlib.Core.List.{List, [], ◌∷◌}
use mathlib.Core.Path.{◌≡◌, refl, sym, ap}
use native.Mathlib.Omega.{arith}
use lib.Dec.{eqb}
use lib.ListN.{length}
use lib.Seq.{take_all}
use borrow.Author.Tests.{eqb-true, eqb-false, ne_eqb, le-leb}
use Rattle.head.specs.declared.Code.{Code}
use Rattle.head.specs.declared.Row.{Row}
use Rattle.head.specs.declared.Answer.{Answer}
use Rattle.head.specs.declared.Answer.TheVariants.{New, Was, Is, Absent, Flag}
use Rattle.head.specs.declared.Command.{Command}
use Rattle.head.specs.declared.Command.TheVariants.{Len, Capacity, Weight, IsEmpty, IsFull, Front, Back, Peek, Contains, List as ListFront, ListBack, Get, Pop, PopFront, PopBack, Put, PutWithWeight, Clear, Retain, Resize, PutOrModify, TryPutOrModify, GetMut, PeekMut, FrontMut, BackMut}
use Rattle.model.specs.Lists.{without, only, to_front, but_last, oldest}
use Rattle.model.specs.Desk.{plain, Desk, entry, revalued, Found, absent, present, further, find, on_found, live}
use Rattle.model.specs.Moves.{stay, raise, renew, place, holding, on_desk}
use Rattle.model.specs.Calls.{Verdict, saying, pushing}
use Rattle.model.specs.Perform.{Cache, Outcome, fresh, verdict, carried, perform}
use Rattle.model.specs.Codes.{codes_of, has}
use Rattle.model.specs.Runs.{Call, step, after, Sort, plain_put, getting, looking, sort_of, Word, new, value, other, word_of, is_new, Request, Requests}
use Rattle.model.proofs.Cases.{split, eqb_sym, and_no}
use Rattle.model.proofs.Backs.{length_but_last, length_oldest}
use Rattle.model.proofs.Counting.{codes_revalued}
use Rattle.model.proofs.Mapping.{coding, map_length, map_to_front, map_but_last}
use Rattle.model.proofs.Rank.{minus}

-- the codes of a cache
abbrev pub codes : Cache → List ℕ
codes c = codes_of c.desk.entries

-- ---- codes

length_minus : (c : ℕ) (l : List ℕ) → has c l ≡ true → suc (length (minus c l)) ≡ length l
length_minus c [] h = absurd (false≢true h)
length_minus c (x ∷ l) h =
    split (eqb c x)
    (λ e. rw e)
    (λ e. let r = length_minus c l (rw e at h) in rw e (ap suc r))

-- what is found of a code says whether the codes have it, and where
abbrev Finding : ℕ → List ℕ → Found → Type 0
Finding c l absent = has c l ≡ false
Finding c l (present i e) = (has c l ≡ true) × (only i l ≡ c ∷ []) × (without i l ≡ minus c l)

finding_further : (c x : ℕ) (l : List ℕ) (f : Found) → eqb c x ≡ false → Finding c l f → Finding c (x ∷ l) (further f)
finding_further c x l absent t h = rw t h
finding_further c x l (present i e) t h = rw t (h.0, h.1, ap (λ (z : List ℕ). x ∷ z) h.2)

finding : (c : ℕ) (es : List Row) → Finding c (codes_of es) (find c es)
finding c [] = refl
finding c (e ∷ es) =
    let x : ℕ = e.code.0 in
    split (eqb c x)
    (λ t. rw (eqb_sym x c, t) (rw t (refl, ap (λ (z : ℕ). z ∷ []) (sym (eqb-true c x t)), refl)))
    (λ t. rw (eqb_sym x c, t) (finding_further c x (codes_of es) (find c es) t (finding c es)))

-- ---- what a request does

-- a call that answers and does nothing leaves the cache as it is
stay_left : (m : Command) (lent : ℕ) (c : Cache) (a : Answer) → verdict m c.desk ≡ saying a stay → (perform m lent c).left ≡ c
unfolding perform
stay_left m lent c a e = rw (e, le-leb 0 lent (omega arith))

pub peek_left : (k : Code) (lent : ℕ) (c : Cache) → (perform (Peek k) lent c).left ≡ c
unfolding verdict
peek_left k lent c = by (find k.0 c.desk.entries) refl
  where
    by : (f : Found) → find k.0 c.desk.entries ≡ f → (perform (Peek k) lent c).left ≡ c
    by absent e = stay_left (Peek k) lent c Absent (rw e)
    by (present i e) q = stay_left (Peek k) lent c (Is e.value) (rw q)

pub contains_left : (k : Code) (lent : ℕ) (c : Cache) → (perform (Contains k) lent c).left ≡ c
unfolding verdict
contains_left k lent c = stay_left (Contains k) lent c (Flag (on_found (find k.0 c.desk.entries) false (λ i e. true))) refl

-- what holds between the calls
pub record Plain (C N : ℕ) (c : Cache) : Type 0 where
  pub kind : c.desk.kind ≡ plain
  pub capacity : c.desk.capacity ≡ C
  pub room : c.desk.room ≡ N
  pub fits : live c.desk ≤ C

-- what a request does to the codes l of a cache of capacity C: its sort, its answer's word, the codes left
pub data Moved (C : ℕ) (l : List ℕ) : Sort → Word → List ℕ → Type 0 where
  -- `put` of an absent code, where there is room and where the cache is full
  added : (c : ℕ) → has c l ≡ false → length l < C → Moved C l (plain_put c) new (c ∷ l)
  pushed : (c : ℕ) → has c l ≡ false → length l ≡ C → Moved C l (plain_put c) new (c ∷ but_last 1 l)
  -- `put` of a present code
  renewed : (c : ℕ) → has c l ≡ true → Moved C l (plain_put c) value (c ∷ minus c l)
  -- `get` of a present code, and of an absent one
  raised : (c : ℕ) → has c l ≡ true → Moved C l (getting c) value (c ∷ minus c l)
  missed : (c : ℕ) → has c l ≡ false → Moved C l (getting c) other l
  -- `peek` and `contains`
  looked : (w : Word) → is_new w ≡ false → Moved C l looking w l

-- a request of a sort, on the cache c, with the outcome o
pub record Asked (C N : ℕ) (c : Cache) (s : Sort) (o : Outcome) : Type 0 where
  pub moved : Moved C (codes c) s (word_of o.answer) (codes o.left)
  pub plain : Plain C N o.left

-- any request leaves at most C codes
moved_fits : {C : ℕ} {l : List ℕ} {s : Sort} {w : Word} {r : List ℕ} → 1 ≤ C → length l ≤ C → Moved C l s w r → length r ≤ C
moved_fits p h (added c a f) = omega arith
moved_fits {l = l} p h (pushed c a f) = omega (arith, length_but_last 1 l)
moved_fits {l = l} p h (renewed c a) = omega (arith, length_minus c l a)
moved_fits {l = l} p h (raised c a) = omega (arith, length_minus c l a)
moved_fits p h (missed c a) = h
moved_fits p h (looked w a) = h

moved_put : {C : ℕ} {l : List ℕ} {x : ℕ} {w : Word} {r : List ℕ} → Moved C l (plain_put x) w r → w ≡ cond (has x l) value new
moved_put (added c a f) = rw a
moved_put (pushed c a f) = rw a
moved_put (renewed c a) = rw a

module _ (C N : ℕ) (some : 1 ≤ C) (wide : C ≤ N) (c : Cache) (p : Plain C N c) where
  -- a verdict that leaves the entries es
  held : (s : Sort) (v : Verdict) (es : List Row) → on_desk v.move c.desk ≡ holding c.desk es
      → Moved C (codes c) s (word_of v.answer) (codes_of es) → Asked C N c s (carried v c)
  held s v es e m = record {
    moved = rw e m;
    plain = record {
      kind = rw e p.kind;
      capacity = rw e p.capacity;
      room = rw e p.room;
      fits =
          let f : length (codes c) ≤ C = rw (map_length coding c.desk.entries) p.fits in
          rw (e, ← map_length coding es) (moved_fits some f m);
    };
  }

  -- the verdict, its rows no more than those lent, is carried out
  asked : (m : Command) (lent : ℕ) (v : Verdict) → verdict m c.desk ≡ v → length v.rows ≤ lent → Asked C N c (sort_of m) (carried v c)
      → Asked C N c (sort_of m) (perform m lent c)
  unfolding perform
  asked m lent v e h a = rw (e, le-leb (length v.rows) lent h) a

  get_asked : (k : Code) (lent : ℕ) (f : Found) → find k.0 c.desk.entries ≡ f → Finding k.0 (codes c) f
      → Asked C N c (getting k.0) (perform (Get k) lent c)
  unfolding verdict
  get_asked k lent absent e h =
      asked (Get k) lent (saying Absent stay) (rw e) (omega arith)
      (held (getting k.0) (saying Absent stay) c.desk.entries refl (missed k.0 h))
  get_asked k lent (present i e) q h =
      let v : Verdict = saying (Is e.value) (raise i) in
      asked (Get k) lent v (rw q) (omega arith)
      (held (getting k.0) v (to_front i c.desk.entries) refl
      (rw (map_to_front coding i c.desk.entries, h.1, h.2) (raised k.0 h.0)))

  -- a call that answers and does nothing
  look_asked : (m : Command) (lent : ℕ) (a : Answer) → verdict m c.desk ≡ saying a stay → is_new (word_of a) ≡ false → sort_of m ≡ looking
      → Asked C N c (sort_of m) (perform m lent c)
  look_asked m lent a e w q =
      asked m lent (saying a stay) e (omega arith)
      (held (sort_of m) (saying a stay) c.desk.entries refl (rw q (looked (word_of a) w)))

  peek_asked : (k : Code) (lent : ℕ) (f : Found) → find k.0 c.desk.entries ≡ f → Asked C N c looking (perform (Peek k) lent c)
  unfolding verdict
  peek_asked k lent absent e = look_asked (Peek k) lent Absent (rw e) refl refl
  peek_asked k lent (present i e) q = look_asked (Peek k) lent (Is e.value) (rw q) refl refl

  -- `put` of an absent code, n pushed out
  new_asked : (k : Code) (s v lent n : ℕ) → 1 ≤ lent → find k.0 c.desk.entries ≡ absent → pushing c.desk ≡ n → n ≤ 1
      → eqb (live c.desk) c.desk.room && eqb n 0 ≡ false
      → Moved C (codes c) (plain_put k.0) new (k.0 ∷ but_last n (codes c)) → Asked C N c (plain_put k.0) (perform (Put k s v) lent c)
  unfolding verdict
  new_asked k s v lent n h e q u z m =
      let es : List Row = c.desk.entries in
      let w : Verdict = record { answer = New n; rows = oldest n es; move = place n (entry k.0 s v 0) } in
      asked (Put k s v) lent w (rw (p.kind, e, q, z)) (omega (arith, length_oldest n es))
      (held (plain_put k.0) w (entry k.0 s v 0 ∷ but_last n es) refl (rw (map_but_last coding n es) m))

  put_asked : (k : Code) (s v lent : ℕ) → 1 ≤ lent → (f : Found) → find k.0 c.desk.entries ≡ f → Finding k.0 (codes c) f
      → Asked C N c (plain_put k.0) (perform (Put k s v) lent c)
  unfolding verdict
  put_asked k s v lent n absent e h =
      let d : Desk = c.desk in
      let f = map_length coding d.entries in
      split (eqb (live d) d.capacity)
      (λ t.
      let full = eqb-true (live d) d.capacity t in
      new_asked k s v lent 1 n e (rw t) (omega arith) (and_no (eqb (live d) d.room)) (pushed k.0 h (omega arith)))
      (λ t.
      let short = eqb-false (live d) d.capacity t in
      let room : eqb (live d) d.room ≡ false = ne_eqb (live d) d.room (omega arith) in
      new_asked k s v lent 0 n e (rw t) (omega arith) (rw room)
      (rw (take_all (length (codes c) - 0) (codes c) (omega arith)) (added k.0 h (omega arith))))
  put_asked k s v lent n (present i e) q h =
      let w : Verdict = saying (Was e.value 0) (renew i v) in
      let es : List Row = revalued i v c.desk.entries in
      asked (Put k s v) lent w (rw (p.kind, q)) (omega arith)
      (held (plain_put k.0) w (to_front i es) refl
      (rw (map_to_front coding i es, codes_revalued i v c.desk.entries, h.1, h.2) (renewed k.0 h.0)))

  -- every request moves the codes so, and leaves a plain cache
  pub request_asked : (m : Command) (lent : ℕ) → Request (sort_of m) lent → Asked C N c (sort_of m) (perform m lent c)
  unfolding verdict
  request_asked (Put k s v) lent r = put_asked k s v lent r (find k.0 c.desk.entries) refl (finding k.0 c.desk.entries)
  request_asked (Get k) lent r = get_asked k lent (find k.0 c.desk.entries) refl (finding k.0 c.desk.entries)
  request_asked (Peek k) lent r = peek_asked k lent (find k.0 c.desk.entries) refl
  request_asked (Contains k) lent r =
      look_asked (Contains k) lent (Flag (on_found (find k.0 c.desk.entries) false (λ i e. true))) refl refl refl
  request_asked (PutWithWeight k s v w) lent r = absurd r
  request_asked (PutOrModify k s n) lent r = absurd r
  request_asked (TryPutOrModify k s n most) lent r = absurd r
  request_asked (Pop k) lent r = absurd r
  request_asked PopFront lent r = absurd r
  request_asked PopBack lent r = absurd r
  request_asked (Resize k) lent r = absurd r
  request_asked (Retain q) lent r = absurd r
  request_asked Clear lent r = absurd r
  request_asked Len lent r = absurd r
  request_asked Capacity lent r = absurd r
  request_asked Weight lent r = absurd r
  request_asked IsEmpty lent r = absurd r
  request_asked IsFull lent r = absurd r
  request_asked Front lent r = absurd r
  request_asked Back lent r = absurd r
  request_asked ListFront lent r = absurd r
  request_asked ListBack lent r = absurd r
  request_asked (GetMut k v) lent r = absurd r
  request_asked (PeekMut k v) lent r = absurd r
  request_asked (FrontMut v) lent r = absurd r
  request_asked (BackMut v) lent r = absurd r

  -- a `put` with a row lent is answered "new" exactly where the code is absent, and else the value found: it is never refused
  pub put_word_lem : (k : Code) (s v lent : ℕ) → 1 ≤ lent → word_of (perform (Put k s v) lent c).answer ≡ cond (has k.0 (codes c)) value new
  put_word_lem k s v lent n = moved_put (request_asked (Put k s v) lent n).moved

-- a run of requests leaves a plain cache
pub after_plain : (C N : ℕ) → 1 ≤ C → C ≤ N → (as' : List Call) (c : Cache) → Requests as' → Plain C N c → Plain C N (after c as')
after_plain C N some wide [] c r p = p
after_plain C N some wide (a ∷ as') c r p =
    after_plain C N some wide as' (step a c).left r.1 (request_asked C N some wide c p a.command a.lent r.0).plain

pub fresh_plain : (C N : ℕ) → Plain C N (fresh plain C N)
fresh_plain C N = record { kind = refl; capacity = refl; room = refl; fits = omega arith }
