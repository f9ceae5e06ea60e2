-- Every cache from opening on is lawful: the bounds, distinct codes, live + weight ≤ C, live ≤ N, weights 0 on a plain cache.
-- Assumes nothing.
use Prim.Native.Nat.{ℕ, zero, suc, ◌+◌, ◌-◌, ◌≤◌, ◌<◌}
use mathlib.Core.Bool.{true, false, ◌&&◌}
use mathlib.Core.List.{List, [], ◌∷◌}
use mathlib.Core.Path.{◌≡◌, refl, ap}
use native.Mathlib.Omega.{arith}
use lib.Dec.{eqb, leb, ltb}
use lib.ListN.{length}
use borrow.Author.Tests.{leb-true, leb-false, eqb-true, eqb-false, not-false}
use Rattle.head.specs.declared.Row.{Row}
use Rattle.head.specs.declared.Rule.{Rule}
use Rattle.head.specs.declared.Answer.{Answer}
use Rattle.head.specs.declared.Answer.TheVariants.{New, Now}
use Rattle.head.specs.declared.Command.{Command}
use Rattle.head.specs.declared.Command.TheVariants.{Len, Capacity, Weight, IsEmpty, IsFull, Front, Back, Peek, Contains, List as ListFront, ListBack, Get, Pop, PopFront, PopBack, Put, PutWithWeight, Clear, Retain, Resize, PutOrModify, TryPutOrModify, GetMut, PeekMut, FrontMut, BackMut}
use Rattle.head.specs.Bounds.{weighed_kind, most_capacity, most_slots, capacity_ok, allowed}
use Rattle.model.specs.Lists.{without, to_front, but_last, marked}
use Rattle.model.specs.Desk.{plain, kind_of, Desk, entry, revalued, present, find, first, last, live, weighs, cost, leaving, is_rule, marks}
use Rattle.model.specs.Moves.{Move, stay, raise, set, renew, drop, place, replace, fit, sweep, clear, holding, on_desk}
use Rattle.model.specs.Calls.{Verdict, admit, pushing, beside, exchange, wrong_weight, put_or_modify_call}
use Rattle.model.specs.Perform.{Cache, fresh, verdict, handed, perform}
use Rattle.model.specs.Runs.{Call, step, after}
use Rattle.model.specs.Codes.{codes_of, count, Distinct}
use Rattle.model.specs.Claims.{spent, Lawful}
use Rattle.model.proofs.Cases.{split, both}
use Rattle.model.proofs.Verdicts.{on_test, on_found_lem, on_plain_lem, on_lent}
use Rattle.model.proofs.Counting.{coded, sized, weighing, of_without, of_to_front, of_cut, of_marked, length_marks, find_present}
use Rattle.model.proofs.Backs.{length_but_last}
use Rattle.model.proofs.Tally.{distinct_step, move_tally}
use Rattle.model.proofs.Eviction.{enough, pushing_leaves}

-- all of `Lawful` but the codes
record Bounded (d : Desk) : Type 0 where
  pub capacity : (1 ≤ d.capacity) × (d.capacity ≤ most_capacity)
  pub room : (1 ≤ d.room) × (d.room ≤ most_slots)
  pub within : spent d.entries ≤ d.capacity
  pub roomy : live d ≤ d.room
  pub light : d.kind ≡ plain → weighs d.entries ≡ 0

-- ---- a list that is no longer and no heavier

record NoMore (es fs : List Row) : Type 0 where
  pub shorter : length es ≤ length fs
  pub lighter : weighs es ≤ weighs fs

no_more_out : (i : ℕ) (es : List Row) → NoMore (without i es) es
no_more_out i es = record { shorter = omega (arith, of_without sized i es); lighter = omega (arith, of_without weighing i es) }

no_more_raised : (i : ℕ) (es : List Row) → NoMore (to_front i es) es
no_more_raised i es = record { shorter = omega (arith, of_to_front sized i es); lighter = omega (arith, of_to_front weighing i es) }

no_more_cut : (k : ℕ) (es : List Row) → NoMore (but_last k es) es
no_more_cut k es = record { shorter = omega (arith, of_cut sized k es); lighter = omega (arith, of_cut weighing k es) }

no_more_swept : (q : Rule) (es : List Row) → NoMore (marked (marks q es) es) es
no_more_swept q es = record {
  shorter = omega (arith, of_marked sized (marks q es) es (length_marks q es));
  lighter = omega (arith, of_marked weighing (marks q es) es (length_marks q es));
}

no_more_revalued : (i v : ℕ) (es : List Row) → NoMore (revalued i v es) es
no_more_revalued i v [] = record { shorter = omega arith; lighter = omega arith }
no_more_revalued zero v (e ∷ es) = record { shorter = omega arith; lighter = omega arith }
no_more_revalued (suc i) v (e ∷ es) =
    let r = no_more_revalued i v es in
    record { shorter = omega arith; lighter = omega arith }

no_more_trans : {es fs gs : List Row} → NoMore es fs → NoMore fs gs → NoMore es gs
no_more_trans a b = record { shorter = omega arith; lighter = omega arith }

-- ---- moves

-- there is room for the entry e in front of the entries es
pub record Takes (d : Desk) (e : Row) (es : List Row) : Type 0 where
  pub within : cost e + spent es ≤ d.capacity
  pub roomy : suc (length es) ≤ d.room
  pub light : d.kind ≡ plain → e.weight ≡ 0

-- what a move has to see to
abbrev pub Proper : Desk → Move → Type 0
Proper d stay = Unit {0}
Proper d (raise i) = Unit {0}
Proper d (set i v) = Unit {0}
Proper d (renew i v) = Unit {0}
Proper d (drop i) = Unit {0}
Proper d (place k e) = Takes d e (but_last k d.entries)
Proper d (replace i k e) = Takes d e (but_last k (without i d.entries))
Proper d (fit k c) = (1 ≤ c) × (c ≤ most_capacity) × (spent (but_last k d.entries) ≤ c)
Proper d (sweep q) = Unit {0}
Proper d clear = Unit {0}

module _ (d : Desk) (b : Bounded d) where
  -- no more than before
  holds_less : (es : List Row) → NoMore es d.entries → Bounded (holding d es)
  holds_less es n = record {
    capacity = b.capacity;
    room = b.room;
    within = omega arith;
    roomy = omega arith;
    light = λ p. omega (arith, b.light p);
  }

  -- an entry more, in front of no more than before
  holds_one : (e : Row) (es : List Row) → NoMore es d.entries → Takes d e es → Bounded (holding d (e ∷ es))
  holds_one e es n t = record {
    capacity = b.capacity;
    room = b.room;
    within = omega arith;
    roomy = omega arith;
    light = λ p. omega (arith, b.light p, t.light p);
  }

  moved : (m : Move) → Proper d m → Bounded (on_desk m d)
  moved stay p = b
  moved (raise i) p = holds_less (to_front i d.entries) (no_more_raised i d.entries)
  moved (set i v) p = holds_less (revalued i v d.entries) (no_more_revalued i v d.entries)
  moved (renew i v) p =
      holds_less (to_front i (revalued i v d.entries))
      (no_more_trans (no_more_raised i (revalued i v d.entries)) (no_more_revalued i v d.entries))
  moved (drop i) p = holds_less (without i d.entries) (no_more_out i d.entries)
  moved (place k e) p = holds_one e (but_last k d.entries) (no_more_cut k d.entries) p
  moved (replace i k e) p =
      holds_one e (but_last k (without i d.entries))
      (no_more_trans (no_more_cut k (without i d.entries)) (no_more_out i d.entries))
      p
  moved (fit k c) p =
      let n = no_more_cut k d.entries in
      record {
        capacity = (p.0, p.1);
        room = b.room;
        within = p.2;
        roomy = omega arith;
        light = λ q. omega (arith, b.light q);
      }
  moved (sweep q) p = holds_less (marked (marks q d.entries) d.entries) (no_more_swept q d.entries)
  moved clear p = holds_less [] (record { shorter = omega arith; lighter = omega arith })

-- ---- verdicts

-- what the test of a capacity says
capacity_in : (c : ℕ) → capacity_ok c ≡ true → (1 ≤ c) × (c ≤ most_capacity)
capacity_in c t =
    let h = both (leb 1 c) (leb c most_capacity) t in
    (leb-true 1 c h.0, leb-true c most_capacity h.1)

-- without a found entry there is one entry less
without_found : (c : ℕ) (es : List Row) {i : ℕ} {e : Row} → find c es ≡ present i e → suc (length (without i es)) ≡ length es
without_found c es {i} h = omega (arith, of_without sized i es, ap length (find_present c es h).0)

module _ (d : Desk) (b : Bounded d) where
  Fine : Verdict → Type 0
  Fine v = Proper d v.move

  admit_fine : (k : ℕ) (e : Row) (a : Answer) → cost e + spent (but_last k d.entries) ≤ d.capacity
      → (d.kind ≡ plain → e.weight ≡ 0) → Fine (admit k e a d)
  unfolding Fine
  admit_fine k e a h w =
      on_test Fine (eqb (live d) d.room && eqb k 0) (λ t. tt)
      (λ t. record { within = h; roomy = has_room t; light = w })
    where
      has_room : (eqb (live d) d.room && eqb k 0) ≡ false → suc (length (but_last k d.entries)) ≤ d.room
      has_room t =
          split (eqb (live d) d.room)
          (λ s. let z : eqb k 0 ≡ false = rw s at t in omega (arith, eqb-false k 0 z, length_but_last k d.entries, b.roomy, b.room.0))
          (λ s. omega (arith, eqb-false (live d) d.room s, length_but_last k d.entries, b.roomy))

  -- an absent code on a plain cache
  put_fine : (e : Row) (a : Answer) → d.kind ≡ plain → e.weight ≡ 0 → Fine (admit (pushing d) e a d)
  put_fine e a p w =
      let k = pushing_leaves d b.capacity.0 (b.light p) (omega arith) in
      let n : cost e + spent (but_last (pushing d) d.entries) ≤ d.capacity =
      rw k (omega (arith, enough (d.capacity - 1) d.entries, b.capacity.0)) in
      admit_fine (pushing d) e a n (λ q. w)

  -- an old entry goes and a new one comes
  exchange_fine : (c i : ℕ) (old e : Row) → find c d.entries ≡ present i old → e.weight < d.capacity
      → (d.kind ≡ plain → e.weight ≡ 0) → Fine (exchange i old e d)
  unfolding Fine
  exchange_fine c i old e f w p =
      let rest : List Row = without i d.entries in
      let k : ℕ = leaving (beside e.weight d) rest in
      let n = without_found c d.entries f in
      record {
        within = omega (arith, enough (beside e.weight d) rest);
        roomy = omega (arith, length_but_last k rest, b.roomy);
        light = p;
      }

  modify_fine : (c s n : ℕ) → Fine (put_or_modify_call c s n d)
  unfolding Fine
  modify_fine c s n =
      on_plain_lem Fine d.kind tt
      (λ p.
      on_found_lem Fine (find c d.entries)
      (λ f. put_fine (entry c s n 0) (Now n true (pushing d)) p refl)
      (λ i e f. tt))

  verdict_fine : (m : Command) → Fine (verdict m d)
  unfolding Fine verdict
  verdict_fine Len = tt
  verdict_fine Capacity = tt
  verdict_fine Weight = tt
  verdict_fine IsEmpty = tt
  verdict_fine IsFull = tt
  verdict_fine Front = on_found_lem Fine (first d.entries) (λ f. tt) (λ i e f. tt)
  verdict_fine Back = on_found_lem Fine (last d.entries) (λ f. tt) (λ i e f. tt)
  verdict_fine (Peek c) = on_found_lem Fine (find c.0 d.entries) (λ f. tt) (λ i e f. tt)
  verdict_fine (Contains c) = tt
  verdict_fine ListFront = tt
  verdict_fine ListBack = tt
  verdict_fine (Get c) = on_found_lem Fine (find c.0 d.entries) (λ f. tt) (λ i e f. tt)
  verdict_fine (Pop c) = on_found_lem Fine (find c.0 d.entries) (λ f. tt) (λ i e f. tt)
  verdict_fine PopFront = on_found_lem Fine (first d.entries) (λ f. tt) (λ i e f. tt)
  verdict_fine PopBack = on_found_lem Fine (last d.entries) (λ f. tt) (λ i e f. tt)
  verdict_fine (Put c s v) =
      on_plain_lem Fine d.kind tt
      (λ p.
      on_found_lem Fine (find c.0 d.entries)
      (λ f. put_fine (entry c.0 s v 0) (New (pushing d)) p refl)
      (λ i e f. tt))
  verdict_fine (PutWithWeight c s v w) =
      on_test Fine (wrong_weight d.kind w) (λ t. tt)
      (λ t.
      on_test Fine (leb d.capacity w) (λ h. tt)
      (λ h.
      on_found_lem Fine (find c.0 d.entries)
      (λ f.
      admit_fine (leaving (beside w d) d.entries) (entry c.0 s v w) (New (leaving (beside w d) d.entries))
      (omega (arith, leb-false d.capacity w h, enough (beside w d) d.entries))
      (λ p. weightless t p))
      (λ i e f. exchange_fine c.0 i e (entry c.0 s v w) f (leb-false d.capacity w h) (λ p. weightless t p))))
    where
      weightless : wrong_weight d.kind w ≡ false → d.kind ≡ plain → w ≡ 0
      weightless t p = eqb-true w 0 (not-false (eqb w 0) (rw p at t))
  verdict_fine Clear = tt
  verdict_fine (Retain q) = on_test Fine (is_rule q) (λ t. tt) (λ t. tt)
  verdict_fine (Resize c) =
      on_test Fine (capacity_ok c)
      (λ t. let k = capacity_in c t in (k.0, k.1, enough c d.entries))
      (λ t. tt)
  verdict_fine (PutOrModify c s n) = modify_fine c.0 s n
  verdict_fine (TryPutOrModify c s n most) =
      on_plain_lem Fine d.kind tt
      (λ p.
      on_found_lem Fine (find c.0 d.entries)
      (λ f. on_test Fine (ltb most n) (λ t. tt) (λ t. modify_fine c.0 s n))
      (λ i e f. on_test Fine (ltb most (e.value + n)) (λ t. tt) (λ t. modify_fine c.0 s n)))
  verdict_fine (GetMut c v) =
      on_plain_lem Fine d.kind tt (λ p. on_found_lem Fine (find c.0 d.entries) (λ f. tt) (λ i e f. tt))
  verdict_fine (PeekMut c v) =
      on_plain_lem Fine d.kind tt (λ p. on_found_lem Fine (find c.0 d.entries) (λ f. tt) (λ i e f. tt))
  verdict_fine (FrontMut v) =
      on_plain_lem Fine d.kind tt (λ p. on_found_lem Fine (first d.entries) (λ f. tt) (λ i e f. tt))
  verdict_fine (BackMut v) =
      on_plain_lem Fine d.kind tt (λ p. on_found_lem Fine (last d.entries) (λ f. tt) (λ i e f. tt))

bounded_step : (a : Call) (c : Cache) → Bounded c.desk → Bounded (step a c).left.desk
unfolding perform Fine
bounded_step a c b =
    let v : Verdict = handed a.lent (verdict a.command c.desk) in
    moved c.desk b v.move
    (on_lent (Fine c.desk b) a.lent (verdict a.command c.desk) tt (verdict_fine c.desk b a.command))

-- the numbers that opening allows
bounded_fresh : (kind c n : ℕ) → allowed kind c n ≡ true → Bounded (fresh (kind_of kind) c n).desk
bounded_fresh kind c n h =
    let p = both (leb kind weighed_kind) (capacity_ok c && (leb 1 n && leb n most_slots)) h in
    let q = both (capacity_ok c) (leb 1 n && leb n most_slots) p.1 in
    let r = both (leb 1 n) (leb n most_slots) q.1 in
    record {
      capacity = capacity_in c q.0;
      room = (leb-true 1 n r.0, leb-true n most_slots r.1);
      within = omega arith;
      roomy = omega arith;
      light = λ k. refl;
    }

lawful : (d : Desk) → Bounded d → Distinct (codes_of d.entries) → Lawful d
lawful d b u = record {
  capacity = b.capacity;
  room = b.room;
  distinct = u;
  within = b.within;
  roomy = b.roomy;
  light = b.light;
}

bounded : (d : Desk) → Lawful d → Bounded d
bounded d l = record { capacity = l.capacity; room = l.room; within = l.within; roomy = l.roomy; light = l.light }

-- a new code must not stand in what is left of the list
abbrev pub Apart : Desk → Move → Type 0
Apart d stay = Unit {0}
Apart d (raise i) = Unit {0}
Apart d (set i v) = Unit {0}
Apart d (renew i v) = Unit {0}
Apart d (drop i) = Unit {0}
Apart d (place k e) = count e.code.0 (codes_of (but_last k d.entries)) ≡ 0
Apart d (replace i k e) = count e.code.0 (codes_of (but_last k (without i d.entries))) ≡ 0
Apart d (fit k c) = Unit {0}
Apart d (sweep q) = Unit {0}
Apart d clear = Unit {0}

-- a code in front of codes that do not have it
distinct_front : (c : ℕ) (cs : List ℕ) → count c cs ≡ 0 → Distinct cs → Distinct (c ∷ cs)
distinct_front c cs h u x =
    split (eqb x c)
    (λ t. let z : count x cs ≡ 0 = rw (eqb-true x c t) h in rw t (omega arith))
    (λ t. rw t (omega (arith, u x)))

distinct_less : (d : Desk) (es : List Row) → Lawful d → ((x : ℕ) → count x (codes_of es) ≤ count x (codes_of d.entries)) → Distinct (codes_of es)
distinct_less d es l h x = omega (arith, h x, l.distinct x)

distinct_move : (m : Move) (d : Desk) → Lawful d → Apart d m → Distinct (codes_of (on_desk m d).entries)
distinct_move stay d l a = l.distinct
distinct_move (raise i) d l a = distinct_less d (on_desk (raise i) d).entries l (λ x. omega (arith, move_tally (raise i) d x))
distinct_move (set i v) d l a = distinct_less d (on_desk (set i v) d).entries l (λ x. omega (arith, move_tally (set i v) d x))
distinct_move (renew i v) d l a = distinct_less d (on_desk (renew i v) d).entries l (λ x. omega (arith, move_tally (renew i v) d x))
distinct_move (drop i) d l a = distinct_less d (on_desk (drop i) d).entries l (λ x. omega (arith, move_tally (drop i) d x))
distinct_move (place k e) d l a =
    distinct_front e.code.0 (codes_of (but_last k d.entries)) a
    (distinct_less d (but_last k d.entries) l (λ x. omega (arith, of_cut (coded x) k d.entries)))
distinct_move (replace i k e) d l a =
    distinct_front e.code.0 (codes_of (but_last k (without i d.entries))) a
    (distinct_less d (but_last k (without i d.entries)) l
    (λ x. omega (arith, of_cut (coded x) k (without i d.entries), of_without (coded x) i d.entries)))
distinct_move (fit k c) d l a = distinct_less d (on_desk (fit k c) d).entries l (λ x. omega (arith, move_tally (fit k c) d x))
distinct_move (sweep q) d l a = distinct_less d (on_desk (sweep q) d).entries l (λ x. omega (arith, move_tally (sweep q) d x))
distinct_move clear d l a = λ x. omega arith

-- a proper move leaves a lawful cache lawful
pub move_lawful : (m : Move) (d : Desk) → Lawful d → Proper d m → Apart d m → Lawful (on_desk m d)
move_lawful m d l p a = lawful (on_desk m d) (moved d (bounded d l) m p) (distinct_move m d l a)

-- every cache that opening gives is lawful
pub fresh_lawful : (kind c n : ℕ) → allowed kind c n ≡ true → Lawful (fresh (kind_of kind) c n).desk
fresh_lawful kind c n h = lawful (fresh (kind_of kind) c n).desk (bounded_fresh kind c n h) (λ x. omega arith)

-- and every call leaves a lawful cache lawful
pub step_lawful : (a : Call) (c : Cache) → Lawful c.desk → Lawful (step a c).left.desk
step_lawful a c l =
    lawful (step a c).left.desk
    (bounded_step a c (bounded c.desk l))
    (distinct_step a c l.distinct)

pub after_lawful : (c : Cache) (as' : List Call) → Lawful c.desk → Lawful (after c as').desk
after_lawful c [] l = l
after_lawful c (a ∷ as') l = after_lawful (step a c).left as' (step_lawful a c l)
