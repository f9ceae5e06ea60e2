-- What a verdict comes to, the rows lent considered: the first of the causes of document 01's table that holds.
-- Assumes nothing.
use Prim.Native.Nat.{ℕ, zero, suc, ◌+◌, ◌<◌}
use mathlib.Core.Bool.{Bool, true, false, cond, not, ◌&&◌, ◌||◌}
use mathlib.Core.List.{List, [], ◌∷◌, reverse}
use mathlib.Core.Option.{Option, none, some}
use mathlib.Core.Path.{◌≡◌, refl, sym, ap, ◌∙◌}
use native.Mathlib.Omega.{arith}
use lib.Dec.{eqb, leb, ltb}
use lib.ListN.{length, length-append, length-reverse}
use borrow.Author.Tests.{leb-true, leb-false, le-leb, lt-leb, ltb-true, ltb-false, lt-ltb, le-ltb, eqb-true, eqb-false, eq-eqb, ne_eqb}
use Rattle.head.specs.declared.Row.{Row}
use Rattle.head.specs.declared.Rule.{Rule}
use Rattle.head.specs.declared.Refusal.{Refusal}
use Rattle.head.specs.declared.Refusal.TheVariants.{WrongKind, TooHeavy, NoSlot, TooFewRows, OverCeiling, NotUnderstood}
use Rattle.head.specs.declared.Answer.{Answer}
use Rattle.head.specs.declared.Answer.TheVariants.{No, New, Now, Absent, Done}
use Rattle.head.specs.declared.Command.{Command}
use Rattle.head.specs.declared.Command.TheVariants.{Len, Capacity, Weight, IsEmpty, IsFull, Front, Back, Peek, Contains, List as ListFront, ListBack, Get, Pop, PopFront, PopBack, Put, PutWithWeight, Clear, Retain, Resize, PutOrModify, TryPutOrModify, GetMut, PeekMut, FrontMut, BackMut}
use Rattle.head.specs.Bounds.{most_capacity}
use Rattle.model.specs.Lists.{without, but_last, oldest, marked, others}
use Rattle.model.specs.Desk.{Kind, plain, weighed, Desk, Found, absent, present, find, first, last, on_found, entry, live, weighs, leaving, keeps, marks}
use Rattle.model.specs.Moves.{Move, stay, place, fit, sweep}
use Rattle.model.specs.Calls.{Verdict, saying, refuse, on_plain, showing, listing, popping, setting, admit, pushing, beside, exchange, wrong_weight, put_or_modify_call}
use Rattle.model.specs.Perform.{verdict, handed}
use Rattle.model.specs.Claims.{dropped}
use Rattle.model.specs.Causes.{resizing, putting, weighing, no_capacity, no_rule, is_weighed, evicts, no_slot, gone, unkept, to_hand_out, cause, in_order, first_of, refusal_in}
use Rattle.model.proofs.Cases.{split}
use Rattle.model.proofs.Backs.{length_but_last, oldest_none}
use Rattle.model.proofs.Eviction.{none_leave, one_more, resize_loop, put_loop}

-- ---- the tests of numbers

-- from 1 to the most, or else 0 or above it
pub bounds_test : (most n : ℕ) → (leb 1 n && leb n most) ≡ not (eqb n 0 || ltb most n)
bounds_test most n =
    split (eqb n 0)
    (λ t. rw (t, lt-leb 1 n (omega (arith, eqb-true n 0 t))))
    (λ t.
    rw (t, le-leb 1 n (omega (arith, eqb-false n 0 t)))
    (split (ltb most n)
    (λ s. rw (s, lt-leb n most (ltb-true most n s)))
    (λ s. rw (s, le-leb n most (ltb-false most n s)))))

pub kind_test : (n : ℕ) → leb n 1 ≡ (eqb n 0 || eqb n 1)
kind_test zero = refl
kind_test (suc zero) = refl
kind_test (suc (suc n)) =
    let k : ℕ = suc (suc n) in
    rw (lt-leb k 1 (omega arith), ne_eqb k 0 (omega arith), ne_eqb k 1 (omega arith))

rule_test : (n : ℕ) → leb n 3 ≡ not (no_rule n)
rule_test zero = refl
rule_test (suc zero) = refl
rule_test (suc (suc zero)) = refl
rule_test (suc (suc (suc zero))) = refl
rule_test (suc (suc (suc (suc n)))) =
    let k : ℕ = suc (suc (suc (suc n))) in
    rw (lt-leb k 3 (omega arith), ne_eqb k 0 (omega arith), ne_eqb k 1 (omega arith), ne_eqb k 2 (omega arith), ne_eqb k 3 (omega arith))

-- a weight that the kind does not take
wrong_weight_lem : (k : Kind) (w : ℕ) → wrong_weight k w ≡ (not (is_weighed k) && not (eqb w 0))
wrong_weight_lem plain w = refl
wrong_weight_lem weighed w = refl

-- ---- how many leave

-- nothing is dropped where the test fails at once
pub none_dropped : (over : List Row → Bool) (n : ℕ) (es : List Row) → over es ≡ false → dropped over n es ≡ []
none_dropped over zero es h = refl
none_dropped over (suc n) es h = rw h

-- a cache whose live is C pushes out one
pushed_one : (c : ℕ) (es : List Row) → length es ≡ c → length (oldest 1 es) ≡ length (dropped (λ l. eqb (length l) c) (length es) es)
pushed_one c [] h = refl
pushed_one c (e ∷ es) h =
    let over : List Row → Bool = λ l. eqb (length l) c in
    let t : eqb (suc (length es)) c ≡ true = eq-eqb (suc (length es)) c h in
    let stop : eqb (length (but_last 1 (e ∷ es))) c ≡ false =
    ne_eqb (length (but_last 1 (e ∷ es))) c (omega (arith, length_but_last 1 (e ∷ es))) in
    rw (t, none_dropped over (length es) (but_last 1 (e ∷ es)) stop) (omega (arith, length-append (oldest 1 (e ∷ es)) []))

module _ (d : Desk) where
  push_none : eqb (pushing d) 0 ≡ not (eqb (live d) d.capacity)
  push_none = split (eqb (live d) d.capacity) (λ t. rw t) (λ t. rw t)

  push_gone : (c : ℕ) → length (oldest (pushing d) d.entries) ≡ gone (putting c) d d.entries
  push_gone c =
      split (eqb (live d) d.capacity)
      (λ t. let h = pushed_one d.capacity d.entries (eqb-true (live d) d.capacity t) in rw t h)
      (λ t. rw (t, oldest_none d.entries, none_dropped (evicts (putting c) d) (length d.entries) d.entries t))

  weigh_none : (c w : ℕ) (es : List Row) → w < d.capacity → eqb (leaving (beside w d) es) 0 ≡ not (evicts (weighing c w) d es)
  weigh_none c w es h =
      split (leb d.capacity (length es + weighs es + w))
      (λ t.
      let k = one_more (beside w d) es (omega (arith, leb-true d.capacity (length es + weighs es + w) t)) in
      rw (t, ne_eqb (leaving (beside w d) es) 0 (omega arith)))
      (λ t. rw (t, none_leave (beside w d) es (omega (arith, leb-false d.capacity (length es + weighs es + w) t))))

  weigh_gone : (c w : ℕ) (es : List Row) → w < d.capacity → length (oldest (leaving (beside w d) es) es) ≡ gone (weighing c w) d es
  weigh_gone c w es h = ap length (sym (put_loop d.capacity w es h).out)

  fit_gone : (c : ℕ) → length (oldest (leaving c d.entries) d.entries) ≡ gone (resizing c) d d.entries
  fit_gone c = ap length (sym (resize_loop c d.entries).out)

swept : (q : Rule) (es : List Row) → length (marked (others (marks q es)) es) ≡ unkept q es
swept q [] = refl
swept q (e ∷ es) =
    let r = swept q es in
    split (keeps q e) (λ t. rw t (omega arith)) (λ t. rw t (omega arith))

-- ---- verdicts

module _ (lent : ℕ) where
  -- the refusal that a verdict comes to, the rows lent considered
  abbrev said : Verdict → Option Refusal
  said v = refusal_in (handed lent v).answer

  -- the last test: so many rows, and no other refusal
  abbrev lastly : ℕ → Option Refusal
  lastly n = cond (ltb lent n) (some TooFewRows) none

  -- a refusal hands out no rows
  said_no : (r : Refusal) (v : Move) → said (saying (No r) v) ≡ some r
  said_no r v = rw (le-leb 0 lent (omega arith))

  -- what is no refusal is one where its rows do not fit
  said_rows : (v : Verdict) (n : ℕ) → refusal_in v.answer ≡ none → length v.rows ≡ n → said v ≡ lastly n
  said_rows v n e q =
      split (leb (length v.rows) lent)
      (λ t. rw (t, le-ltb lent n (omega (arith, leb-true (length v.rows) lent t))) e)
      (λ t. rw (t, lt-ltb lent n (omega (arith, leb-false (length v.rows) lent t))))

  -- no rows, and no refusal
  said_bare : (a : Answer) (v : Move) → refusal_in a ≡ none → said (saying a v) ≡ lastly 0
  said_bare a v e = said_rows (saying a v) 0 e refl

  said_test : (t : Bool) (r : Refusal) (m : Move) (v : Verdict) (o : Option Refusal) → (t ≡ false → said v ≡ o)
      → said (cond t (saying (No r) m) v) ≡ cond t (some r) o
  said_test true r m v o f = said_no r m
  said_test false r m v o f = f refl

  said_unless : (t : Bool) (r : Refusal) (v : Verdict) (o : Option Refusal) → said v ≡ o → said (cond (not t) v (refuse r)) ≡ cond t (some r) o
  said_unless true r v o f = said_no r _
  said_unless false r v o f = f

  said_plain : (k : Kind) (v : Verdict) (o : Option Refusal) → (k ≡ plain → said v ≡ o)
      → said (on_plain k v) ≡ cond (is_weighed k) (some WrongKind) o
  said_plain plain v o f = f refl
  said_plain weighed v o f = said_no WrongKind _

  said_found : (f : Found) (v : Verdict) (g : ℕ → Row → Verdict) (o : Option Refusal) → said v ≡ o → ((i : ℕ) (e : Row) → said (g i e) ≡ o)
      → said (on_found f v g) ≡ o
  said_found absent v g o a b = a
  said_found (present i e) v g o a b = b i e

  -- an absent code comes in
  said_admit : (k n : ℕ) (e : Row) (a : Answer) (d : Desk) (over : Bool) → refusal_in a ≡ none → eqb k 0 ≡ not over
      → length (oldest k d.entries) ≡ n → said (admit k e a d) ≡ cond (eqb (live d) d.room && not over) (some NoSlot) (lastly n)
  said_admit k n e a d over h z q =
      let v : Verdict = record { answer = a; rows = oldest k d.entries; move = place k e } in
      rw z (said_test (eqb (live d) d.room && not over) NoSlot stay v (lastly n) (λ t. said_rows v n h q))

  -- an absent code comes in, a present one has its rows
  said_put : (f : Found) (full idle : Bool) (v : Verdict) (g : ℕ → Row → Verdict) (n : ℕ) (k : ℕ → Row → ℕ)
      → said v ≡ cond (full && idle) (some NoSlot) (lastly n)
      → ((i : ℕ) (e : Row) → said (g i e) ≡ lastly (k i e))
      → said (on_found f v g) ≡ cond (on_found f true (λ i e. false) && full && idle) (some NoSlot) (lastly (on_found f n k))
  said_put absent full idle v g n k a b = a
  said_put (present i e) full idle v g n k a b = b i e

  -- over the ceiling, or as v
  said_under : (f : Found) (n most : ℕ) (m : ℕ → Row → Move) (v : Verdict) (o : Option Refusal) → said v ≡ o
      → said (on_found f (cond (ltb most n) (refuse OverCeiling) v) (λ i e. cond (ltb most (e.value + n)) (saying (No OverCeiling) (m i e)) v))
      ≡ cond (on_found f (ltb most n) (λ i e. ltb most (e.value + n))) (some OverCeiling) o
  said_under absent n most m v o h = said_test (ltb most n) OverCeiling stay v o (λ t. h)
  said_under (present i e) n most m v o h = said_test (ltb most (e.value + n)) OverCeiling (m i e) v o (λ t. h)

  module _ (d : Desk) where
    -- `put` of a code on a plain cache, and what is like it
    said_pushing : (c : ℕ) (e : Row) (a : Answer) (g : ℕ → Row → Verdict) → refusal_in a ≡ none → ((i : ℕ) (old : Row) → said (g i old) ≡ lastly 0)
        → said (on_plain d.kind (on_found (find c d.entries) (admit (pushing d) e a d) g))
        ≡ cond (is_weighed d.kind) (some WrongKind) (cond (no_slot (putting c) d) (some NoSlot) (lastly (to_hand_out (putting c) d)))
    said_pushing c e a g h b =
        said_plain d.kind _ _ (λ p.
        said_put (find c d.entries) (eqb (live d) d.room) (not (eqb (live d) d.capacity)) _ g (gone (putting c) d d.entries) (λ i old. 0)
        (said_admit (pushing d) (gone (putting c) d d.entries) e a d (eqb (live d) d.capacity) h (push_none d) (push_gone d c))
        b)

    said_modify : (c s n : ℕ)
        → said (put_or_modify_call c s n d)
        ≡ cond (is_weighed d.kind) (some WrongKind) (cond (no_slot (putting c) d) (some NoSlot) (lastly (to_hand_out (putting c) d)))
    said_modify c s n = said_pushing c (entry c s n 0) (Now n true (pushing d)) _ refl (λ i old. said_bare _ _ refl)

    said_weighing : (c s v w : ℕ) → leb d.capacity w ≡ false
        → said (on_found (find c d.entries) (admit (leaving (beside w d) d.entries) (entry c s v w) (New (leaving (beside w d) d.entries)) d) (λ i old. exchange i old (entry c s v w) d))
        ≡ cond (no_slot (weighing c w) d) (some NoSlot) (lastly (to_hand_out (weighing c w) d))
    said_weighing c s v w t =
        let h : w < d.capacity = leb-false d.capacity w t in
        let k : ℕ = leaving (beside w d) d.entries in
        said_put (find c d.entries) (eqb (live d) d.room) (not (evicts (weighing c w) d d.entries)) _ _ (gone (weighing c w) d d.entries) (λ i old. gone (weighing c w) d (without i d.entries))
        (said_admit k (gone (weighing c w) d d.entries) (entry c s v w) (New k) d (evicts (weighing c w) d d.entries) refl
        (weigh_none d c w d.entries h) (weigh_gone d c w d.entries h))
        (λ i old. said_rows (exchange i old (entry c s v w) d) _ refl (weigh_gone d c w (without i d.entries) h))

    said_assigning : (f : Found) (v : ℕ) → said (setting f v d) ≡ cond (is_weighed d.kind) (some WrongKind) (lastly 0)
    said_assigning f v =
        said_plain d.kind _ _ (λ p. said_found f _ _ (lastly 0) (said_bare Absent _ refl) (λ i e. said_bare _ _ refl))

    said_showing : (f : Found) → said (showing f) ≡ lastly 0
    said_showing f = said_found f _ _ (lastly 0) (said_bare _ _ refl) (λ i e. said_bare _ _ refl)

    said_popping : (f : Found) → said (popping f) ≡ lastly 0
    said_popping f = said_found f _ _ (lastly 0) (said_bare _ _ refl) (λ i e. said_bare _ _ refl)

    pub said_first : (m : Command) → said (verdict m d) ≡ first_of (cause m lent d) in_order
    unfolding verdict
    said_first (Resize c) =
        let k : ℕ = leaving c d.entries in
        let v : Verdict = record { answer = Done k; rows = oldest k d.entries; move = fit k c } in
        rw (bounds_test most_capacity c) (said_unless (no_capacity c) NotUnderstood v _ (said_rows v _ refl (fit_gone d c)))
    said_first (Retain q) =
        let out : List Row = marked (others (marks q d.entries)) d.entries in
        let v : Verdict = record { answer = Done (length out); rows = out; move = sweep q } in
        rw (rule_test q.number) (said_unless (no_rule q.number) NotUnderstood v _ (said_rows v _ refl (swept q d.entries)))
    said_first (Put c s v) = said_pushing c.0 (entry c.0 s v 0) (New (pushing d)) _ refl (λ i old. said_bare _ _ refl)
    said_first (PutOrModify c s n) = said_modify c.0 s n
    said_first (TryPutOrModify c s n most) =
        let o : Option Refusal = cond (no_slot (putting c.0) d) (some NoSlot) (lastly (to_hand_out (putting c.0) d)) in
        said_plain d.kind _ _ (λ p.
        said_under (find c.0 d.entries) n most _ (put_or_modify_call c.0 s n d) o
        (said_modify c.0 s n ∙ ap (λ (k : Kind). cond (is_weighed k) (some WrongKind) o) p))
    said_first (PutWithWeight c s v w) =
        rw (wrong_weight_lem d.kind w)
        (said_test (not (is_weighed d.kind) && not (eqb w 0)) WrongKind _ _ _ (λ t.
        said_test (leb d.capacity w) TooHeavy _ _ _ (λ u. said_weighing c.0 s v w u)))
    said_first (GetMut c v) =
        said_plain d.kind _ _ (λ p. said_found (find c.0 d.entries) _ _ (lastly 0) (said_bare Absent _ refl) (λ i e. said_bare _ _ refl))
    said_first (PeekMut c v) = said_assigning (find c.0 d.entries) v
    said_first (FrontMut v) = said_assigning (first d.entries) v
    said_first (BackMut v) = said_assigning (last d.entries) v
    said_first ListFront = said_rows (listing d.entries) _ refl refl
    said_first ListBack = said_rows (listing (reverse d.entries)) _ refl (length-reverse d.entries)
    said_first Len = said_bare _ _ refl
    said_first Capacity = said_bare _ _ refl
    said_first Weight = said_bare _ _ refl
    said_first IsEmpty = said_bare _ _ refl
    said_first IsFull = said_bare _ _ refl
    said_first Front = said_showing (first d.entries)
    said_first Back = said_showing (last d.entries)
    said_first (Peek c) = said_found (find c.0 d.entries) _ _ (lastly 0) (said_bare _ _ refl) (λ i e. said_bare _ _ refl)
    said_first (Contains c) = said_bare _ _ refl
    said_first (Get c) = said_found (find c.0 d.entries) _ _ (lastly 0) (said_bare _ _ refl) (λ i e. said_bare _ _ refl)
    said_first (Pop c) = said_found (find c.0 d.entries) _ _ (lastly 0) (said_bare _ _ refl) (λ i e. said_bare _ _ refl)
    said_first PopFront = said_popping (first d.entries)
    said_first PopBack = said_popping (last d.entries)
    said_first Clear = said_bare _ _ refl
