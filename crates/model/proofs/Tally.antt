-- The tally: what came in is there or has left, call by call and over every run; and no code stands in a cache twice.
-- Assumes nothing.
use Prim.Native.Nat.{ℕ, ◌+◌, ◌≤◌}
use mathlib.Core.Bool.{Bool, true, false, cond, ◌&&◌, false≢true}
use mathlib.Core.List.{List, [], ◌∷◌, ◌++◌, reverse, head-eq_of_cons-eq}
use mathlib.Core.Path.{◌≡◌, refl, ap}
use native.Mathlib.Omega.{arith}
use lib.Dec.{eqb, leb, ltb, leb-zero}
use lib.ListN.{length}
use borrow.Author.Tests.{eqb-true}
use Rattle.head.specs.declared.Row.{Row}
use Rattle.head.specs.declared.Refusal.TheVariants.{WrongKind, TooFewRows}
use Rattle.head.specs.declared.Answer.{Answer}
use Rattle.head.specs.declared.Answer.TheVariants.{New, Now}
use Rattle.head.specs.declared.Command.{Command}
use Rattle.head.specs.declared.Command.TheVariants.{Len, Capacity, Weight, IsEmpty, IsFull, Front, Back, Peek, Contains, List as ListFront, ListBack, Get, Pop, PopFront, PopBack, Put, PutWithWeight, Clear, Retain, Resize, PutOrModify, TryPutOrModify, GetMut, PeekMut, FrontMut, BackMut}
use Rattle.head.specs.Bounds.{capacity_ok}
use Rattle.model.specs.Lists.{without, only, oldest, marked, others}
use Rattle.model.specs.Desk.{Kind, Desk, entry, live, leaving, is_rule, Found, absent, present, find, first, last, on_found, marks, revalued}
use Rattle.model.specs.Moves.{Move, stay, raise, set, renew, drop, place, replace, fit, sweep, clear, on_desk}
use Rattle.model.specs.Calls.{Verdict, refuse, on_plain, popping, setting, admit, pushing, beside, wrong_weight, put_call, put_with_weight_call, put_or_modify_call, try_put_or_modify_call}
use Rattle.model.specs.Perform.{Cache, fresh, verdict, handed, carried, perform}
use Rattle.model.specs.Codes.{codes_of, count, Distinct, Rearranged}
use Rattle.model.specs.Runs.{Call, step, after, sort_of, word_of, is_new, shown_code, offered, departing, accepted, departed}
use Rattle.model.proofs.Cases.{split}
use Rattle.model.proofs.Verdicts.{on_test, on_found_lem, on_plain_lem, on_lent}
use Rattle.model.proofs.Counting.{coded, count_append, of_append, of_cut, of_without, of_to_front, of_marked, length_marks, codes_revalued, Stands, first_stands, last_stands, find_absent, find_present}

-- ---- a move

-- the entries that a move lets go
abbrev pub leavers : Move → List Row → List Row
leavers stay es = []
leavers (raise i) es = []
leavers (set i v) es = []
leavers (renew i v) es = []
leavers (drop i) es = only i es
leavers (place k e) es = oldest k es
leavers (replace i k e) es = only i es ++ oldest k (without i es)
leavers (fit k c) es = oldest k es
leavers (sweep q) es = marked (others (marks q es)) es
leavers clear es = es

-- the entry that a move brings, if any
abbrev pub comer : Move → List Row
comer stay = []
comer (raise i) = []
comer (set i v) = []
comer (renew i v) = []
comer (drop i) = []
comer (place k e) = e ∷ []
comer (replace i k e) = e ∷ []
comer (fit k c) = []
comer (sweep q) = []
comer clear = []

-- how often a code stands in a list of entries
abbrev often : ℕ → List Row → ℕ
often x es = count x (codes_of es)

often_revalued : (x i v : ℕ) (es : List Row) → often x (revalued i v es) ≡ often x es
often_revalued x i v es = ap (count x) (codes_revalued i v es)

-- whatever the move, what is left with the leavers is what was there with the comer
pub move_tally : (m : Move) (d : Desk) (x : ℕ) → often x (on_desk m d).entries + often x (leavers m d.entries) ≡ often x d.entries + often x (comer m)
move_tally stay d x = refl
move_tally (raise i) d x = omega (arith, of_to_front (coded x) i d.entries)
move_tally (set i v) d x = omega (arith, often_revalued x i v d.entries)
move_tally (renew i v) d x = omega (arith, of_to_front (coded x) i (revalued i v d.entries), often_revalued x i v d.entries)
move_tally (drop i) d x = omega (arith, of_without (coded x) i d.entries)
move_tally (place k e) d x = omega (arith, of_cut (coded x) k d.entries)
move_tally (replace i k e) d x =
    omega (
      arith,
      of_without (coded x) i d.entries,
      of_cut (coded x) k (without i d.entries),
      of_append (coded x) (only i d.entries) (oldest k (without i d.entries)),
    )
move_tally (fit k c) d x = omega (arith, of_cut (coded x) k d.entries)
move_tally (sweep q) d x = omega (arith, of_marked (coded x) (marks q d.entries) d.entries (length_marks q d.entries))
move_tally clear d x = omega arith

-- ---- a verdict

-- a verdict on the entries es, where o was offered and `told` says who left, settles: what comes and leaves is told, and only an absent code is "new"
record Settles (o : List ℕ) (told : Verdict → List ℕ) (es : List Row) (v : Verdict) : Type 0 where
  even : (x : ℕ) → count x (told v) + often x (comer v.move) ≡ often x (leavers v.move es) + count x (cond (is_new (word_of v.answer)) o [])
  new : is_new (word_of v.answer) ≡ true → (y : ℕ) → o ≡ y ∷ [] → often y es ≡ 0
  once : (x : ℕ) → often x es ≤ 1 → often x es + count x (cond (is_new (word_of v.answer)) o []) ≤ 1

module _ {o : List ℕ} {told : Verdict → List ℕ} {es : List Row} where
  -- a verdict that is not "new" settles where what is told makes up for the comer
  level : {v : Verdict} → is_new (word_of v.answer) ≡ false → ((x : ℕ) → count x (told v) + often x (comer v.move) ≡ often x (leavers v.move es)) → Settles o told es v
  level n h = record {
    even = λ x. rw n (omega (arith, h x));
    new = λ t. absurd (false≢true (rw n at t));
    once = λ x l. rw n (omega arith);
  }

  -- the same where nobody comes
  quiet : {v : Verdict} → is_new (word_of v.answer) ≡ false → comer v.move ≡ [] → told v ≡ codes_of (leavers v.move es) → Settles o told es v
  quiet n k h = level n (λ x. rw (k, h) (omega arith))

  -- a verdict chosen by a test, by the kind, by the rows lent, by what is found: it settles where each choice does
  either : (b : Bool) {v w : Verdict} → Settles o told es v → Settles o told es w → Settles o told es (cond b v w)
  either b s t = on_test (Settles o told es) b (λ h. s) (λ h. t)

  plainly : (k : Kind) {v : Verdict} → told (refuse WrongKind) ≡ [] → Settles o told es v → Settles o told es (on_plain k v)
  plainly k n s = on_plain_lem (Settles o told es) k (quiet refl refl n) (λ h. s)

  handing : (lent : ℕ) {v : Verdict} → told (refuse TooFewRows) ≡ [] → Settles o told es v → Settles o told es (handed lent v)
  handing lent {v} n s = on_lent (Settles o told es) lent v (quiet refl refl n) s

  seen : (f : Found) {a : Verdict} {g : ℕ → Row → Verdict} → Settles o told es a → ((i : ℕ) (e : Row) → Settles o told es (g i e))
      → Settles o told es (on_found f a g)
  seen f s t = on_found_lem (Settles o told es) f (λ h. s) (λ i e h. t i e)

  sought : (c : ℕ) {a : Verdict} {g : ℕ → Row → Verdict}
      → (often c es ≡ 0 → Settles o told es a)
      → ((i : ℕ) (e : Row) → only i es ≡ e ∷ [] → e.code.0 ≡ c → Settles o told es (g i e))
      → Settles o told es (on_found (find c es) a g)
  sought c s t =
      on_found_lem (Settles o told es) (find c es)
      (λ h. s (find_absent c es h))
      (λ i e h. let p = find_present c es h in t i e p.0 p.1)

-- a putting call tells what left by its rows
abbrev Puts : ℕ → Desk → Verdict → Type 0
Puts c d = Settles (c ∷ []) (λ v. codes_of v.rows) d.entries

-- an absent code comes in, or is refused for want of a slot
put_new : (k : ℕ) (e : Row) (a : Answer) (d : Desk) → is_new (word_of a) ≡ true → often e.code.0 d.entries ≡ 0 → Puts e.code.0 d (admit k e a d)
put_new k e a d n h =
    either (eqb (live d) d.room && eqb k 0) (quiet refl refl refl)
    (record {
      even = λ x. rw n (omega arith);
      new = λ t y q. rw (← head-eq_of_cons-eq q) h;
      once = λ x l.
          split (eqb x e.code.0)
          (λ t. let z : often x d.entries ≡ 0 = rw (eqb-true x e.code.0 t) h in rw (n, t) (omega arith))
          (λ t. rw (n, t) (omega arith));
    })

put_settles : (c s v : ℕ) (d : Desk) → Puts c d (put_call c s v d)
put_settles c s v d =
    plainly d.kind refl
    (sought c
    (put_new (pushing d) (entry c s v 0) (New (pushing d)) d refl)
    (λ i e p q. quiet refl refl refl))

modify_settles : (c s n : ℕ) (d : Desk) → Puts c d (put_or_modify_call c s n d)
modify_settles c s n d =
    plainly d.kind refl
    (sought c
    (put_new (pushing d) (entry c s n 0) (Now n true (pushing d)) d refl)
    (λ i e p q. quiet refl refl refl))

try_settles : (c s n most : ℕ) (d : Desk) → Puts c d (try_put_or_modify_call c s n most d)
try_settles c s n most d =
    plainly d.kind refl
    (sought c
    (λ q. either (ltb most n) (quiet refl refl refl) (modify_settles c s n d))
    (λ i e p q. either (ltb most (e.value + n)) (quiet refl refl refl) (modify_settles c s n d)))

weigh_settles : (c s v w : ℕ) (d : Desk) → Puts c d (put_with_weight_call c s v w d)
weigh_settles c s v w d =
    either (wrong_weight d.kind w) (quiet refl refl refl)
    (either (leb d.capacity w) (quiet refl refl refl)
    (sought c
    (put_new (leaving (beside w d) d.entries) (entry c s v w) (New (leaving (beside w d) d.entries)) d refl)
    (λ i e p q. level refl (λ x. rw (p, q) (omega arith)))))

pop_settles : (f : Found) (es : List Row) → Stands es f → Settles [] (λ v. shown_code (word_of v.answer)) es (popping f)
pop_settles absent es p = quiet refl refl refl
pop_settles (present i e) es p = quiet refl refl (rw p)

set_settles : (f : Found) (v : ℕ) (d : Desk) → Settles [] (λ u. []) d.entries (setting f v d)
set_settles f v d = plainly d.kind refl (seen f (quiet refl refl refl) (λ i e. quiet refl refl refl))

-- ---- a call

-- every command's verdict settles, with however many rows lent
settles : (m : Command) (lent : ℕ) (c : Cache) → Settles (offered (sort_of m)) (λ v. departing (sort_of m) c (carried v c)) c.desk.entries (handed lent (verdict m c.desk))
unfolding verdict
settles Len lent c = rw (leb-zero lent) (quiet refl refl refl)
settles Capacity lent c = rw (leb-zero lent) (quiet refl refl refl)
settles Weight lent c = rw (leb-zero lent) (quiet refl refl refl)
settles IsEmpty lent c = rw (leb-zero lent) (quiet refl refl refl)
settles IsFull lent c = rw (leb-zero lent) (quiet refl refl refl)
settles Front lent c = handing lent refl (seen (first c.desk.entries) (quiet refl refl refl) (λ i e. quiet refl refl refl))
settles Back lent c = handing lent refl (seen (last c.desk.entries) (quiet refl refl refl) (λ i e. quiet refl refl refl))
settles (Peek k) lent c = handing lent refl (seen (find k.0 c.desk.entries) (quiet refl refl refl) (λ i e. quiet refl refl refl))
settles (Contains k) lent c = rw (leb-zero lent) (quiet refl refl refl)
settles ListFront lent c = either (leb (length c.desk.entries) lent) (quiet refl refl refl) (quiet refl refl refl)
settles ListBack lent c = either (leb (length (reverse c.desk.entries)) lent) (quiet refl refl refl) (quiet refl refl refl)
settles (Get k) lent c = handing lent refl (seen (find k.0 c.desk.entries) (quiet refl refl refl) (λ i e. quiet refl refl refl))
settles (Pop k) lent c = handing lent refl (sought k.0 (λ q. quiet refl refl refl) (λ i e p q. quiet refl refl (rw (p, q))))
settles PopFront lent c = handing lent refl (pop_settles (first c.desk.entries) c.desk.entries (first_stands c.desk.entries))
settles PopBack lent c = handing lent refl (pop_settles (last c.desk.entries) c.desk.entries (last_stands c.desk.entries))
settles (Put k s v) lent c = handing lent refl (put_settles k.0 s v c.desk)
settles (PutWithWeight k s v w) lent c = handing lent refl (weigh_settles k.0 s v w c.desk)
settles Clear lent c = rw (leb-zero lent) (quiet refl refl refl)
settles (Retain q) lent c = handing lent refl (either (is_rule q) (quiet refl refl refl) (quiet refl refl refl))
settles (Resize n) lent c = handing lent refl (either (capacity_ok n) (quiet refl refl refl) (quiet refl refl refl))
settles (PutOrModify k s n) lent c = handing lent refl (modify_settles k.0 s n c.desk)
settles (TryPutOrModify k s n most) lent c = handing lent refl (try_settles k.0 s n most c.desk)
settles (GetMut k v) lent c = handing lent refl (plainly c.desk.kind refl (seen (find k.0 c.desk.entries) (quiet refl refl refl) (λ i e. quiet refl refl refl)))
settles (PeekMut k v) lent c = handing lent refl (set_settles (find k.0 c.desk.entries) v c.desk)
settles (FrontMut v) lent c = handing lent refl (set_settles (first c.desk.entries) v c.desk)
settles (BackMut v) lent c = handing lent refl (set_settles (last c.desk.entries) v c.desk)

-- the codes of the cache before a call, with the one taken in as "new", are those after it with those that left
pub step_tally : (a : Call) (c : Cache)
    → Rearranged (codes_of (step a c).left.desk.entries ++ departing (sort_of a.command) c (step a c))
    (codes_of c.desk.entries ++ cond (is_new (word_of (step a c).answer)) (offered (sort_of a.command)) [])
unfolding perform
step_tally a c x =
    let m = move_tally (handed a.lent (verdict a.command c.desk)).move c.desk x in
    let e = (settles a.command a.lent c).even x in
    simp count_append (omega arith)

-- what is answered "new" was offered a code that did not stand in the cache
pub new_was_absent : (a : Call) (c : Cache) (y : ℕ) → is_new (word_of (step a c).answer) ≡ true → offered (sort_of a.command) ≡ y ∷ [] → count y (codes_of c.desk.entries) ≡ 0
unfolding perform
new_was_absent a c y n o = (settles a.command a.lent c).new n y o

pub distinct_step : (a : Call) (c : Cache) → Distinct (codes_of c.desk.entries) → Distinct (codes_of (step a c).left.desk.entries)
unfolding perform
distinct_step a c h x =
    let t = simp count_append at (step_tally a c x) in
    omega (arith, t, (settles a.command a.lent c).once x (h x))

-- ---- a run

pub distinct_after : (c : Cache) (as' : List Call) → Distinct (codes_of c.desk.entries) → Distinct (codes_of (after c as').desk.entries)
distinct_after c [] h = h
distinct_after c (a ∷ as') h = distinct_after (step a c).left as' (distinct_step a c h)

-- the tally from any cache on
pub run_tally : (c : Cache) (as' : List Call) → Rearranged (codes_of c.desk.entries ++ accepted c as') (codes_of (after c as').desk.entries ++ departed c as')
run_tally c [] x = refl
run_tally c (a ∷ as') x =
    let r = simp count_append at (run_tally (step a c).left as' x) in
    let t = simp count_append at (step_tally a c x) in
    simp count_append (omega (arith, r, t))

-- the codes accepted as "new" in a run from a fresh cache are those still there and those that left, each as often
pub tally : (k : Kind) (cap n : ℕ) (as' : List Call) → Rearranged (accepted (fresh k cap n) as') (codes_of (after (fresh k cap n) as').desk.entries ++ departed (fresh k cap n) as')
tally k cap n as' = run_tally (fresh k cap n) as'
