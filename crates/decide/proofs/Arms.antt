-- What each arm of `decide` says is the verdict of its command.
-- Assumes nothing.
use Rattle.std.proofs.Common.{◌≡◌, ℕ, ◌+◌, ◌*◌, ◌≤◌, Bool, eqb, List, reverse, length, sym, refl, ◌∙◌, arith}
use lib.Dec.{leb-zero}
use lib.ListN.{length-reverse}
use Rattle.head.specs.declared.Head.{Head}
use Rattle.head.specs.declared.Code.{Code}
use Rattle.head.specs.declared.Rule.{Rule}
use Rattle.head.specs.declared.Answer.TheVariants.{Done, Count, Flag}
use Rattle.head.specs.declared.Command.{Command}
use Rattle.head.specs.declared.Command.TheVariants.{Len, Capacity, Weight, IsEmpty, IsFull, Front, Back, Peek, Contains, List as ListFront, ListBack, Get, Pop, PopFront, PopBack, Put, PutWithWeight, Clear, Retain, Resize, PutOrModify, TryPutOrModify, GetMut, PeekMut, FrontMut, BackMut}
use Rattle.head.specs.Bounds.{most_capacity}
use Rattle.model.specs.Desk.{Desk, first, last}
use Rattle.model.specs.Calls.{Verdict, listing, contains_call, peek_call, get_call, pop_call, get_mut_call, put_call, put_with_weight_call, put_or_modify_call, try_put_or_modify_call, retain_call, resize_call}
use Rattle.model.specs.Perform.{Cache, verdict}
use Rattle.table.specs.declared.Search.{Search}
use Rattle.table.specs.Sound.{Gapped}
use Rattle.store.proofs.Described.{order_live}
use Rattle.store.proofs.Searching.{search_open}
use Rattle.rows.specs.Views.{Forward, Weighted}
use Rattle.rows.proofs.Callers.{forward, weighted}
use Rattle.plan.specs.declared.Decision.{Decision}
use Rattle.plan.specs.declared.Plan.TheVariants.{List as PlanList, ListBack as PlanListBack, Clear as PlanClear}
use Rattle.plan.specs.Plans.{said}
use Rattle.plan.specs.States.{State, Means, Sound}
use Rattle.std.specs.Prelude.{Option, None, Some}
use Rattle.decide.specs.Views.{ForSome, Sought, Loaded}
use Rattle.decide.specs.Settled.{Settles, Always, peek_mut_call}
use Rattle.decide.specs.Wants.{wanted_by, search_for}
use Rattle.decide.specs.Numbers.{fitted, Ending, Readable, Reached, shown, popped, assigned}
use Rattle.decide.proofs.Pointing.{reaches}
use Rattle.decide.proofs.Putting.{fitted_means, fitted_named}
use Rattle.decide.proofs.Ends.{front_ends, back_ends, end_reached, shown_means, shown_named, popped_means, popped_named, assigned_means, assigned_named}

-- the answer of a search in a state's table
abbrev answer_in : State → Option Code → Search
answer_in s w = search_for w s.head.slots s.cells s.fields.codes

module _ {s : State} where
  -- ---- a described state, as the deciding functions see it

  -- the search for a code was made in its table
  looked : (k : Code) {a : Search} → a ≡ answer_in s (Some k) → (c : Cache) → Means s c → Sought s.head s.fields.values a k.0 c
  looked k q c d = record {
    codes = s.fields.codes;
    stamps = s.fields.stamps;
    weights = s.fields.weights;
    nexts = s.nexts;
    prevs = s.prevs;
    stack = s.stack;
    cells = s.cells;
    described = d;
    answer = q;
  }

  loaded : (k : Code) {a : Search} → a ≡ answer_in s (Some k) → (c : Cache) → Means s c → Loaded s.head s.fields.values s.fields.weights s.prevs a k.0 c
  loaded k q c d = record { searched = looked k q c d; weighted = weighted d }

  module _ (w : Sound s) where
    pub opened : Gapped (2 * s.head.slots) s.cells s.fields.codes
    opened = search_open w.described

    reached_for : (k : Option Code) {a : Search} → a ≡ answer_in s k → Reached a s.fields.values
    reached_for (Some k) {a} q = reaches a (looked k q w.cache w.described)
    reached_for None q = rw q tt

    pub search_reached : (m : Command) {a : Search} → a ≡ answer_in s (wanted_by m) → Reached a s.fields.values
    search_reached m q = reached_for (wanted_by m) q

    pub some_loaded : {m : Command} {a : Search} {k : Code} {t v u : ℕ} → m ≡ PutWithWeight k t v u
        → a ≡ answer_in s (wanted_by m) → ForSome (Loaded s.head s.fields.values s.fields.weights s.prevs a k.0)
    unfolding wanted_by
    some_loaded {k = k} e q = record { cache = w.cache; seen = loaded k (rw e at q) w.cache w.described }

    pub some_forward : ForSome (Forward s.head s.fields s.nexts)
    some_forward = record { cache = w.cache; seen = forward w.described }

    pub some_weighted : ForSome (Weighted s.head s.fields.weights s.prevs)
    some_weighted = record { cache = w.cache; seen = weighted w.described }

    pub small : s.head.live + s.head.weight ≤ most_capacity
    small =
        let d = w.described in
        omega (arith, order_live d, d.weight, d.lawful.within, d.lawful.capacity.1)

    pub front_ending : Ending s.head.front.0 s.fields
    front_ending = end_reached w.described s.head.front (first w.cache.desk.entries) (front_ends w.described)

    pub back_ending : Ending s.head.back.0 s.fields
    back_ending = end_reached w.described s.head.back (last w.cache.desk.entries) (back_ends w.described)

    pub front_readable : Readable s.head.front.0 s.fields.values
    front_readable n = (front_ending n).values

    pub back_readable : Readable s.head.back.0 s.fields.values
    back_readable n = (back_ending n).values

  -- what is settled for a view is settled for the state
  seen_by : (P : Cache → Type 0) {call : Desk → Verdict} {lent : ℕ} {r : Decision} → ((c : Cache) → Means s c → P c) → Settles P call lent r → Settles (Means s) call lent r
  seen_by P v p = record { means = λ c d. p.means c (v c d); named = λ c d. p.named c (v c d) }

  by_code : (k : Code) {a : Search} {call : Desk → Verdict} {lent : ℕ} {r : Decision} → a ≡ answer_in s (Some k)
      → Settles (Sought s.head s.fields.values a k.0) call lent r → Settles (Means s) call lent r
  by_code k {a} q p = seen_by (Sought s.head s.fields.values a k.0) (looked k q) p

  module _ {m : Command} {lent : ℕ} {r : Decision} where
    -- ---- totals

    pub len_arm : m ≡ Len → r ≡ said (Count s.head.live) → Settles (Means s) (verdict m) lent r
    unfolding verdict
    len_arm e z = rw (e, z) (record { means = λ c d. rw (order_live d, leb-zero lent) refl; named = λ c d. tt })

    pub capacity_arm : m ≡ Capacity → r ≡ said (Count s.head.capacity) → Settles (Means s) (verdict m) lent r
    unfolding verdict
    capacity_arm e z = rw (e, z) (record { means = λ c d. rw (d.capacity, leb-zero lent) refl; named = λ c d. tt })

    pub weight_arm : m ≡ Weight → r ≡ said (Count s.head.weight) → Settles (Means s) (verdict m) lent r
    unfolding verdict
    weight_arm e z = rw (e, z) (record { means = λ c d. rw (d.weight, leb-zero lent) refl; named = λ c d. tt })

    pub empty_arm : m ≡ IsEmpty → r ≡ said (Flag (eqb s.head.live 0)) → Settles (Means s) (verdict m) lent r
    unfolding verdict
    empty_arm e z = rw (e, z) (record { means = λ c d. rw (order_live d, leb-zero lent) refl; named = λ c d. tt })

    pub full_arm : {t : Bool} → m ≡ IsFull → t ≡ eqb (s.head.live + s.head.weight) s.head.capacity → r ≡ said (Flag t) → Settles (Means s) (verdict m) lent r
    unfolding verdict
    full_arm e q z =
        rw (e, z, q)
        (record { means = λ c d. rw (order_live d, d.weight, d.capacity, leb-zero lent) refl; named = λ c d. tt })

    pub clear_arm : m ≡ Clear → r ≡ record { answer = Count s.head.live; plan = PlanClear } → Settles (Means s) (verdict m) lent r
    unfolding verdict
    clear_arm e z = rw (e, z) (record { means = λ c d. rw (order_live d, leb-zero lent) refl; named = λ c d. tt })

    -- ---- listings

    pub list_arm : m ≡ ListFront → r ≡ fitted lent s.head.live (record { answer = Done s.head.live; plan = PlanList }) → Settles (Means s) (verdict m) lent r
    unfolding verdict
    list_arm e z =
        rw (e, z)
        (record {
          means = λ c d.
              rw (order_live d)
              (fitted_means c lent (length c.desk.entries) (listing c.desk.entries) (record { answer = Done (length c.desk.entries); plan = PlanList }) refl refl);
          named = λ c d. fitted_named c lent s.head.live (record { answer = Done s.head.live; plan = PlanList }) tt;
        })

    pub list_back_arm : m ≡ ListBack → r ≡ fitted lent s.head.live (record { answer = Done s.head.live; plan = PlanListBack }) → Settles (Means s) (verdict m) lent r
    unfolding verdict
    list_back_arm e z =
        rw (e, z)
        (record {
          means = λ c d.
              let n : length (reverse c.desk.entries) ≡ s.head.live = length-reverse c.desk.entries ∙ sym (order_live d) in
              fitted_means c lent s.head.live (listing (reverse c.desk.entries)) (record { answer = Done s.head.live; plan = PlanListBack }) n (rw n refl);
          named = λ c d. fitted_named c lent s.head.live (record { answer = Done s.head.live; plan = PlanListBack }) tt;
        })

    -- ---- the ends

    pub front_arm : m ≡ Front → r ≡ shown s.fields s.head.front → Settles (Means s) (verdict m) lent r
    unfolding verdict
    front_arm e z =
        rw (e, z)
        (record {
          means = λ c d. shown_means d s.head.front (first c.desk.entries) (front_ends d) lent;
          named = λ c d. shown_named d s.head.front (first c.desk.entries) (front_ends d);
        })

    pub back_arm : m ≡ Back → r ≡ shown s.fields s.head.back → Settles (Means s) (verdict m) lent r
    unfolding verdict
    back_arm e z =
        rw (e, z)
        (record {
          means = λ c d. shown_means d s.head.back (last c.desk.entries) (back_ends d) lent;
          named = λ c d. shown_named d s.head.back (last c.desk.entries) (back_ends d);
        })

    pub pop_front_arm : m ≡ PopFront → r ≡ popped s.fields s.head.front → Settles (Means s) (verdict m) lent r
    unfolding verdict
    pop_front_arm e z =
        rw (e, z)
        (record {
          means = λ c d. popped_means d s.head.front (first c.desk.entries) (front_ends d) lent;
          named = λ c d. popped_named d s.head.front (first c.desk.entries) (front_ends d);
        })

    pub pop_back_arm : m ≡ PopBack → r ≡ popped s.fields s.head.back → Settles (Means s) (verdict m) lent r
    unfolding verdict
    pop_back_arm e z =
        rw (e, z)
        (record {
          means = λ c d. popped_means d s.head.back (last c.desk.entries) (back_ends d) lent;
          named = λ c d. popped_named d s.head.back (last c.desk.entries) (back_ends d);
        })

    pub front_mut_arm : {v : ℕ} → m ≡ FrontMut v → r ≡ assigned s.head.kind s.fields.values s.head.front v → Settles (Means s) (verdict m) lent r
    unfolding verdict
    front_mut_arm {v} e z =
        rw (e, z)
        (record {
          means = λ c d. assigned_means d s.head.front (first c.desk.entries) (front_ends d) lent v;
          named = λ c d. assigned_named d s.head.front (first c.desk.entries) (front_ends d) v;
        })

    pub back_mut_arm : {v : ℕ} → m ≡ BackMut v → r ≡ assigned s.head.kind s.fields.values s.head.back v → Settles (Means s) (verdict m) lent r
    unfolding verdict
    back_mut_arm {v} e z =
        rw (e, z)
        (record {
          means = λ c d. assigned_means d s.head.back (last c.desk.entries) (back_ends d) lent v;
          named = λ c d. assigned_named d s.head.back (last c.desk.entries) (back_ends d) v;
        })

    -- ---- by code

    module _ {a : Search} (q : a ≡ answer_in s (wanted_by m)) where
      pub contains_arm : {k : Code} → m ≡ Contains k → ((h : Head) (values : List ℕ) (code : ℕ) → Always (Sought h values a code) (contains_call code) r) → Settles (Means s) (verdict m) lent r
      unfolding verdict wanted_by
      contains_arm {k} e p = rw e (by_code k (rw e at q) (p s.head s.fields.values k.0 lent))

      pub peek_arm : {k : Code} → m ≡ Peek k → ((h : Head) (code : ℕ) → Always (Sought h s.fields.values a code) (peek_call code) r) → Settles (Means s) (verdict m) lent r
      unfolding verdict wanted_by
      peek_arm {k} e p = rw e (by_code k (rw e at q) (p s.head k.0 lent))

      pub get_arm : {k : Code} → m ≡ Get k → ((h : Head) (code : ℕ) → Always (Sought h s.fields.values a code) (get_call code) r) → Settles (Means s) (verdict m) lent r
      unfolding verdict wanted_by
      get_arm {k} e p = rw e (by_code k (rw e at q) (p s.head k.0 lent))

      pub pop_arm : {k : Code} → m ≡ Pop k → ((h : Head) (code : ℕ) → Always (Sought h s.fields.values a code) (pop_call code) r) → Settles (Means s) (verdict m) lent r
      unfolding verdict wanted_by
      pop_arm {k} e p = rw e (by_code k (rw e at q) (p s.head k.0 lent))

      pub get_mut_arm : {k : Code} {v : ℕ} → m ≡ GetMut k v → ((code : ℕ) → Always (Sought s.head s.fields.values a code) (get_mut_call code v) r) → Settles (Means s) (verdict m) lent r
      unfolding verdict wanted_by
      get_mut_arm {k} e p = rw e (by_code k (rw e at q) (p k.0 lent))

      pub peek_mut_arm : {k : Code} {v : ℕ} → m ≡ PeekMut k v → ((code : ℕ) → Always (Sought s.head s.fields.values a code) (peek_mut_call code v) r) → Settles (Means s) (verdict m) lent r
      unfolding verdict wanted_by
      peek_mut_arm {k} e p = rw e (by_code k (rw e at q) (p k.0 lent))

      pub put_arm : {k : Code} {t v : ℕ} → m ≡ Put k t v → Settles (Sought s.head s.fields.values a k.0) (put_call k.0 t v) lent r → Settles (Means s) (verdict m) lent r
      unfolding verdict wanted_by
      put_arm {k} e p = rw e (by_code k (rw e at q) p)

      pub modify_arm : {k : Code} {t n : ℕ} → m ≡ PutOrModify k t n → Settles (Sought s.head s.fields.values a k.0) (put_or_modify_call k.0 t n) lent r → Settles (Means s) (verdict m) lent r
      unfolding verdict wanted_by
      modify_arm {k} e p = rw e (by_code k (rw e at q) p)

      pub try_arm : {k : Code} {t n most : ℕ} → m ≡ TryPutOrModify k t n most → Settles (Sought s.head s.fields.values a k.0) (try_put_or_modify_call k.0 t n most) lent r → Settles (Means s) (verdict m) lent r
      unfolding verdict wanted_by
      try_arm {k} e p = rw e (by_code k (rw e at q) p)

      pub weighed_arm : {k : Code} {t v u : ℕ} → m ≡ PutWithWeight k t v u
          → Settles (Loaded s.head s.fields.values s.fields.weights s.prevs a k.0) (put_with_weight_call k.0 t v u) lent r → Settles (Means s) (verdict m) lent r
      unfolding verdict wanted_by
      weighed_arm {k} e p = rw e (seen_by (Loaded s.head s.fields.values s.fields.weights s.prevs a k.0) (loaded k (rw e at q)) p)

    -- ---- by rule, by capacity

    pub retain_arm : {q : Rule} → m ≡ Retain q → Settles (Forward s.head s.fields s.nexts) (retain_call q) lent r → Settles (Means s) (verdict m) lent r
    unfolding verdict
    retain_arm e p = rw e (seen_by (Forward s.head s.fields s.nexts) (λ c d. forward d) p)

    pub resize_arm : {n : ℕ} → m ≡ Resize n → Settles (Weighted s.head s.fields.weights s.prevs) (resize_call n) lent r → Settles (Means s) (verdict m) lent r
    unfolding verdict
    resize_arm e p = rw e (seen_by (Weighted s.head s.fields.weights s.prevs) (λ c d. weighted d) p)
