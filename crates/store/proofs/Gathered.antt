-- What the slots of an order hold, where fields change.
-- Assumes nothing.
use Prim.Native.Nat.{ℕ, zero, suc, ◌+◌, ◌≤◌}
use mathlib.Core.Bool.{true, false, true≢false}
use mathlib.Core.List.{List, [], ◌∷◌, ◌++◌, head-eq_of_cons-eq}
use mathlib.Core.Path.{◌≡◌, refl, sym, ap, ◌∙◌}
use native.Mathlib.Omega.{arith}
use lib.Dec.{eqb}
use lib.ListN.{length, get_or}
use borrow.Author.Tests.{eqb-true, eq-eqb, ne_eqb}
use Rattle.head.specs.declared.Row.{Row}
use Rattle.model.specs.Lists.{only}
use Rattle.model.specs.Desk.{valued, revalued, absent, present, further, find, last}
use Rattle.model.specs.Codes.{one, count}
use Rattle.model.proofs.Mapping.{Mapping}
use Rattle.model.proofs.Counting.{times, of_without}
use Rattle.model.proofs.Cases.{split}
use Rattle.head.specs.Fields.{Fields}
use Rattle.store.specs.State.{entry_in, gather}

abbrev pub gathering : Fields → Mapping ℕ Row
gathering f = record { of = gather f; each = entry_in f; none = refl; more = λ s ss. refl }

self : (x : ℕ) → eqb x x ≡ true
self x = eq-eqb x x refl

-- fields that agree on the slots of an order
pub gather_agree : (f g : Fields) (order : List ℕ) → ((u : ℕ) → 1 ≤ count u order → entry_in f u ≡ entry_in g u) → gather f order ≡ gather g order
gather_agree f g [] h = refl
gather_agree f g (s ∷ ss) h =
    let here : entry_in f s ≡ entry_in g s = h s (let z : one (eqb s s) ≡ 1 = rw (self s) in omega arith) in
    let rest = gather_agree f g ss (λ u k. h u (omega arith)) in
    rw (here, rest)

-- a slot at a place stands in the order
pub only_in : (i s : ℕ) (order : List ℕ) → only i order ≡ s ∷ [] → 1 ≤ count s order
only_in i s order o =
    let a : count s (only i order) ≡ one (eqb s s) + 0 = ap (count s) o in
    let z : one (eqb s s) ≡ 1 = rw (self s) in
    omega (arith, of_without (times s) i order)

-- one slot of the order, at place i and nowhere else, takes the value v
pub gather_revalued : (f g : Fields) (order : List ℕ) (i s v : ℕ) → only i order ≡ s ∷ [] → count s order ≡ 1
    → entry_in g s ≡ valued v (entry_in f s)
    → ((u : ℕ) → (u ≡ s → ⊥) → entry_in g u ≡ entry_in f u)
    → gather g order ≡ revalued i v (gather f order)
gather_revalued f g [] i s v o n h k = refl
gather_revalued f g (x ∷ xs) zero s v o n h k =
    let e : x ≡ s = head-eq_of_cons-eq o in
    let once : one (eqb s x) ≡ 1 = rw (e, self s) in
    let here : entry_in g x ≡ valued v (entry_in f x) = rw e h in
    let rest = gather_agree g f xs (λ u m. k u (λ q. let z : count s xs ≡ count u xs = ap (λ (y : ℕ). count y xs) (sym q) in omega arith)) in
    rw (here, rest)
gather_revalued f g (x ∷ xs) (suc i) s v o n h k =
    let m = only_in i s xs o in
    let apart : x ≡ s → ⊥ = λ e. let once : one (eqb s x) ≡ 1 = rw (e, self s) in omega arith in
    let rest = gather_revalued f g xs i s v o (omega arith) h k in
    rw (k x apart, rest)

-- ---- the entry of a code

-- a slot of the order and its place
pub record Standing (f : Fields) (order : List ℕ) (c s : ℕ) : Type 0 where
  pub place : ℕ
  pub there : only place order ≡ s ∷ []
  pub finds : find c (gather f order) ≡ present place (entry_in f s)

standing_further : (f : Fields) (x : ℕ) (xs : List ℕ) (c s : ℕ) → eqb (get_or f.codes x 0) c ≡ false → Standing f xs c s → Standing f (x ∷ xs) c s
standing_further f x xs c s t r = record { place = suc r.place; there = r.there; finds = rw (t, r.finds) }

-- the one slot of the order that has a code is what is found
pub find_slot : (f : Fields) (order : List ℕ) (c s : ℕ) → 1 ≤ count s order → get_or f.codes s 0 ≡ c
    → ((t : ℕ) → 1 ≤ count t order → get_or f.codes t 0 ≡ c → t ≡ s) → Standing f order c s
find_slot f [] c s h e u = absurd (omega arith)
find_slot f (x ∷ xs) c s h e u =
    split (eqb (get_or f.codes x 0) c)
    (λ t.
    let q : x ≡ s = u x (let z : one (eqb x x) ≡ 1 = rw (self x) in omega arith) (eqb-true (get_or f.codes x 0) c t) in
    record { place = 0; there = ap (λ (y : ℕ). y ∷ []) q; finds = rw t (ap (λ (y : ℕ). present 0 (entry_in f y)) q) })
    (λ t.
    let apart : eqb s x ≡ false = ne_eqb s x (λ q. let z : eqb (get_or f.codes x 0) c ≡ true = eq-eqb (get_or f.codes x 0) c (ap (λ (y : ℕ). get_or f.codes y 0) (sym q) ∙ e) in true≢false (sym z ∙ t)) in
    let r = find_slot f xs c s (let z : one (eqb s x) ≡ 0 = rw apart in omega arith) e (λ y k. u y (omega arith)) in
    standing_further f x xs c s t r)

-- a code that no slot of the order has is absent
pub find_none : (f : Fields) (order : List ℕ) (c : ℕ) → ((t : ℕ) → 1 ≤ count t order → get_or f.codes t 0 ≡ c → ⊥) → find c (gather f order) ≡ absent
find_none f [] c u = refl
find_none f (x ∷ xs) c u =
    let no : eqb (get_or f.codes x 0) c ≡ false = ne_eqb (get_or f.codes x 0) c (u x (let z : one (eqb x x) ≡ 1 = rw (self x) in omega arith)) in
    let r = find_none f xs c (λ t k. u t (omega arith)) in
    rw (no, r)

-- the entry at the back
pub last_gathered : (f : Fields) (xs : List ℕ) (s : ℕ) → last (gather f (xs ++ (s ∷ []))) ≡ present (length xs) (entry_in f s)
last_gathered f [] s = refl
last_gathered f (x ∷ []) s = refl
last_gathered f (x ∷ y ∷ xs) s = ap further (last_gathered f (y ∷ xs) s)
