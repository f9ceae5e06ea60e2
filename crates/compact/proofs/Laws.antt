-- What a caller has of a resize: the slots that the model gives, a sound list, the same rows in the same order, blank slots, one outcome.
-- Assumes nothing.
use Prim.Native.Nat.{ℕ, suc, ◌+◌, ◌-◌, ◌≤◌, ◌<◌, min}
use native.Mathlib.Omega.{arith}
use mathlib.Core.Path.{◌≡◌, refl, sym, ap, ◌∙◌}
use mathlib.Core.Bool.{cond}
use mathlib.Core.Logic.{⊎_elim}
use mathlib.Core.List.{List, [], ◌∷◌, map}
use lib.Dec.{ltb}
use lib.ListN.{length, get_or}
use borrow.Author.Tests.{lt-ltb, le-ltb}
use Rattle.head.specs.declared.Head.{Head}
use Rattle.head.specs.Fresh.{recapped}
use Rattle.model.specs.Slots.{Slots, up_from, compacted}
use Rattle.list.specs.Links.{Linked, Sound}
use Rattle.list.specs.Promises.{Kept}
use Rattle.list.proofs.Marks.{under?}
use Rattle.list.proofs.Renumbered.{renumbered_linked}
use Rattle.list.proofs.Unique.{agree}
use Rattle.list.proofs.Outcome.{Left, Same, one_outcome}
use Rattle.head.specs.Fields.{Fields, Reach}
use Rattle.compact.specs.Compact.{Blank, AllBlank, Carried, Moved, Reordered, Stayed, Resized}
use Rattle.compact.proofs.Ascending.{up_in}

-- ---- slots

module _ {h r : Head} {nx pv st nx' pv' st' : List ℕ} {f g : Fields} {d : ℕ} where
  -- where nothing moved, every description stands, of other slots in use too
  pub stayed_linked : Stayed h r nx pv st nx' pv' st' f g d → (o s t : List ℕ) → Linked h nx pv st o s t → Linked r nx' pv' st' o s t
  stayed_linked w o s t l = rw (w.head, w.nexts, w.prevs, w.stacks) (renumbered_linked d h.weight l)

  -- the slots after a resize are those of the model
  pub resized_slots : Resized h r nx pv st nx' pv' st' f g d → (s : Slots) → h.top.0 ≡ s.top → Linked h nx pv st s.order s.free []
      → Linked r nx' pv' st' (cond (ltb d h.capacity) (compacted d s) s).order (cond (ltb d h.capacity) (compacted d s) s).free []
  resized_slots w s e l =
      ⊎_elim
      (λ lt. rw (lt-ltb d h.capacity lt, ← e) ((w.shrunk lt).linked s.order s.free l))
      (λ ge. rw (le-ltb d h.capacity ge) (stayed_linked (w.stayed ge) s.order s.free [] l))
      (under? d h.capacity)

  pub resized_top : Resized h r nx pv st nx' pv' st' f g d → (s : Slots) → h.top.0 ≡ s.top
      → r.top.0 ≡ (cond (ltb d h.capacity) (compacted d s) s).top
  resized_top w s e =
      ⊎_elim
      (λ lt. rw (lt-ltb d h.capacity lt, ← e) (w.shrunk lt).top)
      (λ ge. rw (le-ltb d h.capacity ge) (ap (λ (x : Head). x.top.0) (w.stayed ge).head ∙ e))
      (under? d h.capacity)

  pub resized_sound : Resized h r nx pv st nx' pv' st' f g d → Sound h nx pv st → Sound r nx' pv' st'
  resized_sound w s =
      let x : Slots = record { order = s.order; free = s.free; top = h.top.0 } in
      record { order = _; free = _; linked = resized_slots w x refl s.linked }

-- ---- rows

-- what a reader of slots finds in slots 0, 1 and so on, another finds in those of the order
pub in_order_lem : {A : Type 0} (p q : ℕ → A) (o : List ℕ) (a : ℕ) → ((i : ℕ) → i < length o → p (a + i) ≡ q (get_or o i 0))
    → map p (up_from a (length o)) ≡ map q o
in_order_lem p q [] a e = refl
in_order_lem {A} p q (x ∷ o) a e =
    let z : a + 0 ≡ a = omega arith in
    let here : p a ≡ q x = rw z at (e 0 (omega arith)) in
    let more : map p (up_from (suc a) (length o)) ≡ map q o =
    in_order_lem p q o (suc a) (λ i h. let k : a + suc i ≡ suc a + i = omega arith in rw k at (e (suc i) (omega arith))) in
    rw (here, more) refl

-- any row that is made of the four numbers of a slot
abbrev pub rows_of : {A : Type 0} → (ℕ → ℕ → ℕ → ℕ → A) → Fields → List ℕ → List A
rows_of mk f o = map (λ s. mk (get_or f.codes s 0) (get_or f.stamps s 0) (get_or f.values s 0) (get_or f.weights s 0)) o

-- the rows stand in the order in which they stood
pub moved_rows : {A : Type 0} (mk : ℕ → ℕ → ℕ → ℕ → A) (n : ℕ) (o : List ℕ) (f g : Fields) → Moved n o f g
    → rows_of mk g (up_from 0 (length o)) ≡ rows_of mk f o
moved_rows mk n o f g m =
    in_order_lem _ _ o 0 (λ i h. let z : 0 + i ≡ i = omega arith in
    rw (z, m.codes.places i h, m.stamps.places i h, m.values.places i h, m.weights.places i h) refl)

-- ---- blanks

-- slots outside the order hold 0 after as before
pub carried_blank : (n : ℕ) (o f g : List ℕ) → Carried n o f g → Blank n o f → Blank n (up_from 0 (length o)) g
carried_blank n o f g c z u h k =
    ⊎_elim
    (λ l. absurd (omega (arith, up_in 0 (length o) u (omega arith) (omega arith))))
    (λ l. c.blanks z u l h)
    (under? u (length o))

pub moved_blank : (n : ℕ) (o : List ℕ) (f g : Fields) → Moved n o f g → AllBlank n o f → AllBlank n (up_from 0 (length o)) g
moved_blank n o f g m z = record {
  codes = carried_blank n o f.codes g.codes m.codes z.codes;
  stamps = carried_blank n o f.stamps g.stamps m.stamps z.stamps;
  values = carried_blank n o f.values g.values m.values z.values;
  weights = carried_blank n o f.weights g.weights m.weights z.weights;
}

-- ---- one outcome

-- the order and the numbers before settle the numbers after
carried_one : (n : ℕ) (o f g g' : List ℕ) → n ≤ length f → Blank n o f → Carried n o f g → Carried n o f g' → g ≡ g'
carried_one n o f g g' ln z c c' =
    agree n g g' (omega (arith, c.tail.size)) (omega (arith, c'.tail.size))
    (λ i h. ⊎_elim
    (λ l. c.places i l ∙ sym (c'.places i l))
    (λ l. c.blanks z i l h ∙ sym (c'.blanks z i l h))
    (under? i (length o)))
    (c.tail.tail ∙ sym c'.tail.tail)

pub moved_one : (n : ℕ) (o : List ℕ) (f g g' : Fields) → Reach n f → AllBlank n o f → Moved n o f g → Moved n o f g' → g ≡ g'
moved_one n o f g g' r z m m' = λ i. record {
  codes = carried_one n o f.codes g.codes g'.codes r.codes z.codes m.codes m'.codes i;
  stamps = carried_one n o f.stamps g.stamps g'.stamps r.stamps z.stamps m.stamps m'.stamps i;
  values = carried_one n o f.values g.values g'.values r.values z.values m.values m'.values i;
  weights = carried_one n o f.weights g.weights g'.weights r.weights z.weights m.weights m'.weights i;
}

none_kept : {nx pv nx' pv' : List ℕ} → Kept [] nx pv nx' pv'
none_kept = record { nexts = λ i c. absurd (omega arith); prevs = λ i c. absurd (omega arith) }

module _ {h : Head} {nx pv st o s : List ℕ} {f : Fields} (l : Linked h nx pv st o s []) where
  module _ {r : Head} {nx' pv' st' : List ℕ} {g : Fields} where
    -- list's `one_outcome` takes two of these
    pub reordered_left : {t : ℕ} → Reordered h r nx pv st nx' pv' st' f g t
        → Left h r nx pv st nx' pv' st' (up_from 0 (length o)) (up_from (length o) (t - length o)) []
    reordered_left w = record {
      rest = w.rest;
      next_tail = w.compacted.next_tail;
      prev_tail = w.compacted.prev_tail;
      stack_tail = w.compacted.stack_tail;
      linked = w.compacted.linked o s l;
      kept = none_kept;
    }

    pub shrunk_left : {d : ℕ} → Resized h r nx pv st nx' pv' st' f g d → d < h.capacity
        → Left (recapped d h) r nx pv st nx' pv' st' (up_from 0 (length o)) (up_from (length o) (min h.top.0 d - length o)) []
    shrunk_left w lt = record {
      rest = record { kind = w.kind; capacity = w.capacity; slots = w.slots; weight = w.weight };
      next_tail = (w.shrunk lt).next_tail;
      prev_tail = (w.shrunk lt).prev_tail;
      stack_tail = (w.shrunk lt).stack_tail;
      linked = (w.shrunk lt).linked o s l;
      kept = none_kept;
    }

  -- two outcomes of one resize are equal in every number
  module _ {r r' : Head} {nx1 pv1 st1 nx2 pv2 st2 : List ℕ} {g g' : Fields} {d : ℕ}
      (w : Resized h r nx pv st nx1 pv1 st1 f g d) (w' : Resized h r' nx pv st nx2 pv2 st2 f g' d) where
    pub resized_one : Same r r' nx1 nx2 pv1 pv2 st1 st2
    resized_one =
        ⊎_elim
        (λ lt. one_outcome (shrunk_left w lt) (shrunk_left w' lt))
        (λ ge. let a = w.stayed ge in
        let b = w'.stayed ge in
        record {
          head = b.head ∙ sym a.head;
          next = a.nexts ∙ sym b.nexts;
          prev = a.prevs ∙ sym b.prevs;
          stack = a.stacks ∙ sym b.stacks;
        })
        (under? d h.capacity)

    pub resized_one_fields : Reach h.slots f → AllBlank h.slots o f → g ≡ g'
    resized_one_fields e z =
        ⊎_elim
        (λ lt. moved_one h.slots o f g g' e z ((w.shrunk lt).moved o s l) ((w'.shrunk lt).moved o s l))
        (λ ge. (w.stayed ge).fields ∙ sym (w'.stayed ge).fields)
        (under? d h.capacity)
