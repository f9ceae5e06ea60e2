-- Opening makes the lists describe a fresh cache, or touches nothing.
-- Assumes nothing.
use Prim.Native.Nat.{ℕ, ◌≤◌}
use mathlib.Core.Bool.{Bool, true, false, cond, ◌&&◌, true≢false}
use mathlib.Core.Logic.{⊎_elim}
use mathlib.Core.Path.{◌≡◌, refl, sym, ap, ◌∙◌, subst}
use native.Mathlib.Omega.{arith}
use lib.Dec.{leb}
use borrow.Author.Tests.{leb-true, eq-eqb, ne_eqb}
use Rattle.head.specs.declared.Head.{Head}
use Rattle.head.specs.declared.Refusal.{Refusal}
use Rattle.head.specs.declared.Refusal.TheVariants.{NotOpened}
use Rattle.head.specs.Bounds.{allowed}
use Rattle.head.specs.Fresh.{fresh_head}
use Rattle.model.specs.Desk.{kind_number, kind_of}
use Rattle.model.specs.Perform.{Cache, Opening, fresh, opening, refused, opened}
use Rattle.model.proofs.Cases.{both, and_no}
use Rattle.model.proofs.Lawful.{fresh_lawful}
use Rattle.list.proofs.Marks.{same?}
use Rattle.store.specs.State.{Describes}
use Rattle.store.specs.Acts.{Spacious, Emptied}
use Rattle.store.proofs.Lengths.{all_reach}
use Rattle.store.proofs.Emptied.{empty_described}
use Rattle.plan.specs.States.{State, Means, TailsKept}
use Rattle.std.specs.Prelude.{Result, Ok, Err}
use Rattle.state.specs.State.{state_of}
use Rattle.opening.specs.Begun.{spacious, Opens}

-- ---- which of the two an opening is

began : Opening → Bool
began (refused e) = false
began (opened x) = true

cache_of : Cache → Opening → Cache
cache_of y (refused e) = y
cache_of y (opened x) = x

refusal_of : Refusal → Opening → Refusal
refusal_of d (refused e) = e
refusal_of d (opened x) = d

module _ (kind c n : ℕ) (s : State) where
  -- refused where the test fails
  pub opens_none : {r : Result Head Refusal} → (allowed kind c n && spacious n s) ≡ false → r ≡ Err NotOpened → Opens kind c n s s r
  unfolding opening began refusal_of
  opens_none t q = record {
    opens = λ x e. absurd (true≢false (sym (ap began e) ∙ ap (λ (b : Bool). began (cond b (opened (fresh (kind_of kind) c n)) (refused NotOpened))) t));
    refuses = λ e z.
        let same : NotOpened ≡ e =
        sym (ap (λ (b : Bool). refusal_of NotOpened (cond b (opened (fresh (kind_of kind) c n)) (refused NotOpened))) t) ∙ ap (refusal_of NotOpened) z in
        (q ∙ ap (λ (x : Refusal). Err x) same, refl);
  }

  -- opened where it holds
  pub opens_one : {t : State} {r : Result Head Refusal} → (allowed kind c n && spacious n s) ≡ true → r ≡ Ok t.head → Means t (fresh (kind_of kind) c n)
      → TailsKept s t
      → Opens kind c n s t r
  unfolding opening began cache_of
  opens_one {t} y q d k = record {
    opens = λ x e.
        let same : fresh (kind_of kind) c n ≡ x =
        sym (ap (λ (b : Bool). cache_of x (cond b (opened (fresh (kind_of kind) c n)) (refused NotOpened))) y) ∙ ap (cache_of x) e in
        (q, subst (λ (z : Cache). Means t z) same d, k);
    refuses = λ e z. absurd (true≢false (sym (ap (λ (b : Bool). began (cond b (opened (fresh (kind_of kind) c n)) (refused NotOpened))) y) ∙ ap began z));
  }

-- ---- the emptied lists

kind_number_lem : (k : ℕ) → k ≤ 1 → kind_number (kind_of k) ≡ k
kind_number_lem k h =
    ⊎_elim
    (λ e. rw (eq-eqb k 0 e) (sym e))
    (λ n. rw (ne_eqb k 0 n) (let z : k ≡ 1 = omega (arith, n) in sym z))
    (same? k 0)

module _ (kind c n : ℕ) (s : State) (a : allowed kind c n ≡ true) (l : spacious n s ≡ true) where
  pub fresh_spacious : {g : Head} → g ≡ fresh_head kind c n → Spacious (state_of g s.fields s.nexts s.prevs s.stack s.cells)
  fresh_spacious q =
      let w = fresh_lawful kind c n a in
      let p = all_reach n s.fields s.nexts s.prevs s.stack s.cells l in
      rw q (record {
        some = w.room.0;
        reach = p.reach;
        links = record { small = w.room.1; nexts = p.nexts; prevs = p.prevs; stacks = p.stacks };
        table = p.table;
      })

  module _ {h : Head} (t : State) (e : Emptied (state_of (fresh_head kind c n) s.fields s.nexts s.prevs s.stack s.cells) (state_of h t.fields t.nexts t.prevs t.stack t.cells)) where
    emptied_head : h ≡ fresh_head kind c n
    emptied_head = λ i. record {
      kind = e.kind i;
      capacity = e.capacity i;
      slots = e.slots i;
      live = e.linked.live i;
      weight = e.weight i;
      front = record { 0 = e.linked.front i };
      back = record { 0 = e.linked.back i };
      top = record { 0 = e.top i };
      depth = record { 0 = e.linked.depth i };
    }

    emptied_means : Describes h t.fields t.nexts t.prevs t.stack t.cells (fresh (kind_of kind) c n)
    emptied_means =
        empty_described (kind_of kind) c n h t.fields t.nexts t.prevs t.stack t.cells
        (e.kind ∙ sym (kind_number_lem kind (leb-true kind 1 (both (leb kind 1) _ a).0)))
        e.capacity
        e.slots
        e.weight
        e.top
        e.linked
        (fresh_lawful kind c n a)
        e.reach
        e.blanks
        e.table

    opens_emptied : t.head ≡ fresh_head kind c n → s.head ≡ fresh_head kind c n → Opens kind c n s t (Ok h)
    opens_emptied q z =
        opens_one kind c n s (rw (a, l) refl) (ap (λ (x : Head). Ok x) (emptied_head ∙ sym q))
        (subst (λ (x : Head). Describes x t.fields t.nexts t.prevs t.stack t.cells (fresh (kind_of kind) c n)) (emptied_head ∙ sym q) emptied_means)
        (rw z e.tails)

  -- the lists emptied under a fresh head
  pub opens_fresh : {g h : Head} (t : State) → g ≡ fresh_head kind c n → t.head ≡ fresh_head kind c n → s.head ≡ fresh_head kind c n
      → Emptied (state_of g s.fields s.nexts s.prevs s.stack s.cells) (state_of h t.fields t.nexts t.prevs t.stack t.cells)
      → Opens kind c n s t (Ok h)
  opens_fresh t q y z e = opens_emptied t (rw (← q) e) y z

-- ---- as the code comes to it

module _ (kind c n : ℕ) (s : State) {t : Bool} where
  pub opens_not_allowed : t ≡ allowed kind c n → t ≡ false → Opens kind c n s s (Err NotOpened)
  opens_not_allowed e z = opens_none kind c n s (rw (sym e ∙ z) refl) refl

  pub opens_too_short : t ≡ spacious n s → t ≡ false → Opens kind c n s s (Err NotOpened)
  opens_too_short e z =
      opens_none kind c n s (ap (λ (b : Bool). allowed kind c n && b) (sym e ∙ z) ∙ and_no (allowed kind c n)) refl
