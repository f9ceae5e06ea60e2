-- Nothing is left open: a state describes one cache at most, and a cache has one set of numbers below N, cells excepted.
-- Assumes nothing.
use Prim.Native.Nat.{ℕ, ◌≤◌, ◌<◌}
use mathlib.Core.List.{List, [], ◌∷◌}
use mathlib.Core.Logic.{⊎_elim}
use mathlib.Core.Path.{◌≡◌, refl, sym, ap, ◌∙◌, subst}
use native.Mathlib.Omega.{arith}
use lib.ListN.{get_or}
use Rattle.head.specs.declared.Head.{Head}
use Rattle.model.specs.Codes.{count}
use Rattle.model.specs.Desk.{Kind, plain, weighed, kind_number}
use Rattle.model.specs.Perform.{Cache}
use Rattle.list.specs.Links.{Rest}
use Rattle.list.proofs.Unique.{one_order, one_free, same_next, same_prev, same_stack, one_head}
use Rattle.head.specs.Fields.{Fields}
use Rattle.store.specs.State.{entry_in, gather, Describes}
use Rattle.list.proofs.Marks.{miss, same?, under?}

one_kind : (a b : Kind) → kind_number a ≡ kind_number b → a ≡ b
one_kind plain plain e = refl
one_kind plain weighed e = absurd (omega arith)
one_kind weighed plain e = absurd (omega arith)
one_kind weighed weighed e = refl

-- at most one cache is described
pub one_cache : {h : Head} {f : Fields} {nx pv st cells : List ℕ} {c c' : Cache} → Describes h f nx pv st cells c → Describes h f nx pv st cells c' → c ≡ c'
one_cache {f} {c} {c'} d e =
    let kind : c.desk.kind ≡ c'.desk.kind = one_kind c.desk.kind c'.desk.kind (sym d.kind ∙ e.kind) in
    let capacity : c.desk.capacity ≡ c'.desk.capacity = sym d.capacity ∙ e.capacity in
    let room : c.desk.room ≡ c'.desk.room = sym d.room ∙ e.room in
    let order : c.slots.order ≡ c'.slots.order = one_order d.links e.links in
    let free : c.slots.free ≡ c'.slots.free = one_free d.links e.links in
    let top : c.slots.top ≡ c'.slots.top = sym d.top ∙ e.top in
    let entries : c.desk.entries ≡ c'.desk.entries = sym d.entries ∙ ap (gather f) order ∙ e.entries in
    λ i. record {
      desk = record { kind = kind i; capacity = capacity i; room = room i; entries = entries i };
      slots = record { order = order i; free = free i; top = top i };
    }

-- what a slot of the order holds is settled by what the whole order holds
gathered_one : (f g : Fields) (order : List ℕ) → gather f order ≡ gather g order → (u : ℕ) → 1 ≤ count u order → entry_in f u ≡ entry_in g u
gathered_one f g [] e u k = absurd (omega arith)
gathered_one f g (s ∷ ss) e u k =
    ⊎_elim
    (λ q. subst (λ (x : ℕ). entry_in f x ≡ entry_in g x) q (cc))
    (λ n. gathered_one f g ss (cc) u (omega (arith, miss s u n)))
    (same? s u)

-- two states of one cache have one head and, below N, one set of fields, links and stack
pub record SameBelow (h h' : Head) (f f' : Fields) (nx pv st nx' pv' st' : List ℕ) : Type 0 where
  pub head : h' ≡ h
  pub entries : (u : ℕ) → u < h.slots → entry_in f u ≡ entry_in f' u
  pub nexts : (u : ℕ) → u < h.slots → get_or nx u 0 ≡ get_or nx' u 0
  pub prevs : (u : ℕ) → u < h.slots → get_or pv u 0 ≡ get_or pv' u 0
  pub stacks : (u : ℕ) → u < h.slots → get_or st u 0 ≡ get_or st' u 0

pub one_state : {h h' : Head} {f f' : Fields} {nx pv st cells nx' pv' st' cells' : List ℕ} {c : Cache} → Describes h f nx pv st cells c
    → Describes h' f' nx' pv' st' cells' c
    → SameBelow h h' f f' nx pv st nx' pv' st'
one_state {h} {h'} {f} {f'} {c = c} d e =
    let slots : h'.slots ≡ h.slots = e.room ∙ sym d.room in
    let rest : Rest h h' = record {
      kind = e.kind ∙ sym d.kind;
      capacity = e.capacity ∙ sym d.capacity;
      slots = slots;
      weight = e.weight ∙ sym d.weight;
    } in
    record {
      head = one_head d.links e.links slots rest;
      entries = λ u k.
          ⊎_elim
          (λ z. gathered_one f f' c.slots.order (d.entries ∙ sym e.entries) u z)
          (λ z. d.blanks u k (omega arith) ∙ sym (e.blanks u (omega arith) (omega arith)))
          (under? 0 (count u c.slots.order));
      nexts = λ u k. same_next d.links e.links slots u k refl;
      prevs = λ u k. same_prev d.links e.links slots u k refl;
      stacks = λ u k. same_stack d.links e.links slots u k;
    }
