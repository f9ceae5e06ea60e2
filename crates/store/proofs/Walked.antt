-- The order that sound links walk: no slot twice, each slot one of the N; and codes that differ.
-- Assumes nothing.
use Prim.Native.Nat.{ℕ, ◌*◌, ◌≤◌, ◌<◌}
use mathlib.Core.List.{List, [], ◌∷◌, Memᴰ}
use mathlib.Core.Logic.{⊎_elim}
use mathlib.Core.Path.{◌≡◌, sym, ap, ◌∙◌, subst}
use native.Mathlib.Omega.{arith}
use lib.Dec.{eqb}
use lib.ListN.{length, get_or}
use borrow.Author.Tests.{eq-eqb}
use Rattle.head.specs.declared.Head.{Head}
use Rattle.head.specs.Fields.{Fields, Reach}
use Rattle.head.specs.Walks.{walk}
use Rattle.model.specs.Codes.{one, count, codes_of, Distinct}
use Rattle.model.proofs.Members.{member_counted}
use Rattle.list.specs.Links.{Linked}
use Rattle.list.proofs.Marks.{miss, same?}
use Rattle.list.proofs.Unique.{order_is}
use Rattle.list.proofs.Within.{in_slots, once}
use Rattle.table.specs.Links.{Listed, Keyed}
use Rattle.store.specs.State.{gather}
use Rattle.store.proofs.Exchanged.{code_counted}

-- two slots that have one code: the code stands twice
two_codes : (f : Fields) (o : List ℕ) (s t : ℕ) → (s ≡ t → ⊥) → 1 ≤ count s o → 1 ≤ count t o → get_or f.codes s 0 ≡ get_or f.codes t 0
    → 2 ≤ count (get_or f.codes s 0) (codes_of (gather f o))
two_codes f [] s t n a b e = absurd (omega arith)
two_codes f (x ∷ o) s t n a b e =
    ⊎_elim
    (λ p.
    let here : one (eqb (get_or f.codes s 0) (get_or f.codes x 0)) ≡ 1 = ap one (eq-eqb (get_or f.codes s 0) (get_or f.codes x 0) (ap (λ (y : ℕ). get_or f.codes y 0) (sym p))) in
    let there : 1 ≤ count t o = omega (arith, miss x t (λ q. n (sym p ∙ q))) in
    let z : count (get_or f.codes s 0) (codes_of (gather f o)) ≡ count (get_or f.codes t 0) (codes_of (gather f o)) = ap (λ (y : ℕ). count y (codes_of (gather f o))) e in
    omega (arith, code_counted f t o there))
    (λ p.
    ⊎_elim
    (λ q.
    let here : one (eqb (get_or f.codes s 0) (get_or f.codes x 0)) ≡ 1 = ap one (eq-eqb (get_or f.codes s 0) (get_or f.codes x 0) (e ∙ ap (λ (y : ℕ). get_or f.codes y 0) (sym q))) in
    omega (arith, code_counted f s o (omega (arith, miss x s p))))
    (λ q. let r = two_codes f o s t n (omega (arith, miss x s p)) (omega (arith, miss x t q)) e in omega arith)
    (same? x t))
    (same? x s)

-- distinct codes: no two slots of the order have one
pub codes_differ : (f : Fields) (o : List ℕ) → Distinct (codes_of (gather f o)) → (s t : ℕ) → Memᴰ s o → Memᴰ t o
    → get_or f.codes s 0 ≡ get_or f.codes t 0
    → s ≡ t
codes_differ f o u s t m k e =
    ⊎_elim
    (λ q. q)
    (λ n. absurd (omega (arith, u (get_or f.codes s 0), two_codes f o s t n (member_counted s o m) (member_counted t o k) e)))
    (same? s t)

module _ {h : Head} {nx pv st o free : List ℕ} (l : Linked h nx pv st o free []) where
  pub slot_below : (s : ℕ) → Memᴰ s o → s < h.slots
  slot_below s m = in_slots l s (omega (arith, member_counted s o m))

  -- what the table's inspection and rebuilding need
  pub walk_listed : (f : Fields) (cells : List ℕ) → Reach h.slots f → 1 ≤ h.slots → 2 * h.slots ≤ length cells
      → Listed h.slots cells f.codes nx (walk nx h.front.0 h.live)
  walk_listed f cells r some wide =
      subst (Listed h.slots cells f.codes nx) (order_is l) (record {
        wide = wide;
        room = omega (arith, l.size, l.fit);
        coded = λ s m. (omega (arith, slot_below s m, r.codes), λ q. omega (arith, slot_below s m, l.long.small));
        linked = λ s m. omega (arith, slot_below s m, l.long.nexts);
        once = λ u. omega (arith, once l u);
      })

  pub walk_keyed : (f : Fields) (cells : List ℕ) → Reach h.slots f → 1 ≤ h.slots → 2 * h.slots ≤ length cells → Distinct (codes_of (gather f o))
      → Keyed h.slots cells f.codes nx (walk nx h.front.0 h.live)
  walk_keyed f cells r some wide u = record {
    listed = walk_listed f cells r some wide;
    differ = subst (λ (w : List ℕ). (s t : ℕ) → Memᴰ s w → Memᴰ t w → get_or f.codes s 0 ≡ get_or f.codes t 0 → s ≡ t) (order_is l) (codes_differ f o u);
  }
