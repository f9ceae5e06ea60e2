-- What the order that sound links walk gives: no code twice.
-- Assumes nothing.
use Prim.Native.Nat.{ℕ, ◌≤◌}
use mathlib.Core.List.{List, [], ◌∷◌, Memᴰ}
use mathlib.Core.Path.{◌≡◌, refl, sym, ap, ◌∙◌}
use native.Mathlib.Omega.{arith}
use lib.Dec.{eqb}
use lib.ListN.{get_or}
use borrow.Author.Tests.{eqb-true, ne_eqb}
use Rattle.head.specs.declared.Head.{Head}
use Rattle.model.specs.Codes.{one, count, codes_of}
use Rattle.model.proofs.Cases.{split}
use Rattle.list.specs.Links.{Linked}
use Rattle.list.proofs.Marks.{hit}
use Rattle.list.proofs.Within.{once}
use Rattle.head.specs.Fields.{Fields}
use Rattle.store.specs.State.{gather}
use Rattle.model.proofs.Members.{counted_member, member_counted}

-- a code that no slot of the order has
code_absent : (f : Fields) (o : List ℕ) (x : ℕ) → ((s : ℕ) → Memᴰ s o → get_or f.codes s 0 ≡ x → ⊥) → count x (codes_of (gather f o)) ≡ 0
code_absent f [] x h = refl
code_absent f (s ∷ o) x h =
    let no : one (eqb x (get_or f.codes s 0)) ≡ 0 = rw (ne_eqb x (get_or f.codes s 0) (λ q. h s (counted_member s (s ∷ o) (omega (arith, hit s s refl))) (sym q))) in
    omega (arith, code_absent f o x (λ t m. h t (counted_member t (s ∷ o) (omega (arith, member_counted t o m)))))

-- slots that stand once and have different codes: no code twice
pub codes_once : (f : Fields) (o : List ℕ) → ((u : ℕ) → count u o ≤ 1)
    → ((s t : ℕ) → Memᴰ s o → Memᴰ t o → get_or f.codes s 0 ≡ get_or f.codes t 0 → s ≡ t)
    → (x : ℕ) → count x (codes_of (gather f o)) ≤ 1
codes_once f [] h d x = omega arith
codes_once f (s ∷ o) h d x =
    let later : (t : ℕ) → Memᴰ t o → Memᴰ t (s ∷ o) = λ t m. counted_member t (s ∷ o) (omega (arith, member_counted t o m)) in
    split (eqb x (get_or f.codes s 0))
    (λ e.
    let here : one (eqb x (get_or f.codes s 0)) ≡ 1 = rw e in
    let none = code_absent f o x (λ t m q.
    let same : t ≡ s = d t s (later t m) (counted_member s (s ∷ o) (omega (arith, hit s s refl))) (q ∙ eqb-true x (get_or f.codes s 0) e) in
    omega (arith, h s, hit s s refl, member_counted t o m, ap (λ (y : ℕ). count y o) same)) in
    omega arith)
    (λ e.
    let here : one (eqb x (get_or f.codes s 0)) ≡ 0 = rw e in
    omega (arith, codes_once f o (λ u. omega (arith, h u)) (λ a b m n. d a b (later a m) (later b n)) x))

module _ {h : Head} {nx pv st o free : List ℕ} (l : Linked h nx pv st o free []) where
  pub slot_once : (u : ℕ) → count u o ≤ 1
  slot_once u = omega (arith, once l u)
