-- The slots that a walk from the back meets where one slot is skipped: the oldest, without the one at that slot's place.
-- Assumes nothing.
use Prim.Native.Nat.{ℕ, zero, suc, ◌-◌, ◌≤◌, ◌<◌}
use mathlib.Core.Bool.{true, false}
use mathlib.Core.List.{List, [], ◌∷◌, ◌++◌, reverse, reverse-cons, reverse-append, append-nil, head-eq_of_cons-eq}
use mathlib.Core.Path.{◌≡◌, refl, sym, ap, ◌∙◌}
use native.Mathlib.Omega.{arith}
use lib.Dec.{eqb}
use lib.ListN.{length, get_or, take, drop, length-reverse, take-append-drop}
use lib.Seq.{take_at}
use borrow.Author.Tests.{eqb-true, eqb-false, eq-eqb}
use Rattle.head.specs.declared.Head.{Head}
use Rattle.head.specs.Bounds.{none_mark}
use Rattle.head.specs.Walks.{walk}
use Rattle.head.proofs.Walking.{walk_length}
use Rattle.model.specs.Codes.{one, count}
use Rattle.model.specs.Lists.{without, only, oldest}
use Rattle.model.specs.Perform.{Cache}
use Rattle.model.proofs.Cases.{split, eqb_sym}
use Rattle.model.proofs.Counting.{times, of_reverse}
use Rattle.model.proofs.Handing.{oldest_length}
use Rattle.model.proofs.Mapping.{map_length, map_without, map_oldest}
use Rattle.table.specs.Orders.{omit}
use Rattle.table.proofs.Members.{omit_without}
use Rattle.head.specs.Fields.{Fields}
use Rattle.store.specs.State.{gather, Describes}
use Rattle.store.proofs.Gathered.{gathering, only_in}
use Rattle.store.proofs.Described.{slot_once, slot_in_lem}
use Rattle.rows.specs.Views.{skipped, past_at}
use Rattle.rows.proofs.Chains.{Within, back_walk, back_within}

-- k slots from s on, back to front, the skipped one left out
abbrev pub trail : List ℕ → ℕ → ℕ → ℕ → List ℕ
trail pv skip s zero = []
trail pv skip s (suc k) = past_at pv skip s ∷ trail pv skip (get_or pv (past_at pv skip s) 0) k

-- each slot that is met on the way is below n
abbrev pub Safe : ℕ → List ℕ → ℕ → ℕ → ℕ → Type 0
Safe n pv skip s zero = Unit {0}
Safe n pv skip s (suc k) = (s < n) × (past_at pv skip s < n) × Safe n pv skip (get_or pv (past_at pv skip s) 0) k

-- ---- a list without a number

omit_hit : (s x : ℕ) (xs : List ℕ) → eqb x s ≡ true → omit s (x ∷ xs) ≡ omit s xs
unfolding omit
omit_hit s x xs t = rw t

omit_miss : (s x : ℕ) (xs : List ℕ) → eqb x s ≡ false → omit s (x ∷ xs) ≡ x ∷ omit s xs
unfolding omit
omit_miss s x xs t = rw t

counts_hit : (s x : ℕ) → eqb x s ≡ true → one (eqb s x) ≡ 1
counts_hit s x t = rw (eqb_sym s x, t)

counts_miss : (s x : ℕ) → eqb x s ≡ false → one (eqb s x) ≡ 0
counts_miss s x t = rw (eqb_sym s x, t)

omit_none : (s : ℕ) (l : List ℕ) → count s l ≡ 0 → omit s l ≡ l
unfolding omit
omit_none s [] h = refl
omit_none s (x ∷ xs) h =
    split (eqb x s)
    (λ t. absurd (omega (arith, counts_hit s x t)))
    (λ t. omit_miss s x xs t ∙ ap (λ (l : List ℕ). x ∷ l) (omit_none s xs (omega arith)))

omit_place : (i s : ℕ) (l : List ℕ) → count s l ≤ 1 → only i l ≡ s ∷ [] → omit s l ≡ without i l
unfolding omit
omit_place i s [] h o = refl
omit_place zero s (x ∷ xs) h o =
    let t : eqb x s ≡ true = eq-eqb x s (head-eq_of_cons-eq o) in
    omit_hit s x xs t ∙ omit_none s xs (omega (arith, counts_hit s x t))
omit_place (suc i) s (x ∷ xs) h o =
    split (eqb x s)
    (λ t. absurd (omega (arith, counts_hit s x t, only_in i s xs o)))
    (λ t. omit_miss s x xs t ∙ ap (λ (l : List ℕ). x ∷ l) (omit_place i s xs (omega arith) o))

omit_append : (s : ℕ) (xs ys : List ℕ) → omit s (xs ++ ys) ≡ omit s xs ++ omit s ys
unfolding omit
omit_append s [] ys = refl
omit_append s (x ∷ xs) ys =
    split (eqb x s)
    (λ t. rw (omit_hit s x (xs ++ ys) t, omit_hit s x xs t) (omit_append s xs ys))
    (λ t. rw (omit_miss s x (xs ++ ys) t, omit_miss s x xs t) (ap (λ (l : List ℕ). x ∷ l) (omit_append s xs ys)))

omit_reverse : (s : ℕ) (l : List ℕ) → omit s (reverse l) ≡ reverse (omit s l)
unfolding omit
omit_reverse s [] = refl
omit_reverse s (x ∷ xs) =
    ap (omit s) (reverse-cons x xs) ∙ omit_append s (reverse xs) (x ∷ [])
    ∙ split (eqb x s)
    (λ t. rw (omit_hit s x [] t, omit_hit s x xs t, append-nil) (omit_reverse s xs))
    (λ t. rw (omit_miss s x [] t, omit_miss s x xs t, reverse-cons x (omit s xs)) (ap (λ (l : List ℕ). l ++ (x ∷ [])) (omit_reverse s xs)))

-- none stands at a place past the end
pub without_none : {A : Type 0} (i : ℕ) (l : List A) → only i l ≡ [] → without i l ≡ l
without_none i [] o = refl
without_none zero (x ∷ xs) o = absurd (let z : ◌≡◌ {A = ℕ} 1 0 = ap length o in omega arith)
without_none (suc i) (x ∷ xs) o = ap (λ (l : List _). x ∷ l) (without_none i xs o)

pub only_end : {A : Type 0} (l : List A) → only (length l) l ≡ []
only_end [] = refl
only_end (x ∷ xs) = only_end xs

pub oldest_take : {A : Type 0} (k : ℕ) (xs : List A) → k ≤ length xs → oldest k xs ≡ take k (reverse xs)
oldest_take {A} k xs h =
    let n = length xs - k in
    let whole : reverse xs ≡ reverse (drop n xs) ++ reverse (take n xs) =
    ap reverse (sym (take-append-drop n xs)) ∙ reverse-append (take n xs) (drop n xs) in
    sym (ap (take k) whole ∙ take_at (reverse (drop n xs)) (reverse (take n xs)) k (oldest_length k xs h))

-- ---- the walk

past_hit : (pv : List ℕ) (skip s : ℕ) → eqb s skip ≡ true → past_at pv skip s ≡ get_or pv s 0
past_hit pv skip s t = rw t

past_miss : (pv : List ℕ) (skip s : ℕ) → eqb s skip ≡ false → past_at pv skip s ≡ s
past_miss pv skip s t = rw t

-- the first of a walk that does not meet a slot
first_miss : (pv : List ℕ) (skip s m : ℕ) → 1 ≤ m → count skip (walk pv s m) ≡ 0 → eqb s skip ≡ false
unfolding walk
first_miss pv skip s zero h o = absurd (omega arith)
first_miss pv skip s (suc m) h o = split (eqb s skip) (λ t. absurd (omega (arith, counts_hit skip s t))) (λ t. t)

record Trailed (n : ℕ) (pv : List ℕ) (skip s k : ℕ) (l : List ℕ) : Type 0 where
  pub same : trail pv skip s k ≡ take k l
  pub safe : Safe n pv skip s k

module _ (n : ℕ) (pv : List ℕ) (skip : ℕ) where
  trail_hit : (s k : ℕ) (l : List ℕ) → s < n → eqb s skip ≡ true → eqb (get_or pv s 0) skip ≡ false → Trailed n pv skip (get_or pv s 0) (suc k) l → Trailed n pv skip s (suc k) l
  trail_hit s k l h t u r =
      let p = past_hit pv skip s t in
      let q = past_miss pv skip (get_or pv s 0) u in
      record {
        same = rw (p, ← q) r.same;
        safe = (h, rw p r.safe.0, rw (p, ← q) r.safe.2);
      }

  trail_miss : (s k : ℕ) (l : List ℕ) → s < n → eqb s skip ≡ false → Trailed n pv skip (get_or pv s 0) k l → Trailed n pv skip s (suc k) (s ∷ l)
  trail_miss s k l h t r =
      let p = past_miss pv skip s t in
      record {
        same = rw p (ap (λ (m : List ℕ). s ∷ m) r.same);
        safe = (h, rw p h, rw p r.safe);
      }

  trail_of : (s m k : ℕ) → Within n (walk pv s m) → count skip (walk pv s m) ≤ 1 → k ≤ length (omit skip (walk pv s m)) → Trailed n pv skip s k (omit skip (walk pv s m))
  unfolding walk omit
  trail_of s m zero w o h = record { same = refl; safe = tt }
  trail_of s zero (suc k) w o h = absurd (omega arith)
  trail_of s (suc m) (suc k) w o h =
      let s' = get_or pv s 0 in
      let rest = walk pv s' m in
      split (eqb s skip)
      (λ t.
      let z : suc k ≤ length (omit skip rest) = rw (omit_hit skip s rest t) at h in
      let y : count skip rest ≡ 0 = omega (arith, counts_hit skip s t) in
      let u = first_miss pv skip s' m (omega (arith, (omit_without skip rest).short, walk_length pv s' m)) y in
      rw (omit_hit skip s rest t) (trail_hit s k (omit skip rest) w.0 t u (trail_of s' m (suc k) w.1 (omega arith) z)))
      (λ t.
      let z : suc k ≤ suc (length (omit skip rest)) = rw (omit_miss skip s rest t) at h in
      rw (omit_miss skip s rest t) (trail_miss s k (omit skip rest) w.0 t (trail_of s' m k w.1 (omega (arith, counts_miss skip s t)) (omega arith))))

-- ---- of a described cache

module _ {h : Head} {f : Fields} {nx pv st cells : List ℕ} {c : Cache} (d : Describes h f nx pv st cells c) (skip i : ℕ)
    (there : only i c.slots.order ≡ skipped skip) where
  omit_order : omit skip c.slots.order ≡ without i c.slots.order
  omit_order =
      let o = c.slots.order in
      split (eqb skip none_mark)
      (λ t.
      let z : only i o ≡ [] = rw t at there in
      let e : skip ≡ none_mark = eqb-true skip none_mark t in
      let none : count skip o ≡ 0 = absent e in
      omit_none skip o none ∙ sym (without_none i o z))
      (λ t. omit_place i skip o (slot_once d skip) (rw t at there))
    where
      absent : skip ≡ none_mark → count skip c.slots.order ≡ 0
      absent e =
          split (eqb (count skip c.slots.order) 0)
          (λ t. eqb-true (count skip c.slots.order) 0 t)
          (λ t. absurd (omega (arith, slot_in_lem d skip (some t), d.links.long.small)))
        where
          some : eqb (count skip c.slots.order) 0 ≡ false → 1 ≤ count skip c.slots.order
          some t = omega (arith, eqb-false (count skip c.slots.order) 0 t)

  gathered_without : gather f (without i c.slots.order) ≡ without i c.desk.entries
  gathered_without = map_without (gathering f) i c.slots.order ∙ ap (without i) d.entries

  pub without_length : length (without i c.slots.order) ≡ length (without i c.desk.entries)
  without_length = sym (map_length (gathering f) (without i c.slots.order)) ∙ ap length gathered_without

  walked : omit skip (walk pv h.back.0 h.live) ≡ reverse (without i c.slots.order)
  walked = ap (omit skip) (back_walk d.links) ∙ omit_reverse skip c.slots.order ∙ ap reverse omit_order

  module _ (k : ℕ) (some : k ≤ length (without i c.desk.entries)) where
    back_trailed : Trailed h.slots pv skip h.back.0 k (omit skip (walk pv h.back.0 h.live))
    back_trailed =
        trail_of h.slots pv skip h.back.0 h.live k
        (rw (back_walk d.links) (back_within d.links))
        (rw (back_walk d.links) (omega (arith, of_reverse (times skip) c.slots.order, slot_once d skip)))
        (omega (arith, ap length walked, length-reverse (without i c.slots.order), without_length))

    pub trail_safe : Safe h.slots pv skip h.back.0 k
    trail_safe = back_trailed.safe

    -- the entries of the trail are the oldest
    pub trail_oldest : gather f (trail pv skip h.back.0 k) ≡ oldest k (without i c.desk.entries)
    trail_oldest =
        let o = without i c.slots.order in
        ap (gather f) (back_trailed.same ∙ ap (take k) walked ∙ sym (oldest_take k o (omega (arith, without_length))))
        ∙ map_oldest (gathering f) k o ∙ ap (oldest k) gathered_without
