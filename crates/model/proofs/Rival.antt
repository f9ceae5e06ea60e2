-- Demand 3 on codes: beside any keeper with H places, (C - H + 1) times the "new" answers are at most C times the codes that it brought in.
-- The potential is the sum of the ranks, in the cache's list, of the codes that the keeper holds.
-- Assumes nothing.
use Prim.Native.Nat.{ℕ, zero, suc, ◌+◌, ◌-◌, ◌*◌, ◌≤◌}
use mathlib.Core.Bool.{true, ◌||◌}
use mathlib.Core.List.{List, [], ◌∷◌}
use mathlib.Core.Path.{◌≡◌, refl}
use native.Mathlib.Omega.{arith}
use native.Mathlib.Nat.{le_refl, le_of_eq}
use lib.ListN.{length}
use Rattle.head.specs.declared.Code.{Code}
use Rattle.head.specs.declared.Command.TheVariants.{Put}
use Rattle.model.specs.Lists.{but_last}
use Rattle.model.specs.Desk.{plain}
use Rattle.model.specs.Perform.{Cache, fresh, perform}
use Rattle.model.specs.Codes.{one, has, Distinct}
use Rattle.model.specs.Runs.{Call, step, after, Sort, sort_of, Word, word_of, is_new, is_value, Requests, new_answers, Serves, Keeps, brought}
use Rattle.model.proofs.Cases.{split}
use Rattle.model.proofs.Sums.{total, grows}
use Rattle.model.proofs.Rank.{minus, minus_absent, rank, ranks, rank_le, rank_take, front_any, front_new}
use Rattle.model.proofs.Plain.{codes, Plain, Moved, added, pushed, renewed, raised, missed, looked, request_asked, put_word_lem, after_plain, fresh_plain}

module _ (m H K : ℕ) (same : K + H ≡ suc m + 1) where
  -- the potential pays K for a "new" answer: the holding o serves the request, and the codes go from l to r
  falls : (l o r : List ℕ) (s : Sort) (w : Word) → Moved (suc m) l s w r → Distinct o → length o ≤ H → Serves s w o
      → K * one (is_new w) + ranks (suc m) r o ≤ ranks (suc m) l o
  falls l o r s w (added c a f) d n h =
      let t = front_new m c l l (λ q. rw (minus_absent c l a) (le_refl (rank m q l))) o h a in
      omega arith
  falls l o r s w (pushed c a f) d n h =
      let t = front_new m c l (but_last 1 l) (λ q. rw (minus_absent c l a) (le_of_eq (rank_take m (length l - 1) q l (omega arith)))) o h a in
      omega arith
  falls l o r s w (renewed c a) d n h = let t = front_any m c l (minus c l) (λ q. le_refl (rank m q (minus c l))) o d h in omega arith
  falls l o r s w (raised c a) d n h = let t = front_any m c l (minus c l) (λ q. le_refl (rank m q (minus c l))) o d (h refl) in omega arith
  falls l o r s w (missed c a) d n h = omega arith
  falls l o r s w (looked w' a) d n h = rw a (omega arith)

  -- from any plain cache and any holding p on
  runs : (N : ℕ) → suc m ≤ N → (as' : List Call) (os : List (List ℕ)) (c : Cache) (p : List ℕ) → Requests as' → Plain (suc m) N c → Keeps H c as' os
      → K * new_answers c as' ≤ suc m * brought p os + ranks (suc m) (codes c) p
  runs N wide [] [] c p r h k = omega arith
  runs N wide [] (o ∷ os) c p r h k = absurd k
  runs N wide (a ∷ as') [] c p r h k = absurd k
  runs N wide (a ∷ as') (o ∷ os) c p r h k =
      let q = request_asked (suc m) N (omega arith) wide c h a.command a.lent r.0 in
      let t = runs N wide as' os (step a c).left o r.1 q.plain k.3 in
      let s = falls (codes c) o (codes (step a c).left) (sort_of a.command) (word_of (step a c).answer) q.moved k.0 k.1 k.2 in
      let g = grows (λ (x : ℕ). rank (suc m) x (codes c)) (suc m) (λ x. rank_le (suc m) x (codes c)) p o k.0 in
      omega arith

-- any run of requests from a fresh plain cache with a slot for each of its C entries, beside any keeper with H places
pub rival : (C N H : ℕ) → 1 ≤ H → H ≤ C → C ≤ N → (as' : List Call) (os : List (List ℕ)) → Requests as' → Keeps H (fresh plain C N) as' os
    → (C - H + 1) * new_answers (fresh plain C N) as' ≤ C * brought [] os
unfolding total
rival zero N H h₁ h₂ h₃ as' os r k = absurd (omega arith)
rival (suc m) N H h₁ h₂ h₃ as' os r k =
    let t = runs m H (suc m - H + 1) (omega arith) N h₃ as' os (fresh plain (suc m) N) [] r (fresh_plain (suc m) N) k in
    omega arith

-- nowhere in such a run is a `put` refused
pub no_refusal : (C N : ℕ) → 1 ≤ C → C ≤ N → (as' : List Call) → Requests as' → (k : Code) (s v lent : ℕ) → 1 ≤ lent
    → let w : Word = word_of (perform (Put k s v) lent (after (fresh plain C N) as')).answer in is_new w || is_value w ≡ true
no_refusal C N some wide as' r k s v lent n =
    let c : Cache = after (fresh plain C N) as' in
    let p = after_plain C N some wide as' (fresh plain C N) r (fresh_plain C N) in
    rw (put_word_lem C N some wide c p k s v lent n) (split (has k.0 (codes c)) (λ e. rw e) (λ e. rw e))
