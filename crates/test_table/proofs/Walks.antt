-- The steps of the loops that walk the links, and what the tests say together.
-- Assumes nothing.
use mathlib.Core.Path.{◌≡◌, sym, ap, subst}
use mathlib.Core.Logic.{◌≢◌, ⊎_elim}
use mathlib.Core.List.Memᴰ
use mathlib.Core.List.{List, [], ◌∷◌, Memᴰ}
use Prim.Native.Nat.{ℕ, suc, ◌-◌, ◌≤◌, ◌<◌, zero-le}
use native.Mathlib.Omega.{arith}
use lib.ListN.{length, get_or}
use Rattle.head.specs.Walks.{walk}
use Rattle.head.proofs.Walking.{walk_length}
use Rattle.model.proofs.Members.{distinct_more}
use Rattle.table.specs.Links.{Listed}
use Rattle.test_table.specs.Tests.{Proper}

walk_step : (next : List ℕ) (at k : ℕ) → 0 < k → walk next at k ≡ at ∷ walk next (get_or next at 0) (k - 1)
unfolding walk
walk_step next at k h = let z : k ≡ suc (k - 1) = omega arith in ap (walk next at) z

walk_none : (next : List ℕ) (at k : ℕ) → k ≤ 0 → walk next at k ≡ []
unfolding walk
walk_none next at k h = let z : k ≡ 0 = omega arith in ap (walk next at) z

-- ---- a slot that is on the links is still ahead

pub ahead_on : (next : List ℕ) (at k s : ℕ) → 0 < k → at ≢ s → Memᴰ s (walk next at k) → Memᴰ s (walk next (get_or next at 0) (k - 1))
ahead_on next at k s h n m = ⊎_elim (λ (e : s ≡ at). absurd (n (sym e))) (λ t. t) (Memᴰ.cases_cons (subst (Memᴰ s) (walk_step next at k h) m))

pub ahead_end : (next : List ℕ) (at k s : ℕ) → k ≤ 0 → Memᴰ s (walk next at k) → ⊥
ahead_end next at k s h m = Memᴰ.not-nil (subst (Memᴰ s) (walk_none next at k h) m)

-- ---- if what is ahead is proper, so is the whole

pub proper_on : (next : List ℕ) (at k : ℕ) → 0 < k → at < 16 → (Memᴰ at (walk next (get_or next at 0) (k - 1)) → ⊥) → Proper (walk next (get_or next at 0) (k - 1))
    → Proper (walk next at k)
proper_on next at k h b n p =
    subst Proper (sym (walk_step next at k h)) (record {
      below = λ s m. ⊎_elim (λ (e : s ≡ at). omega arith) (p.below s) (Memᴰ.cases_cons m);
      once = distinct_more at (walk next (get_or next at 0) (k - 1)) n p.once;
    })

pub proper_end : (next : List ℕ) (at k : ℕ) → k ≤ 0 → Proper (walk next at k)
proper_end next at k h = subst Proper (sym (walk_none next at k h)) (record { below = λ s m. absurd (Memᴰ.not-nil m); once = λ u. zero-le })

-- ---- together

pub listed : {cells codes next : List ℕ} (front live : ℕ) → 32 ≤ length cells → 16 ≤ length codes → 16 ≤ length next → live ≤ 16
    → Proper (walk next front live) → Listed 16 cells codes next (walk next front live)
listed {next} front live a b c l p =
    record {
      wide = a;
      room = omega (arith, walk_length next front live);
      coded = λ s m. (omega (arith, p.below s m), λ e. absurd (omega (arith, p.below s m, e)));
      linked = λ s m. omega (arith, p.below s m);
      once = p.once;
    }
