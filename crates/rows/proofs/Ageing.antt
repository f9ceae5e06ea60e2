-- The loop that goes back to front and writes the oldest entries.
-- Assumes nothing.
use Prim.Native.Nat.{ℕ, zero, suc, ◌+◌, ◌-◌, ◌≤◌, ◌<◌}
use mathlib.Core.List.{List}
use mathlib.Core.Path.{◌≡◌, refl, ap, ◌∙◌, subst}
use native.Mathlib.Omega.{arith}
use lib.ListN.{length, get_or}
use Rattle.head.specs.declared.Head.{Head}
use Rattle.head.specs.declared.Row.{Row}
use Rattle.head.specs.Bounds.{most_slots}
use Rattle.model.proofs.Counting.{sized, of_without}
use Rattle.model.proofs.Mapping.{map_length}
use Rattle.head.specs.Fields.{Fields, Reach}
use Rattle.store.specs.State.{gather, entry_in}
use Rattle.store.specs.Acts.{Writable, Wrote}
use Rattle.store.proofs.Gathered.{gathering}
use Rattle.store.proofs.Writing.{writable}
use Rattle.rows.specs.Views.{past_at}
use Rattle.rows.specs.Answers.{Aged, WroteOldest}
use Rattle.rows.proofs.Trails.{trail, Safe, trail_safe, trail_oldest}
use Rattle.rows.proofs.Laying.{Laying, laying_start, laying_end, laying_room, laying_step}

trail_length : (pv : List ℕ) (skip s k : ℕ) → length (trail pv skip s k) ≡ k
trail_length pv skip s zero = refl
trail_length pv skip s (suc k) = ap suc (trail_length pv skip (get_or pv (past_at pv skip s) 0) k)

-- j rows are written, and k - j are still to come
pub record Ageing (f : Fields) (pv : List ℕ) (k skip : ℕ) (before now : Fields) (s₀ s j : ℕ) : Type 0 where
  pub bound : ℕ
  pub reach : Reach bound f
  pub prevs : bound ≤ length pv
  pub most : j ≤ k
  pub few : k ≤ most_slots
  pub safe : Safe bound pv skip s (k - j)
  pub laying : Laying (gather f (trail pv skip s₀ k)) before now j (gather f (trail pv skip s (k - j)))

pub age_start : {h : Head} {f : Fields} {pv : List ℕ} {k skip : ℕ} {rows : Fields} → Aged h f pv k skip rows → Ageing f pv k skip rows rows h.back.0 h.back.0 0
age_start {h} {f} {pv} {k} {skip} {rows} r =
    let d = r.seen.described in
    let z : k - 0 ≡ k = omega arith in
    record {
      bound = h.slots;
      reach = d.reach;
      prevs = d.links.long.prevs;
      most = omega arith;
      few = omega (arith, r.some, of_without sized r.place r.cache.desk.entries, d.lawful.roomy, d.lawful.room.1);
      safe = rw z (trail_safe d skip r.place r.there k r.some);
      laying = rw z (laying_start (rw (map_length (gathering f) (trail pv skip h.back.0 k), trail_length pv skip h.back.0 k) r.room));
    }

module _ {f : Fields} {pv : List ℕ} {k skip : ℕ} {before now : Fields} {s₀ s j : ℕ} (v : Ageing f pv k skip before now s₀ s j) (h : j < k) where
  one_less : k - j ≡ suc (k - (j + 1))
  one_less = omega arith

  safe_more : Safe v.bound pv skip s (suc (k - (j + 1)))
  safe_more = subst (Safe v.bound pv skip s) one_less v.safe

  laying_more : Laying (gather f (trail pv skip s₀ k)) before now j (gather f (trail pv skip s (suc (k - (j + 1)))))
  laying_more = subst (λ (m : ℕ). Laying (gather f (trail pv skip s₀ k)) before now j (gather f (trail pv skip s m))) one_less v.laying

  pub age_inside : s < length pv
  age_inside = omega (arith, safe_more.0, v.prevs)

  pub age_readable : (x : ℕ) → x ≡ past_at pv skip s → Writable x f
  age_readable x e = writable (rw e safe_more.1) v.reach

  pub age_linked : (x : ℕ) → x ≡ past_at pv skip s → x < length pv
  age_linked x e = omega (arith, e, safe_more.1, v.prevs)

  pub age_room : Writable j now
  age_room = laying_room laying_more

  pub age_small : j < most_slots
  age_small = omega (arith, v.few)

  pub age_step : (now' : Fields) (x y : ℕ) (e : Row) → x ≡ past_at pv skip s → e ≡ entry_in f x → Wrote j e now now' → y ≡ get_or pv x 0 → Ageing f pv k skip before now' s₀ y (j + 1)
  age_step now' x y e rx re w ry =
      let wrote : Wrote j (entry_in f (past_at pv skip s)) now now' = rw (re ∙ ap (entry_in f) rx) at w in
      rw (ry, rx)
      record {
        bound = v.bound;
        reach = v.reach;
        prevs = v.prevs;
        most = omega arith;
        few = v.few;
        safe = safe_more.2;
        laying = laying_step laying_more wrote;
      }

pub age_end : {h : Head} {f : Fields} {pv : List ℕ} {k skip : ℕ} {before now : Fields} {s j : ℕ} → Ageing f pv k skip before now h.back.0 s j → k ≤ j
    → WroteOldest h f pv k skip before now
age_end {h} {f} {pv} {k} {skip} {s = s} {j} v done = record {
  written = λ c i t some w.
      let z : k - j ≡ 0 = omega arith in
      rw (trail_oldest w.described skip i t k some) at (laying_end (ap (λ (m : ℕ). gather f (trail pv skip s m)) z) v.laying);
}
