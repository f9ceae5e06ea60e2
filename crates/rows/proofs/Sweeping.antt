-- The loops that go front to back and ask a rule of each entry: counting those it removes, and writing them.
-- Assumes nothing.
use Prim.Native.Nat.{ℕ, zero, suc, ◌+◌, ◌-◌, ◌≤◌, ◌<◌}
use mathlib.Core.Bool.{Bool, true, false, not}
use mathlib.Core.List.{List, [], ◌∷◌}
use mathlib.Core.Path.{◌≡◌, refl, sym, ap, ◌∙◌, subst}
use native.Mathlib.Omega.{arith}
use lib.ListN.{length, get_or}
use Rattle.head.specs.declared.Head.{Head}
use Rattle.head.specs.declared.Row.{Row}
use Rattle.head.specs.declared.Rule.{Rule}
use Rattle.head.specs.Bounds.{most_slots}
use Rattle.head.specs.Walks.{walk}
use Rattle.model.specs.Codes.{one}
use Rattle.model.specs.Desk.{keeps}
use Rattle.model.specs.Perform.{Cache}
use Rattle.model.proofs.Cases.{split}
use Rattle.head.specs.Fields.{Fields, Reach}
use Rattle.list.proofs.Unique.{order_is}
use Rattle.store.specs.State.{gather, entry_in}
use Rattle.store.specs.Acts.{Writable}
use Rattle.store.proofs.Writing.{writable}
use Rattle.store.proofs.Described.{order_live}
use Rattle.rows.specs.Views.{Forward}
use Rattle.rows.specs.Answers.{removed, Read, Removes, Offered, Handed, Sweepable, WroteRemoved}
use Rattle.rows.proofs.Chains.{Within, order_within}
use Rattle.rows.proofs.Laying.{Laying, laying_start, laying_end, laying_room, laying_step}

pub removed_kept : (q : Rule) (e : Row) (es : List Row) → keeps q e ≡ true → removed q (e ∷ es) ≡ removed q es
removed_kept q e es t = rw t

pub removed_gone : (q : Rule) (e : Row) (es : List Row) → keeps q e ≡ false → removed q (e ∷ es) ≡ e ∷ removed q es
removed_gone q e es t = rw t

removed_length : (q : Rule) (e : Row) (es : List Row) → length (removed q (e ∷ es)) ≡ one (not (keeps q e)) + length (removed q es)
removed_length q e es =
    split (keeps q e)
    (λ t. let z : one (not (keeps q e)) ≡ 0 = rw t in omega (arith, ap length (removed_kept q e es t)))
    (λ t. let z : one (not (keeps q e)) ≡ 1 = rw t in omega (arith, ap length (removed_gone q e es t)))

-- `left` slots from s on are still to come, each within the lists
pub record Ahead (f : Fields) (nx : List ℕ) (s left : ℕ) : Type 0 where
  pub bound : ℕ
  pub reach : Reach bound f
  pub nexts : bound ≤ length nx
  pub within : Within bound (walk nx s left)

-- the entries of those slots
abbrev coming : Fields → List ℕ → ℕ → ℕ → List Row
coming f nx s left = gather f (walk nx s left)

coming_more : (f : Fields) (nx : List ℕ) (s left : ℕ) → 0 < left → coming f nx s left ≡ entry_in f s ∷ coming f nx (get_or nx s 0) (left - 1)
unfolding walk
coming_more f nx s zero h = absurd (omega arith)
coming_more f nx s (suc left) h =
    let z : suc left - 1 ≡ left = omega arith in
    ap (λ (j : ℕ). entry_in f s ∷ gather f (walk nx (get_or nx s 0) j)) (sym z)

coming_none : (f : Fields) (nx : List ℕ) (s left : ℕ) → left ≤ 0 → coming f nx s left ≡ []
unfolding walk
coming_none f nx s zero h = refl
coming_none f nx s (suc left) h = absurd (omega arith)

ahead_parts : (nx : List ℕ) (n s left : ℕ) → 0 < left → Within n (walk nx s left) → (s < n) × Within n (walk nx (get_or nx s 0) (left - 1))
unfolding walk
ahead_parts nx n s zero h w = absurd (omega arith)
ahead_parts nx n s (suc left) h w = let z : suc left - 1 ≡ left = omega arith in rw z w

module _ {f : Fields} {nx : List ℕ} where
  pub ahead_readable : {s left : ℕ} → Ahead f nx s left → 0 < left → Writable s f
  ahead_readable {s} {left} v h = writable (ahead_parts nx v.bound s left h v.within).0 v.reach

  pub ahead_linked : {s left : ℕ} → Ahead f nx s left → 0 < left → s < length nx
  ahead_linked {s} {left} v h = omega (arith, (ahead_parts nx v.bound s left h v.within).0, v.nexts)

  ahead_step : {s left : ℕ} → Ahead f nx s left → 0 < left → Ahead f nx (get_or nx s 0) (left - 1)
  ahead_step {s} {left} v h = record { bound = v.bound; reach = v.reach; nexts = v.nexts; within = (ahead_parts nx v.bound s left h v.within).1 }

-- ---- of a described cache

module _ {h : Head} {f : Fields} {nx : List ℕ} {c : Cache} (w : Forward h f nx c) where
  pub coming_entries : coming f nx h.front.0 h.live ≡ c.desk.entries
  coming_entries = ap (gather f) (sym (order_is w.described.links)) ∙ w.described.entries

  forward_ahead : Ahead f nx h.front.0 h.live
  forward_ahead =
      let d = w.described in
      record {
        bound = h.slots;
        reach = d.reach;
        nexts = d.links.long.nexts;
        within = subst (Within h.slots) (order_is d.links) (order_within d.links);
      }

  live_few : h.live ≤ most_slots
  live_few = let d = w.described in omega (arith, order_live d, d.lawful.roomy, d.lawful.room.1)

-- ---- counting

-- n are counted, and the rest is still to come
pub record Counting (f : Fields) (nx : List ℕ) (q : Rule) (s₀ left₀ s left n : ℕ) : Type 0 where
  pub ahead : Ahead f nx s left
  pub few : n + left ≤ most_slots
  pub same : length (removed q (coming f nx s₀ left₀)) ≡ n + length (removed q (coming f nx s left))

pub count_start : {h : Head} {f : Fields} {nx : List ℕ} (q : Rule) → Read h f nx → Counting f nx q h.front.0 h.live h.front.0 h.live 0
count_start q r = record { ahead = forward_ahead r.seen; few = omega (arith, live_few r.seen); same = omega arith }

one_small : (b : Bool) → one b ≤ 1
one_small true = omega arith
one_small false = omega arith

pub count_fits : {f : Fields} {nx : List ℕ} {q : Rule} {s₀ left₀ s left n : ℕ} (e : Row) → Counting f nx q s₀ left₀ s left n → 0 < left → n + one (not (keeps q e)) ≤ most_slots
count_fits {q = q} e v h = omega (arith, v.few, one_small (not (keeps q e)))

pub count_step : {f : Fields} {nx : List ℕ} {q : Rule} {s₀ left₀ s left n : ℕ} (e : Row) (a t : ℕ) → Counting f nx q s₀ left₀ s left n → 0 < left
    → e ≡ entry_in f s → a ≡ one (not (keeps q e)) → t ≡ get_or nx s 0 → Counting f nx q s₀ left₀ t (left - 1) (n + a)
count_step {f} {nx} {q} {s₀} {left₀} {s} {left} {n} e a t v h re ra rt =
    rw (ra, rt)
    record {
      ahead = ahead_step v.ahead h;
      few = omega (arith, v.few, one_small (not (keeps q e)));
      same =
          omega (
            arith,
            v.same,
            ap (λ (l : List Row). length (removed q l)) (coming_more f nx s left h),
            removed_length q (entry_in f s) (coming f nx (get_or nx s 0) (left - 1)),
            ap (λ (x : Row). one (not (keeps q x))) re,
          );
    }

pub count_end : {h : Head} {f : Fields} {nx : List ℕ} {q : Rule} {s left n : ℕ} → Counting f nx q h.front.0 h.live s left n → left ≤ 0 → Removes h f nx q n
count_end {h} {f} {nx} {q} {s} {left} {n} v done = record {
  many = λ c w.
      omega (
        arith,
        v.same,
        ap (λ (l : List Row). length (removed q l)) (coming_entries w),
        ap (λ (l : List Row). length (removed q l)) (coming_none f nx s left done),
      );
}

-- ---- writing

-- n rows are written, and the rest is still to come
pub record Sweeping (f : Fields) (nx : List ℕ) (q : Rule) (before now : Fields) (s₀ left₀ s left n : ℕ) : Type 0 where
  pub ahead : Ahead f nx s left
  pub few : n + left ≤ most_slots
  pub laying : Laying (removed q (coming f nx s₀ left₀)) before now n (removed q (coming f nx s left))

pub sweep_start : {h : Head} {f : Fields} {nx : List ℕ} {q : Rule} {rows : Fields} → Sweepable h f nx q rows
    → Sweeping f nx q rows rows h.front.0 h.live h.front.0 h.live 0
sweep_start {q = q} {rows = rows} r = record {
  ahead = forward_ahead r.seen;
  few = omega (arith, live_few r.seen);
  laying = laying_start (rw (coming_entries r.seen) r.room);
}

module _ {f : Fields} {nx : List ℕ} {q : Rule} {before now : Fields} {s₀ left₀ s left n : ℕ} (v : Sweeping f nx q before now s₀ left₀ s left n) where
  module _ (e : Row) (h : 0 < left) (re : e ≡ entry_in f s) where
    rest : removed q (coming f nx s left) ≡ removed q (e ∷ coming f nx (get_or nx s 0) (left - 1))
    rest = ap (removed q) (coming_more f nx s left h ∙ ap (λ (x : Row). x ∷ coming f nx (get_or nx s 0) (left - 1)) (sym re))

    gone_laying : keeps q e ≡ false → Laying (removed q (coming f nx s₀ left₀)) before now n (e ∷ removed q (coming f nx (get_or nx s 0) (left - 1)))
    gone_laying t = rw (rest ∙ removed_gone q e (coming f nx (get_or nx s 0) (left - 1)) t) at v.laying

    kept_laying : keeps q e ≡ true → Laying (removed q (coming f nx s₀ left₀)) before now n (removed q (coming f nx (get_or nx s 0) (left - 1)))
    kept_laying t = rw (rest ∙ removed_kept q e (coming f nx (get_or nx s 0) (left - 1)) t) at v.laying

    pub sweep_offered : Offered now n q e
    sweep_offered = record { room = λ t. laying_room (gone_laying t); few = omega (arith, v.few) }

    pub sweep_step : (now' : Fields) (t r : ℕ) → t ≡ get_or nx s 0 → Handed n q e r now now' → Sweeping f nx q before now' s₀ left₀ t (left - 1) r
    sweep_step now' t r rt p =
        rw rt
        (split (keeps q e)
        (λ k.
        rw ((p.kept k).0, (p.kept k).1)
        record { ahead = ahead_step v.ahead h; few = omega (arith, v.few); laying = kept_laying k })
        (λ k.
        rw (p.gone k).0
        record { ahead = ahead_step v.ahead h; few = omega (arith, v.few); laying = laying_step (gone_laying k) (p.gone k).1 }))

pub sweep_end : {h : Head} {f : Fields} {nx : List ℕ} {q : Rule} {before now : Fields} {s left n : ℕ} → Sweeping f nx q before now h.front.0 h.live s left n → left ≤ 0
    → WroteRemoved h f nx q before now
sweep_end {f = f} {nx} {q} {s = s} {left} v done = record {
  written = λ c w. rw (ap (removed q) (coming_entries w)) at (laying_end (ap (removed q) (coming_none f nx s left done)) v.laying);
}
