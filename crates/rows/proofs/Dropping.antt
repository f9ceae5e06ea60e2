-- The loop that counts how many must leave: what is left of the entries, oldest first, and what they take.
-- Assumes nothing.
use Prim.Native.Nat.{ℕ, zero, suc, ◌+◌, ◌-◌, ◌≤◌, ◌<◌}
use mathlib.Core.List.{List, [], ◌∷◌, ◌++◌, reverse, reverse-cons, reverse-reverse}
use mathlib.Core.Path.{◌≡◌, refl, sym, ap, ◌∙◌}
use native.Mathlib.Omega.{arith}
use lib.Dec.{eqb}
use lib.ListN.{length, get_or}
use borrow.Author.Tests.{ne_eqb}
use Rattle.head.specs.declared.Head.{Head}
use Rattle.head.specs.declared.Row.{Row}
use Rattle.head.specs.Bounds.{none_mark, most_slots, most_capacity}
use Rattle.model.specs.Lists.{without, only, but_last, oldest}
use Rattle.model.specs.Desk.{weighs, leaving}
use Rattle.model.specs.Claims.{spent}
use Rattle.model.specs.Perform.{Cache}
use Rattle.model.proofs.Cases.{split}
use Rattle.model.proofs.Counting.{sized, weighing, of_append, of_reverse, of_without}
use Rattle.model.proofs.Backs.{but_last_back, but_last_none}
use Rattle.model.proofs.Eviction.{one_more, none_leave}
use Rattle.model.proofs.Mapping.{map_only}
use Rattle.head.specs.Fields.{Fields}
use Rattle.store.specs.State.{fields, gather, Describes}
use Rattle.store.proofs.Gathered.{gathering, only_in}
use Rattle.store.proofs.Described.{slot_in_lem, order_live}
use Rattle.rows.specs.Views.{Weighted, skipped, past_at, cost_at, Countable}
use Rattle.rows.specs.Answers.{Budgeted, Leaves}
use Rattle.rows.proofs.Trails.{trail, Safe, trail_safe, trail_oldest}

-- ---- a list from its back on

spent_reverse : (es : List Row) → spent (reverse es) ≡ spent es
spent_reverse es = omega (arith, of_reverse sized es, of_reverse weighing es)

leave_more : (b : ℕ) (e : Row) (es : List Row) → b < spent (e ∷ es) → leaving b (reverse (e ∷ es)) ≡ suc (leaving b (reverse es))
leave_more b e es h =
    let rest : but_last 1 (reverse es ++ (e ∷ [])) ≡ reverse es = but_last_back 0 (reverse es) e ∙ but_last_none (reverse es) in
    let over : b < spent (reverse es ++ (e ∷ [])) =
    omega (arith, of_append sized (reverse es) (e ∷ []), of_append weighing (reverse es) (e ∷ []), spent_reverse es) in
    ap (leaving b) (reverse-cons e es) ∙ one_more b (reverse es ++ (e ∷ [])) over ∙ ap (λ (l : List Row). suc (leaving b l)) rest

leave_none : (b : ℕ) (es : List Row) → spent es ≤ b → leaving b (reverse es) ≡ 0
leave_none b es h = none_leave b (reverse es) (omega (arith, spent_reverse es))

pub oldest_all : {A : Type 0} (xs : List A) → oldest (length xs) xs ≡ reverse xs
oldest_all xs = let z : length xs - length xs ≡ 0 = omega arith in rw z

-- what entries take is read off their weights
spent_fields : (cs ss vs cs' ss' vs' ws l : List ℕ) → spent (gather (fields cs ss vs ws) l) ≡ spent (gather (fields cs' ss' vs' ws) l)
spent_fields cs ss vs cs' ss' vs' ws [] = refl
spent_fields cs ss vs cs' ss' vs' ws (x ∷ xs) = omega (arith, spent_fields cs ss vs cs' ss' vs' ws xs)

-- ---- the loop

-- the entries of m slots from s on, back to front
abbrev aged : List ℕ → List ℕ → List ℕ → List ℕ → List ℕ → ℕ → ℕ → ℕ → List Row
aged cs ss vs ws pv skip s m = gather (fields cs ss vs ws) (trail pv skip s m)

-- m entries are still there, and take `left` together
pub record Stocked (n : ℕ) (ws pv : List ℕ) (skip s left m : ℕ) : Type 0 where
  pub weights : n ≤ length ws
  pub prevs : n ≤ length pv
  pub few : m ≤ most_slots
  pub small : left ≤ most_capacity
  pub safe : Safe n pv skip s m
  pub total : (cs ss vs : List ℕ) → left ≡ spent (aged cs ss vs ws pv skip s m)

stocked_some : (n : ℕ) (ws pv : List ℕ) (b skip s left m : ℕ) → Stocked n ws pv skip s left m → b < left → 1 ≤ m
stocked_some n ws pv b skip s left zero v h = absurd (omega (arith, v.total [] [] []))
stocked_some n ws pv b skip s left (suc m) v h = omega arith

-- the next to leave
record Next (n : ℕ) (ws pv : List ℕ) (b skip s left m : ℕ) : Type 0 where
  pub inside : s < n
  pub here : past_at pv skip s < n
  pub cost : suc (get_or ws (past_at pv skip s) 0) ≤ left
  pub stocked : Stocked n ws pv skip (get_or pv (past_at pv skip s) 0) (left - (get_or ws (past_at pv skip s) 0 + 1)) m
  pub same : (cs ss vs : List ℕ) → leaving b (reverse (aged cs ss vs ws pv skip s (suc m))) ≡ suc (leaving b (reverse (aged cs ss vs ws pv skip (get_or pv (past_at pv skip s) 0) m)))

stocked_next : (n : ℕ) (ws pv : List ℕ) (b skip s left m : ℕ) → Stocked n ws pv skip s left (suc m) → b < left → Next n ws pv b skip s left m
stocked_next n ws pv b skip s left m v h = record {
  inside = v.safe.0;
  here = v.safe.1;
  cost = omega (arith, v.total [] [] []);
  stocked = record {
    weights = v.weights;
    prevs = v.prevs;
    few = omega (arith, v.few);
    small = omega (arith, v.small);
    safe = v.safe.2;
    total = λ cs ss vs. omega (arith, v.total cs ss vs);
  };
  same = λ cs ss vs. leave_more b _ (aged cs ss vs ws pv skip (get_or pv (past_at pv skip s) 0) m) (omega (arith, v.total cs ss vs));
}

-- after k have left
pub record Left (n : ℕ) (ws pv : List ℕ) (b skip s₀ m left s k : ℕ) : Type 0 where
  pub most : k ≤ m
  pub stocked : Stocked n ws pv skip s left (m - k)
  pub same : (cs ss vs : List ℕ) → leaving b (reverse (aged cs ss vs ws pv skip s₀ m)) ≡ k + leaving b (reverse (aged cs ss vs ws pv skip s (m - k)))

-- the same for every stock that the loop may have begun with
pub record Dropping (ws pv : List ℕ) (b skip left₀ s₀ left s k : ℕ) : Type 0 where
  pub onward : (n m : ℕ) → Stocked n ws pv skip s₀ left₀ m → Left n ws pv b skip s₀ m left s k

pub drop_start : (ws pv : List ℕ) (b skip left s : ℕ) → Dropping ws pv b skip left s left s 0
drop_start ws pv b skip left s = record {
  onward = λ n m v.
      let z : m - 0 ≡ m = omega arith in
      record { most = omega arith; stocked = rw z v; same = λ cs ss vs. rw z (omega arith) };
}

-- what the code reads at slot x is there, and nothing wraps
pub record Ready (ws pv : List ℕ) (left k x : ℕ) : Type 0 where
  pub weighs : x < length ws
  pub links : x < length pv
  pub cost : suc (get_or ws x 0) ≤ left
  pub few : k < most_slots
  pub small : left ≤ most_capacity

module _ {ws pv : List ℕ} {b skip left₀ s₀ left s k : ℕ} (v : Dropping ws pv b skip left₀ s₀ left s k) where
  next : {n m : ℕ} → Stocked n ws pv skip s₀ left₀ m → b < left → Next n ws pv b skip s left (m - (k + 1))
  next {n} {m} start h =
      let o = v.onward n m start in
      let some = stocked_some n ws pv b skip s left (m - k) o.stocked h in
      let z : m - k ≡ suc (m - (k + 1)) = omega arith in
      stocked_next n ws pv b skip s left (m - (k + 1)) (rw z at o.stocked) h

  pub drop_inside : {n m : ℕ} → Stocked n ws pv skip s₀ left₀ m → b < left → s < length pv
  drop_inside start h = omega (arith, (next start h).inside, start.prevs)

  pub drop_ready : {n m : ℕ} → Stocked n ws pv skip s₀ left₀ m → (x : ℕ) → b < left → x ≡ past_at pv skip s → Ready ws pv left k x
  drop_ready {n} {m} start x h e =
      let r = next start h in
      let o = v.onward n m start in
      rw e
      record {
        weighs = omega (arith, r.here, start.weights);
        links = omega (arith, r.here, start.prevs);
        cost = r.cost;
        few = omega (arith, stocked_some n ws pv b skip s left (m - k) o.stocked h, start.few);
        small = o.stocked.small;
      }

  pub drop_step : (x y : ℕ) → b < left → x ≡ past_at pv skip s → y ≡ get_or pv x 0 → Dropping ws pv b skip left₀ s₀ (left - (get_or ws x 0 + 1)) y (k + 1)
  drop_step x y h e q =
      rw (q, e)
      record {
        onward = λ n m start.
            let r = next start h in
            let o = v.onward n m start in
            let some = stocked_some n ws pv b skip s left (m - k) o.stocked h in
            let z : m - k ≡ suc (m - (k + 1)) = omega arith in
            record {
              most = omega arith;
              stocked = r.stocked;
              same = λ cs ss vs.
                  omega (arith, o.same cs ss vs, ap (λ (j : ℕ). leaving b (reverse (aged cs ss vs ws pv skip s j))) z, r.same cs ss vs);
            };
      }

-- ---- of a described cache

module _ {h : Head} {f : Fields} {nx pv st cells : List ℕ} {c : Cache} (d : Describes h f nx pv st cells c) (skip i : ℕ)
    (there : only i c.slots.order ≡ skipped skip) where
  only_entry : only i c.desk.entries ≡ gather f (skipped skip)
  only_entry = ap (only i) (sym d.entries) ∙ sym (map_only (gathering f) i c.slots.order) ∙ ap (gather f) there

  skipped_cost : spent (gather f (skipped skip)) ≡ cost_at f.weights skip
  skipped_cost = split (eqb skip none_mark) (λ t. rw t) (λ t. rw t (omega arith))

  parts : spent (without i c.desk.entries) + cost_at f.weights skip ≡ h.live + h.weight
  parts =
      let es = c.desk.entries in
      omega (arith, of_without sized i es, of_without weighing i es, ap length only_entry, ap weighs only_entry, skipped_cost, order_live d, d.weight)

  pub countable : Countable h f.weights skip
  countable = record {
    small = omega (arith, order_live d, d.weight, d.lawful.within, d.lawful.capacity.1);
    inside = λ n.
        let t = ne_eqb skip none_mark n in
        let z : only i c.slots.order ≡ skip ∷ [] = rw t at there in
        omega (arith, slot_in_lem d skip (only_in i skip c.slots.order z), d.reach.weights);
    less = omega (arith, parts);
  }

  pub left_over : h.live + h.weight - cost_at f.weights skip ≡ spent (without i c.desk.entries)
  left_over = omega (arith, parts)

module _ {h : Head} {ws pv : List ℕ} {c : Cache} (w : Weighted h ws pv c) (skip i : ℕ) (there : only i c.slots.order ≡ skipped skip) where
  all_aged : aged w.codes w.stamps w.values ws pv skip h.back.0 (length (without i c.desk.entries)) ≡ reverse (without i c.desk.entries)
  all_aged =
      let es = without i c.desk.entries in
      trail_oldest w.backward.described skip i there (length es) (omega arith) ∙ oldest_all es

  weighted_stocked : (left : ℕ) → left ≡ h.live + h.weight - cost_at ws skip → Stocked h.slots ws pv skip h.back.0 left (length (without i c.desk.entries))
  weighted_stocked left e =
      let d = w.backward.described in
      let es = without i c.desk.entries in
      record {
        weights = d.reach.weights;
        prevs = d.links.long.prevs;
        few = omega (arith, of_without sized i c.desk.entries, d.lawful.roomy, d.lawful.room.1);
        small = omega (arith, e, (countable d skip i there).small);
        safe = trail_safe d skip i there (length es) (omega arith);
        total = λ cs ss vs.
            omega (
              arith,
              e,
              left_over d skip i there,
              spent_reverse es,
              ap spent all_aged,
              spent_fields cs ss vs w.codes w.stamps w.values ws (trail pv skip h.back.0 (length es)),
            );
      }

  weighted_end : {b left₀ left s k : ℕ} → left₀ ≡ h.live + h.weight - cost_at ws skip → Dropping ws pv b skip left₀ h.back.0 left s k → left ≤ b
      → k ≡ leaving b (without i c.desk.entries)
  weighted_end {b} {left₀} {left} {s} {k} e v done =
      let es = without i c.desk.entries in
      let o = v.onward h.slots (length es) (weighted_stocked left₀ e) in
      let none = leave_none b (aged w.codes w.stamps w.values ws pv skip s (length es - k)) (omega (arith, o.stocked.total w.codes w.stamps w.values)) in
      let whole : leaving b (reverse (aged w.codes w.stamps w.values ws pv skip h.back.0 (length es))) ≡ leaving b es =
      ap (λ (l : List Row). leaving b (reverse l)) all_aged ∙ ap (leaving b) (reverse-reverse es) in
      omega (arith, o.same w.codes w.stamps w.values, none, whole)

module _ {h : Head} {ws pv : List ℕ} {skip : ℕ} (p : Budgeted h ws pv skip) where
  pub budget_countable : Countable h ws skip
  budget_countable = countable p.seen.backward.described skip p.place p.there

  pub budget_stocked : {left : ℕ} → left ≡ h.live + h.weight - cost_at ws skip
      → Stocked h.slots ws pv skip h.back.0 left (length (without p.place p.cache.desk.entries))
  budget_stocked {left} e = weighted_stocked p.seen skip p.place p.there left e

pub drop_end : {h : Head} {ws pv : List ℕ} {b skip left₀ left s k : ℕ} → left₀ ≡ h.live + h.weight - cost_at ws skip
    → Dropping ws pv b skip left₀ h.back.0 left s k → left ≤ b → Leaves h ws pv b skip k
drop_end {skip = skip} e v done = record { many = λ c i t w. weighted_end w skip i t e v done }
