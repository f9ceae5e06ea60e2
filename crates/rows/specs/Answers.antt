-- What each function asks, and what it says or writes: for every cache that is described.
-- Assumes nothing.
use Rattle.std.specs.Prelude.{ℕ, ◌+◌, ◌≤◌, ◌<◌, true, false, List, reverse, ◌≡◌, length}
use Rattle.head.specs.declared.Head.{Head}
use Rattle.head.specs.declared.Row.{Row}
use Rattle.head.specs.declared.Rule.{Rule}
use Rattle.head.specs.Bounds.{most_slots}
use Rattle.model.specs.Lists.{without, only, oldest, marked, others}
use Rattle.model.specs.Desk.{leaving, keeps, marks}
use Rattle.model.specs.Perform.{Cache}
use Rattle.head.specs.Fields.{Fields, Reach}
use Rattle.store.specs.Acts.{Writable, Wrote}
use Rattle.rows.specs.Views.{Backward, Forward, Weighted, skipped}
use Rattle.rows.specs.Written.{Written}

-- the entries that a rule does not keep
abbrev pub removed : Rule → List Row → List Row
removed q es = marked (others (marks q es)) es

-- some cache has these weights and prev links, and the skipped slot at some place
pub record Budgeted (h : Head) (ws pv : List ℕ) (skip : ℕ) : Type 0 where
  pub cache : Cache
  pub seen : Weighted h ws pv cache
  pub place : ℕ
  pub there : only place cache.slots.order ≡ skipped skip

-- so many leave from the back until the rest, without the skipped one, takes at most b
pub record Leaves (h : Head) (ws pv : List ℕ) (b skip r : ℕ) : Type 0 where
  pub many : (c : Cache) (i : ℕ) → only i c.slots.order ≡ skipped skip → Weighted h ws pv c → r ≡ leaving b (without i c.desk.entries)

-- some cache has these fields and next links
pub record Read (h : Head) (f : Fields) (nx : List ℕ) : Type 0 where
  pub cache : Cache
  pub seen : Forward h f nx cache

-- a rule removes so many
pub record Removes (h : Head) (f : Fields) (nx : List ℕ) (q : Rule) (r : ℕ) : Type 0 where
  pub many : (c : Cache) → Forward h f nx c → r ≡ length (removed q c.desk.entries)

-- some cache has k entries beside the skipped one, and there is room for them as rows
pub record Aged (h : Head) (f : Fields) (pv : List ℕ) (k skip : ℕ) (rows : Fields) : Type 0 where
  pub cache : Cache
  pub seen : Backward h f pv cache
  pub place : ℕ
  pub there : only place cache.slots.order ≡ skipped skip
  pub some : k ≤ length (without place cache.desk.entries)
  pub room : Reach k rows

-- the k oldest beside the skipped one are written, oldest first
pub record WroteOldest (h : Head) (f : Fields) (pv : List ℕ) (k skip : ℕ) (rows rows' : Fields) : Type 0 where
  pub written : (c : Cache) (i : ℕ) → only i c.slots.order ≡ skipped skip → k ≤ length (without i c.desk.entries) → Backward h f pv c
      → Written (oldest k (without i c.desk.entries)) rows rows'

-- there is room for a row at place n where the rule does not keep it
pub record Offered (rows : Fields) (n : ℕ) (q : Rule) (e : Row) : Type 0 where
  pub room : keeps q e ≡ false → Writable n rows
  pub few : n < most_slots

-- the row is written at place n where the rule does not keep it, and the next place comes back
pub record Handed (n : ℕ) (q : Rule) (e : Row) (r : ℕ) (rows rows' : Fields) : Type 0 where
  pub kept : keeps q e ≡ true → (r ≡ n) × (rows' ≡ rows)
  pub gone : keeps q e ≡ false → (r ≡ n + 1) × Wrote n e rows rows'

-- some cache is seen, and there is room for what the rule removes
pub record Sweepable (h : Head) (f : Fields) (nx : List ℕ) (q : Rule) (rows : Fields) : Type 0 where
  pub cache : Cache
  pub seen : Forward h f nx cache
  pub room : Reach (length (removed q cache.desk.entries)) rows

-- what the rule removes is written, front to back
pub record WroteRemoved (h : Head) (f : Fields) (nx : List ℕ) (q : Rule) (rows rows' : Fields) : Type 0 where
  pub written : (c : Cache) → Forward h f nx c → Written (removed q c.desk.entries) rows rows'

-- some cache is seen, and there is room for all its entries
pub record Listable (h : Head) (f : Fields) (nx : List ℕ) (rows : Fields) : Type 0 where
  pub cache : Cache
  pub seen : Forward h f nx cache
  pub room : Reach (length cache.desk.entries) rows

-- all are written, front to back
pub record WroteAll (h : Head) (f : Fields) (nx : List ℕ) (rows rows' : Fields) : Type 0 where
  pub written : (c : Cache) → Forward h f nx c → Written c.desk.entries rows rows'

-- the same by the prev links
pub record ListableBack (h : Head) (f : Fields) (pv : List ℕ) (rows : Fields) : Type 0 where
  pub cache : Cache
  pub seen : Backward h f pv cache
  pub room : Reach (length cache.desk.entries) rows

-- all are written, back to front
pub record WroteBack (h : Head) (f : Fields) (pv : List ℕ) (rows rows' : Fields) : Type 0 where
  pub written : (c : Cache) → Backward h f pv c → Written (reverse c.desk.entries) rows rows'
